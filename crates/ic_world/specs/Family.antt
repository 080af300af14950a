-- WHAT A WORLD IS, independent of the tables that store it: objects, fields and collections.
use Rattle.std.specs.Prelude.{ℕ, Bool, true, false, cond, ◌&&◌, List, [], ◌∷◌, ◌++◌, length, slice_index_or, slice_set, Option, Some, None, is_some, nat_lt, nat_eq}
use Rattle.std.specs.List.{list_any}
use Rattle.std.specs.Ordering.{nat_cmp}
use Rattle.std.specs.FinSet as set
use Rattle.std.specs.FinMap as map
use Rattle.ic_link_ops.specs.Prelude.{Place, index_of, Objects, first}
use Rattle.ic_any_collection.specs.declared.kind.Kind.{Kind}
use Rattle.ic_any_collection.specs.declared.kind.Kind.TheVariants.{Singly}
use Rattle.ic_any_collection.specs.Kinds.{number_of}

-- A LINK FIELD of a world has the kind of its table, and the set of its linked places, which are stored by index
pub record LinkField : Type 0 where
  pub kind : Kind
  pub linked : set.FinSet nat_cmp

-- A COLLECTION has the number of its field, its kind, its members in order, and the member that its cursor is on
pub record Sequence : Type 0 where
  pub field : ℕ
  pub kind : Kind
  pub members : List Place
  pub cursor : Option Place

-- A FAMILY is a world without its tables: the adapter that computes keys, the values by the index of their place, the fields, and the collections by
-- number
pub record Family (A V : Type 0) : Type 0 where
  pub adapter : A
  pub objects : map.FinMap nat_cmp V
  pub fields : List LinkField
  pub collections : List (Option Sequence)

-- whether two kinds, two places or two cursor positions are equal
abbrev pub same_kind : Kind → Kind → Bool
same_kind k l = nat_eq (number_of k) (number_of l)

abbrev pub same_place : Place → Place → Bool
same_place p q = nat_eq (index_of p) (index_of q)

abbrev pub same_position : Option Place → Option Place → Bool
same_position None None = true
same_position (Some p) (Some q) = same_place p q
same_position _ _ = false

-- whether p is a member of s
abbrev pub is_among : Place → List Place → Bool
is_among p [] = false
is_among p (x ∷ s) = cond (same_place x p) true (is_among p s)

-- `before_or` is the member before p, or `b` if p is the first. `after_of` is the member after p, or none if p is the last
abbrev pub before_or : Option Place → List Place → Place → Option Place
before_or b [] p = None
before_or b (x ∷ s) p = cond (same_place x p) b (before_or (Some x) s p)

abbrev pub after_of : List Place → Place → Option Place
after_of [] p = None
after_of (x ∷ s) p = cond (same_place x p) (first s) (after_of s p)

-- the member after a cursor's position, or the first member if the cursor is at null
abbrev pub next_of : List Place → Option Place → Option Place
next_of s None = first s
next_of s (Some p) = after_of s p

-- whether a collection belongs to the field f and has the member p
abbrev pub has_member_in : ℕ → Place → Option Sequence → Bool
has_member_in f p None = false
has_member_in f p (Some s) = nat_eq s.field f && is_among p s.members

module _ {A V : Type 0} where
  -- five functions read the family w: the collection with number c, the field f, its linked places, whether the field exists, and whether there is an
  -- object at p
  abbrev pub collection : Family A V → ℕ → Option Sequence
  collection w c = slice_index_or w.collections c None

  abbrev pub field_of : Family A V → ℕ → LinkField
  field_of w f = slice_index_or w.fields f (record { kind = Singly; linked = set.empty })

  abbrev pub linked_of : Family A V → ℕ → set.FinSet nat_cmp
  linked_of w f = (field_of w f).linked

  abbrev pub has_field : Family A V → ℕ → Bool
  has_field w f = nat_lt f (length w.fields)

  abbrev pub is_placed : Family A V → Place → Bool
  is_placed w p = is_some (map.get w.objects (index_of p))

  -- `is_linked_somewhere` says whether p is linked in any field. `is_member_in` says whether p is a member of any collection of the field f
  abbrev pub is_linked_somewhere : Family A V → Place → Bool
  is_linked_somewhere w p = list_any (λ (f : LinkField). set.contains f.linked (index_of p)) w.fields

  abbrev pub is_member_in : Family A V → ℕ → Place → Bool
  is_member_in w f p = list_any (has_member_in f p) w.collections

  -- the values of the objects by place, as the contracts of keyed calls see them
  abbrev pub objects_of : Family A V → Objects V
  objects_of w = record { values = w.objects; next = 0 }

  -- three functions change a family: they set the linked places of the field f, set the collection with number c, or append one more collection.
  -- Everything else stays
  abbrev pub with_linked : Family A V → ℕ → set.FinSet nat_cmp → Family A V
  with_linked w f l = record w { fields = slice_set w.fields f (record { kind = (field_of w f).kind; linked = l }) }

  abbrev pub with_collection : Family A V → ℕ → Option Sequence → Family A V
  with_collection w c s = record w { collections = slice_set w.collections c s }

  abbrev pub with_opened : Family A V → Sequence → Family A V
  with_opened w s = record w { collections = w.collections ++ Some s ∷ [] }
