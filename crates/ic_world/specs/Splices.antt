-- Splices that move all members of one collection after or before the cursor of another.
use Rattle.std.specs.Prelude.{◌≡◌, ◌≢◌, ℕ, Bool, true, false, List, [], Option, Some, None, length, ◌<◌, slice_set}
use Rattle.ic_link_ops.specs.Prelude.{Place, Cut, IsAfter, IsBefore, IsDisjoint, Table}
use Rattle.ic_any_collection.specs.declared.entry.Entry.{Entry}
use Rattle.ic_any_collection.specs.declared.kind.Kind.{Kind}
use Rattle.ic_any_collection.specs.declared.any_collection.AnyCollection.{AnyCollection}
use Rattle.ic_any_collection.specs.AnyCollection.{is_list, is_two_way_list, kind_in, cursor_in, members_in, Keeps, Held, Alike}
use Rattle.ic_any_collection.specs.Edits.{AtGap, PutsAll}
use Rattle.ic_world.specs.declared.collection.Collection.{Collection}
use Rattle.ic_world.specs.Tables.{table, at}

-- a gap is directly before the cursor if the first argument is true, and directly after the cursor if it is false
abbrev pub IsBesideOf : Bool → Cut → Option Place → Type 0
IsBesideOf true = IsBefore
IsBesideOf false = IsAfter

-- which kinds of collection can take a splice before the cursor (`true`) or after the cursor (`false`)
abbrev pub can_splice : Bool → Kind → Bool
can_splice true = is_two_way_list
can_splice false = is_list

module _ {V : Type 0} where
  -- THE COLLECTION m' IS m WITHOUT MEMBERS, with its cursor at null. The former members stay linked
  pub record Emptied (m m' : AnyCollection V) : Type 0 where
    pub kept : (t : Table Entry) (s : List Place) → Keeps t m s → Keeps t m' []
    pub alike : Alike m m'
    pub null : cursor_in m' ≡ None

  -- the members `r` are inserted into the gap before the cursor if `before` is true, and otherwise into the gap after it
  abbrev pub PutsBeside : Bool → (t t' : Table Entry) (m m' : AnyCollection V) (r : List Place) → Type 0
  PutsBeside before t t' m m' r = AtGap (members_in t m) (λ gap. IsBesideOf before gap (cursor_in m) × PutsAll t t' m m' gap r)

  -- the collection l can be spliced into the collection k: both are in one table, are lists of one kind, and share no member
  pub record CanJoin (before : Bool) (ts : List (Table Entry)) (k l : Collection V) : Type 0 where
    pub there : k.field < length ts
    pub held : Held (table ts k.field) k.members
    pub given : Held (table ts k.field) l.members
    pub can : can_splice before (kind_in k.members) ≡ true
    pub kinds : kind_in l.members ≡ kind_in k.members
    pub apart : IsDisjoint (members_in (table ts k.field) l.members) (members_in (table ts k.field) k.members)

  -- the collections with the numbers c and d exist and differ, and the collection d can be spliced into the collection c
  pub record CanBeJoined (before : Bool) (ts : List (Table Entry)) (cs : List (Option (Collection V))) (c d : ℕ) : Type 0 where
    pub list : Collection V
    pub given : Collection V
    pub list_is : at cs c ≡ Some list
    pub given_is : at cs d ≡ Some given
    pub differ : c ≢ d
    pub can : CanJoin before ts list given

  -- THE MEMBERS OF l MOVE beside the cursor of k, and l is then empty. Of all tables, only that of the field of k changes
  pub record PutsTogether (before : Bool) (ts us : List (Table Entry)) (k l k' l' : Collection V) : Type 0 where
    pub t : Table Entry
    pub tables : us ≡ slice_set ts k.field t
    pub field : k'.field ≡ k.field
    pub given_field : l'.field ≡ l.field
    pub emptied : Emptied l.members l'.members
    pub puts : PutsBeside before (table ts k.field) t k.members k'.members (members_in (table ts k.field) l.members)

  -- the members of the collection d move beside the cursor of the collection c. All other collections of `cs` stay
  pub record IsJoined (before : Bool) (ts us : List (Table Entry)) (cs new : List (Option (Collection V))) (c d : ℕ) (k l : Collection V) : Type 0 where
    pub list : Collection V
    pub given : Collection V
    pub puts : PutsTogether before ts us k l list given
    pub is : new ≡ slice_set (slice_set cs d (Some given)) c (Some list)

  abbrev pub AreJoined : Bool → (ts us : List (Table Entry)) (cs new : List (Option (Collection V))) (c d : ℕ) → Type 0
  AreJoined before ts us cs new c d = (k l : Collection V) → at cs c ≡ Some k → at cs d ≡ Some l → IsJoined before ts us cs new c d k l
