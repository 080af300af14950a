-- The collections of a world by number, as their calls see and change them.
use Rattle.std.specs.Prelude.{◌≡◌, ℕ, List, Option, Some, None, slice_set}
use Rattle.ic_link_ops.specs.Prelude.{Place, IsMember, Table}
use Rattle.ic_any_collection.specs.declared.entry.Entry.{Entry}
use Rattle.ic_any_collection.specs.declared.any_collection.AnyCollection.{AnyCollection}
use Rattle.ic_any_collection.specs.AnyCollection.{members_in, Held}
use Rattle.ic_world.specs.declared.collection.Collection.{Collection}
use Rattle.ic_world.specs.Tables.{at}

module _ {V : Type 0} where
  -- the number of a collection's field, or none if there is no collection
  abbrev pub its_field : Option (Collection V) → Option ℕ
  its_field None = None
  its_field (Some k) = Some k.field

  -- the list or tree of a collection with its cursor, or none if there is no collection
  abbrev pub its_members : Option (Collection V) → Option (AnyCollection V)
  its_members None = None
  its_members (Some k) = Some k.members

  -- the collection with `m` as its list or tree. Its field stays
  abbrev pub having : AnyCollection V → Option (Collection V) → Option (Collection V)
  having m None = None
  having m (Some k) = Some (record { field = k.field; members = m })

  -- the list of collections in which the collection with number c has `m` as its list or tree. All others are as in `cs`
  abbrev pub with_members : List (Option (Collection V)) → ℕ → AnyCollection V → List (Option (Collection V))
  with_members cs c m = slice_set cs c (having m (at cs c))

  -- the table t of the field f represents the members of each collection of that field, as `Held` says
  abbrev pub AreHeld : List (Option (Collection V)) → ℕ → Table Entry → Type 0
  AreHeld cs f t = (c : ℕ) (k : Collection V) → at cs c ≡ Some k → k.field ≡ f → Held t k.members

  -- the place p is a member of some collection of the field f. The table of the field is t
  pub record HasMember (cs : List (Option (Collection V))) (f : ℕ) (t : Table Entry) (p : Place) : Type 0 where
    pub number : ℕ
    pub one : Collection V
    pub is : at cs number ≡ Some one
    pub field : one.field ≡ f
    pub member : IsMember p (members_in t one.members)
