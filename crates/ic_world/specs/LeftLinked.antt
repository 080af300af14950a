-- Places that are linked but are members of no collection, as `fast_clear` leaves them.
use Rattle.std.specs.Prelude.{◌≡◌, ℕ, Bool, true, false, List, map, Option, Some, slice_index_or}
use Rattle.std.specs.FinSet as set
use Rattle.ic_link_ops.specs.Prelude.{Place, index_of, Objects, IsAbsent}
use Rattle.ic_world.specs.declared.collection.Collection.{Collection}
use Rattle.ic_world.specs.declared.field.WorldField.{WorldField}
use Rattle.ic_world.specs.Family.{Family, Sequence, collection, linked_of}
use Rattle.ic_world.specs.Tables.{table_of, left_in, family_of, IsWhole}

module _ {A V : Type 0} where
  -- the place p is linked in the field f, but is a member of no collection of that field
  abbrev pub IsLeftLinked : Family A V → ℕ → Place → Type 0
  IsLeftLinked w f p = (set.contains (linked_of w f) (index_of p) ≡ true) × ((c : ℕ) (s : Sequence) → collection w c ≡ Some s → s.field ≡ f → IsAbsent p s.members)

  -- NO PLACE IS LEFT LINKED in a field whose mark in `left` is false: each linked place of the field is a member of a collection of the field
  pub record NoneLeftLinked (left : List Bool) (w : Family A V) : Type 0 where
    pub none : (f : ℕ) (p : Place) → slice_index_or left f true ≡ false → IsLeftLinked w f p → ⊥

-- THE INVARIANT of a world: its tables represent the members of its collections, as `IsWhole` says. Only a field with the mark `left_linked` can have
-- a linked place that is a member of no collection
abbrev pub IsKept : {A V M : Type 0} → A → Objects V → ℕ → List (WorldField M) → List (Option (Collection V)) → Type 0
IsKept adapter objects room fields cs =
    IsWhole objects room (map table_of fields) cs × NoneLeftLinked (left_in fields) (family_of adapter objects (map table_of fields) cs)
