-- Collections of one field share no member, and there is an object at the place of each member.
use Rattle.std.specs.Prelude.{◌≡◌, ◌≢◌, ℕ, Some}
use Rattle.ic_link_ops.specs.Prelude.{IsDistinct, IsDisjoint, ArePlaced}
use Rattle.ic_world.specs.Family.{Family, Sequence, collection, objects_of}

module _ {A V : Type 0} where
  -- NO MEMBER IS SHARED: no place is in a collection twice, and no place is in two collections of one field
  abbrev pub AreApart : Family A V → Type 0
  AreApart w = ((c : ℕ) (s : Sequence) → collection w c ≡ Some s → IsDistinct s.members)
      × ((c d : ℕ) (s t : Sequence) → c ≢ d → collection w c ≡ Some s → collection w d ≡ Some t → s.field ≡ t.field → IsDisjoint s.members t.members)

  -- EVERY MEMBER IS PLACED: there is an object at the place of each member of each collection
  abbrev pub AreAllPlaced : Family A V → Type 0
  AreAllPlaced w = (c : ℕ) (s : Sequence) → collection w c ≡ Some s → ArePlaced (objects_of w) s.members
