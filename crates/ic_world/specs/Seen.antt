-- What is known of a collection when a call reads it by its number.
use Rattle.std.specs.Prelude.{◌≡◌, ℕ, Some}
use Rattle.ic_link_ops.specs.Prelude.{Table, ArePlaced}
use Rattle.ic_any_collection.specs.declared.entry.Entry.{Entry}
use Rattle.ic_any_collection.specs.declared.any_collection.AnyCollection.{AnyCollection}
use Rattle.ic_any_collection.specs.AnyCollection.{members_in, Held}
use Rattle.ic_world.specs.Family.{Family, Sequence, collection, objects_of}
use Rattle.ic_world.specs.Turns.{state_of}
use Rattle.ic_world.specs.Several.{state_in}

-- the collection with number c in the family w is stored as m. The table t of its field represents the members of m, and there is an object at each
-- of these places
pub record Sees {A V : Type 0} (w : Family A V) (c : ℕ) (t : Table Entry) (m : AnyCollection V) : Type 0 where
  pub s : Sequence
  pub is : collection w c ≡ Some s
  pub state : state_in w s ≡ state_of t m
  pub held : Held t m
  pub placed : ArePlaced (objects_of w) (members_in t m)
