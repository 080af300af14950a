-- What a seek does: it moves the cursor of a collection to a named member, and writes no table.
use Rattle.std.specs.Prelude.{◌≡◌, Some, Result, OnOk, OnErr}
use Rattle.ic_link_ops.specs.Prelude.{Place, Table}
use Rattle.ic_any_collection.specs.declared.entry.Entry.{Entry}
use Rattle.ic_any_collection.specs.declared.any_collection.AnyCollection.{AnyCollection}
use Rattle.ic_any_collection.specs.Edits.{Moves}
use Rattle.ic_world.specs.declared.call.Refusal.{Refusal}
use Rattle.ic_world.specs.declared.calls.seek.Seek.{Seek}
use Rattle.ic_world.specs.Calls.{refusal_of_seek}
use Rattle.ic_world.specs.Turns.{refusal_in, state_of}

-- if one of its tests fails, the seek is refused, and the collection stays as it is. If all tests pass, the cursor is on the place p afterwards
pub record Sought {V : Type 0} (call : Seek) (p : Place) (t : Table Entry) (m : AnyCollection V) (result : Result Unit Refusal) (m' : AnyCollection V) : Type 0 where
  pub tested : refusal_in result ≡ refusal_of_seek call (state_of t m)
  pub moved : OnOk result (Moves t m m' (Some p))
  pub unchanged : OnErr result (m' ≡ m)
