-- This file declares nothing. It exports the names that most proofs about worlds use.
pub use Rattle.ic_world.specs.Answers.{reply_in}
pub use Rattle.ic_world.specs.ByNumber.{AreNumbered, by_number, disposed, in_field, in_slot, items_of, live_in, lying}
pub use Rattle.ic_world.specs.Calls.{Call, Replies, Reply, State, asks, asks_unlinked, cleared, done, entry, field, found, has_call, is_linked_in, items, key_at, looked, member_at, moved, names, object, object_or_nothing, opened, put, range, refusal_of, refused, swapped, unlinked, without}
pub use Rattle.ic_world.specs.Collections.{its_field, its_members}
pub use Rattle.ic_world.specs.Family.{Family, LinkField, Sequence, collection, field_of, has_field, is_among, is_linked_somewhere, is_member_in, is_placed, linked_of, objects_of, same_place, with_collection, with_linked, with_opened}
pub use Rattle.ic_world.specs.LeftLinked.{IsKept, NoneLeftLinked}
pub use Rattle.ic_world.specs.Several.{OpensWith, PartsOf, SplicesAt, StepBy, StepOut, asks_collection, refusal_of_part, refusal_of_splice, sequence_of, state_in, with_state}
pub use Rattle.ic_world.specs.Sound.{IsSound, IsSoundIn}
pub use Rattle.ic_world.specs.Step.{Accepts, AcceptsOn, Runs, Step, StepOn, refusal, refusal_on}
pub use Rattle.ic_world.specs.Tables.{HasObject, IsWhole, at, family_of, field_in, left_in, no_table, represented_as, seen_as, sequence, table, table_of}
pub use Rattle.ic_world.specs.Turns.{Ran, Turns, state_of}
