-- This file declares nothing. It exports the names that most proofs about stacks that threads share use.
pub use Rattle.ic_lock_free_stack.specs.Ends.{first, last}
pub use Rattle.ic_lock_free_stack.specs.Held.{accounts_in, fresh, hand, made, noted, only_first, sees, without_first}
pub use Rattle.ic_lock_free_stack.specs.Holders.{AreKnown, HasChain, IsNew, IsOf, IsSeatOf, KeepsChains, Stays, Steps, account_of, hand_with, holders_of, name_of, party_of, places_of, record_of, seen_of, spent_by, stacks_of}
pub use Rattle.ic_lock_free_stack.specs.Moments.{Fits, IsLegal, IsOnce, Moment, after, at_first, entry, in_stack, is_in, is_nowhere, is_with, members_after, moment_after, moves, nowhere, same, stack_after, steps_of, with_holder}
pub use Rattle.ic_lock_free_stack.specs.OneHistory.{GoesOn, IsHistory, IsKept, IsOneHistory, IsSeen, IsSound, Party, heads_in}
pub use Rattle.ic_lock_free_stack.specs.Orders.{got, of_history, of_record, sent}
pub use Rattle.ic_lock_free_stack.specs.Records.{GivesUp, brings, holds, most_steps, on_head, pushes_and_takes}
pub use Rattle.ic_lock_free_stack.specs.Words.{AreKnownTo, Spells, forgets, head_at, known_of, knows, knows_all, link_to, word_at}
