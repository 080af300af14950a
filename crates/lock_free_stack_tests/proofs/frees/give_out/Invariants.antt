use Rattle.std.proofs.Common.{◌≤◌, ◌+◌, ◌*◌, List}
use Rattle.ic_unsafe_ref.specs.declared.place.Place.{Place}
use Rattle.ic_lock_free_stack.specs.Holders.{spent_by}
use Rattle.stack_uses.specs.Frees.{user_of, HasFree}
use Rattle.lock_free_stack_tests.proofs.frees.give_out.Given as goal

abbrev pub invariant-loop-index : goal.invariant-loop-index
invariant-loop-index l = record { kept : (s : List Place) × HasFree l.stacks l.owner s; spent : spent_by (user_of l.owner) ≤ 0 }

abbrev pub invariant-loop-turn : goal.invariant-loop-turn
invariant-loop-turn l = record { kept : (s : List Place) × HasFree l.stacks l.owner s; spent : spent_by (user_of l.owner) ≤ 2 * l.turn }

abbrev pub invariant-loop : goal.invariant-loop
invariant-loop l = record { kept : (s : List Place) × HasFree l.stacks l.owner s; spent : spent_by (user_of l.owner) ≤ 40000 + l.counter }
