use Rattle.std.proofs.Common.{◌≤◌}
use Rattle.ic_lock_free_stack.specs.Holders.{spent_by, IsOf}
use Rattle.lock_free_stack_tests.proofs.threads.push_some.Given as goal

abbrev pub invariant-loop-turn : goal.invariant-loop-turn
invariant-loop-turn l = record { made : IsOf l.stacks l.holder; spent : spent_by l.holder ≤ l.turn }
