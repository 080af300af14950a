use Rattle.std.proofs.Common.{◌≤◌, ◌*◌}
use Rattle.ic_lock_free_stack.specs.Holders.{spent_by, IsOf}
use Rattle.lock_free_stack_tests.proofs.frees.free_lent.Given as goal

abbrev pub invariant-loop : goal.invariant-loop
invariant-loop l = record { made : IsOf l.stacks l.holder; spent : spent_by l.holder ≤ 3 * l.counter }
