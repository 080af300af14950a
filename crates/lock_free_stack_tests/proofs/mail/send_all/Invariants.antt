use Rattle.std.proofs.Common.{◌≤◌}
use Rattle.ic_lock_free_stack.specs.Holders.{spent_by, IsOf}
use Rattle.lock_free_stack_tests.proofs.mail.send_all.Given as goal

abbrev pub invariant-loop-i : goal.invariant-loop-i
invariant-loop-i l = record { made : IsOf l.stacks l.holder; spent : spent_by l.holder ≤ l.i }
