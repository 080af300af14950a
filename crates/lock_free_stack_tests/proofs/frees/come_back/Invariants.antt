use Rattle.std.proofs.Common.{◌≤◌}
use Rattle.ic_lock_free_stack.specs.Holders.{spent_by, IsOf}
use Rattle.lock_free_stack_tests.proofs.frees.come_back.Given as goal

abbrev pub invariant-loop-stack : goal.invariant-loop-stack
invariant-loop-stack g l = record { made : IsOf l.stacks l.last; spent : spent_by l.last ≤ l.stack }
