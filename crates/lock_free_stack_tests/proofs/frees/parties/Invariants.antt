use Rattle.std.proofs.Common.{◌≤◌, length, All}
use Rattle.ic_lock_free_stack.specs.Holders.{stacks_of, IsOf, IsNew}
use Rattle.lock_free_stack_tests.proofs.frees.parties.Given as goal

abbrev pub invariant-loop-holder : goal.invariant-loop-holder
invariant-loop-holder l = record { made : All (λ h. IsOf l.stacks h × IsNew h) l.holders.items; many : length l.holders.items ≤ stacks_of l.stacks }

abbrev pub decreases-loop-holder : goal.decreases-loop-holder
decreases-loop-holder l = length l.holders.items
