use Rattle.std.proofs.Common.{length, All}
use Rattle.ic_lock_free_stack.specs.Holders.{IsOf, IsNew}
use Rattle.lock_free_stack_tests.proofs.mail.correspondents.Given as goal

abbrev pub invariant-loop-holder : goal.invariant-loop-holder
invariant-loop-holder l = All (λ h. IsOf l.stacks h × IsNew h) l.holders.items

abbrev pub decreases-loop-holder : goal.decreases-loop-holder
decreases-loop-holder l = length l.holders.items
