use Rattle.ic_lock_free_stack.proofs.PushLemmas.{IsTrying}
use Rattle.ic_lock_free_stack.proofs.stacks.Stacks.push_linked.Given as goal

abbrev pub invariant-loop : goal.invariant-loop
invariant-loop g l = IsTrying l.self l.fn.holder l.holder l.stack l.back l.head l.counter
