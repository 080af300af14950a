use Rattle.std.proofs.Common.{List}
use Rattle.ic_unsafe_ref.specs.declared.place.Place.{Place}
use Rattle.ic_lock_free_stack.specs.Holders.{left_of}
use Rattle.ic_lock_free_stack.proofs.TurnLemmas.{IsTurning}
use Rattle.ic_lock_free_stack.proofs.stacks.Stacks.reversed.Given as goal

abbrev pub invariant-loop-place : goal.invariant-loop-place
invariant-loop-place g l = (s : List Place) × IsTurning l.self l.fn.holder l.holder l.fn.chain l.chain l.turned s

abbrev pub decreases-loop-place : goal.decreases-loop-place
decreases-loop-place g l = left_of l.holder l.chain
