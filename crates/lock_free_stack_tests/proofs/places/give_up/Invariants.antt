use Rattle.std.proofs.Common.{◌≡◌, List}
use Rattle.ic_unsafe_ref.specs.declared.place.Place.{Place}
use Rattle.ic_lock_free_stack.specs.Holders.{spent_by, IsOf, HasChain, left_of}
use Rattle.lock_free_stack_tests.proofs.places.give_up.Given as goal

abbrev pub invariant-loop-place : goal.invariant-loop-place
invariant-loop-place l = record {
  made : IsOf l.stacks l.holder;
  shown : (s : List Place) × HasChain l.stacks l.holder l.chain s;
  spent : spent_by l.holder ≡ spent_by l.fn.holder;
}

abbrev pub decreases-loop-place : goal.decreases-loop-place
decreases-loop-place l = left_of l.holder l.chain
