use Rattle.std.proofs.Common.{◌≡◌, length}
use Rattle.claims_tests.proofs.turns.is_right_of_cores.Given as goal

abbrev pub invariant-loop-party : goal.invariant-loop-party
invariant-loop-party g l = (length l.applied ≡ l.places) × (length l.replayed ≡ l.places)
