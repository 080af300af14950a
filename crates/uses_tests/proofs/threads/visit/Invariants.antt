use Rattle.ic_atomic.specs.Holders.{IsOf}
use Rattle.uses_tests.proofs.threads.visit.Given as goal

abbrev pub invariant-loop : goal.invariant-loop
invariant-loop g l = record { made : IsOf l.claims l.holder }
