use Rattle.std.proofs.Common.{All}
use Rattle.ic_atomic.specs.Holders.{IsOf}
use Rattle.claims_tests.proofs.makings.is_first_alone.Given as goal

abbrev pub invariant-loop-index : goal.invariant-loop-index
invariant-loop-index l = All (λ h. IsOf l.claims h) l.holders.items
