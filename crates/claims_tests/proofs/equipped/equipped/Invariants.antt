use Rattle.std.proofs.Common.{All, vec_len}
use Rattle.ic_atomic.specs.Holders.{IsOf}
use Rattle.claims_tests.proofs.equipped.equipped.Given as goal

abbrev pub invariant-loop-holder : goal.invariant-loop-holder
invariant-loop-holder l = All (λ h. IsOf l.claims h) l.holders.items

abbrev pub decreases-loop-holder : goal.decreases-loop-holder
decreases-loop-holder l = vec_len l.holders
