use Rattle.std.proofs.Common.{arith}
use Rattle.ic_atomic.proofs.RuleLemmas.{joins}
use Rattle.ic_atomic.proofs.claims.Claims.put_after.Goals as goal

pub join_seat-requires : goal.join_seat-requires
join_seat-requires g c = (c.requires.seat, c.requires.other.0, c.requires.other.1, omega (arith, c.args.self.now.room), joins _ _ _ _ _)
