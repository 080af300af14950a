use Rattle.std.proofs.Common.{arith}
use Rattle.ic_atomic.proofs.RuleLemmas.{splits}
use Rattle.ic_atomic.proofs.claims.Claims.first_of.Goals as goal

pub split_seat-requires : goal.split_seat-requires
split_seat-requires g c = (c.requires.seat, omega (arith, c.args.self.now.room), splits _ _ _)
