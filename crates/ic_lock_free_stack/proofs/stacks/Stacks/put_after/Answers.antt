use Rattle.std.proofs.Common.{arith}
use Rattle.ic_lock_free_stack.proofs.MovingLemmas.{joins}
use Rattle.ic_lock_free_stack.proofs.stacks.Stacks.put_after.Goals as goal

pub join_seat-requires : goal.join_seat-requires
join_seat-requires g c = (c.requires.seat, c.requires.other.0, c.requires.other.1, omega (arith, c.args.self.now.some, c.args.self.now.words), joins _ _ _ _ _)
