use Rattle.std.proofs.Common.{arith}
use Rattle.ic_lock_free_stack.proofs.MovingLemmas.{splits}
use Rattle.ic_lock_free_stack.proofs.stacks.Stacks.first_of.Goals as goal

pub split_seat-requires : goal.split_seat-requires
split_seat-requires g c = (c.requires.seat, omega (arith, c.args.self.now.some, c.args.self.now.words), splits _ _ _)
