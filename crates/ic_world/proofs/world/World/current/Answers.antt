use Rattle.ic_world.proofs.Ranged.{current_read}
use Rattle.ic_world.proofs.world.World.current.Goals as goal

pub returns-in-Some : goal.returns-in-Some
returns-in-Some g c = rw c.cursor.ensures (current_read g.A.Key.Ord.cmp g.A.KeyAdapter.key_of c.args.self.now c.args.collection c.in-Some.ensures.some)
