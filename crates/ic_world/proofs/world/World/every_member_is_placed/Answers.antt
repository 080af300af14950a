use Rattle.std.proofs.Common.{subst}
use Rattle.ic_world.specs.Apart.{AreAllPlaced}
use Rattle.ic_world.proofs.Apart.{are_all_placed}
use Rattle.ic_world.proofs.world.World.every_member_is_placed.Goals as goal

pub returns : goal.returns
returns g c = subst AreAllPlaced c.self.view_is (are_all_placed c.self.inside.adapter c.self.invariant.0)
