use Rattle.std.proofs.Common.{subst}
use Rattle.ic_world.specs.Apart.{AreApart}
use Rattle.ic_world.proofs.Apart.{are_apart}
use Rattle.ic_world.proofs.world.World.no_member_is_shared.Goals as goal

pub returns : goal.returns
returns g c = subst AreApart c.self.view_is (are_apart c.self.inside.adapter c.self.invariant.0)
