use Rattle.std.proofs.Common.{subst}
use Rattle.ic_world.specs.Sound.{IsSound}
use Rattle.ic_world.proofs.Sound.{is_sound}
use Rattle.ic_world.proofs.world.World.family_is_sound.Goals as goal

pub returns : goal.returns
returns g c = subst IsSound c.self.view_is (is_sound c.self.inside.adapter _ c.self.invariant)
