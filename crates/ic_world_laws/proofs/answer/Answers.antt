use Rattle.ic_world_laws.proofs.RunLaws.{is_lawful}
use Rattle.ic_world_laws.proofs.answer.Goals as goal

pub returns : goal.returns
returns g c = is_lawful g.met.A.Key.Ord.total g.A.KeyAdapter.key_of _ c.family_is_sound.ensures c.args.command _ _ c.answer.ensures
