use Rattle.std.proofs.Common.{map, sym, subst}
use Rattle.ic_world.specs.Prelude.{reply_in, IsSound}
use Rattle.ic_world_laws.proofs.RunLaws.{are_lawful, keep_order, last_sound, of_result, on_ok}
use Rattle.ic_world_laws.proofs.run.Goals as goal

pub returns-clause-sound : goal.returns-clause-sound
returns-clause-sound g c = (
  c.family_is_sound.ensures,
  of_result c.run.result
      (λ h. last_sound g.met.A.Key.Ord.total g.A.KeyAdapter.key_of _ c.family_is_sound.ensures _ (map reply_in h.0) _
      (are_lawful g.met.A.Key.Ord.total g.A.KeyAdapter.key_of _ c.family_is_sound.ensures _ (map reply_in h.0) _ h.2))
      (λ h. subst IsSound (sym h.0) c.family_is_sound.ensures)
      c.run.ensures.ran c.run.ensures.refused,
)

pub returns-clause-lawful : goal.returns-clause-lawful
returns-clause-lawful g c = on_ok c.run.result
    (λ h.
    let lawful = are_lawful g.met.A.Key.Ord.total g.A.KeyAdapter.key_of _ c.family_is_sound.ensures _ (map reply_in h.0) _ h.2 in
    (h.0, h.1, lawful, keep_order g.met.A.Key.Ord.total g.A.KeyAdapter.key_of _ _ (map reply_in h.0) _ lawful))
    c.run.ensures.ran
