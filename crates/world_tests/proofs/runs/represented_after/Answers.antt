use Rattle.world_tests.proofs.Represented.{represented_in_order}
use Rattle.world_tests.proofs.runs.represented_after.Goals as goal

pub returns : goal.returns
returns g c =
    let h = c.in-Ok.ensures.lawful in
    rw (rw c.new-answers.ensures.items at h.1)
    (represented_in_order g.A.Key.Ord.cmp g.A.KeyAdapter.key_of _ _ _ _ _ _ h.3 c.in-Ok-show.ensures)
