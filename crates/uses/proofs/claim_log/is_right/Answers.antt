use Rattle.std.specs.Cmp.{booleans_Decides}
use Rattle.std.proofs.lemmas.Slice.Eq.{slice_eq-Decides}
use Rattle.uses.proofs.claim_log.is_right.Goals as goal

pub returns-clause-right : goal.returns-clause-right
returns-clause-right g c =
    rw (c.as_slice.ensures.value, c.in_ok-replay.ensures.answers, c.new-answers.ensures.items) at (slice_eq-Decides booleans_Decides c.as_slice.result.now c.args.answered.now c.eq.result c.eq.ensures)
