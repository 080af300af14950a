use Rattle.std.proofs.Common.{◌∙◌}
use Rattle.ic_program.proofs.LinesLemmas.{line_step, not_ended}
use Rattle.ic_program.proofs.text.line_length.Goals as goal

pub loop-at-preserved : goal.loop-at-preserved
loop-at-preserved c =
    c.loop-at.invariant ∙ line_step c.args.text.now c.loop-at.at c.loop-at-test.true (not_ended c.args.text.now c.loop-at.at c.after_end.result _ c.if-is_some.ensures c.after_end.ensures)
