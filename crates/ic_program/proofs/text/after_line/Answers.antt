use Rattle.std.proofs.Common.{◌∙◌}
use Rattle.ic_program.proofs.TextLemmas.{slice_from}
use Rattle.ic_program.proofs.text.after_line.Goals as goal

pub returns-in_ok-taken-in_default : goal.returns-in_ok-taken-in_default
returns-in_ok-taken-in_default c = (c.in_ok-taken-in_default.ensures.end.0, slice_from c.in_ok-taken-in_default.taken c.args.text.now ∙ c.in_ok-taken-in_default.ensures.end.1)
