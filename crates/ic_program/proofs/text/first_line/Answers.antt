use Rattle.std.proofs.Common.{take, ap, ◌∙◌}
use Rattle.ic_program.proofs.TextLemmas.{take_line}
use Rattle.ic_program.proofs.text.first_line.Goals as goal

pub returns : goal.returns
returns c = ap (λ k. take k c.args.text.now) c.line_length.ensures.length ∙ take_line c.args.text.now
