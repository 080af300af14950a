use Rattle.std.proofs.Common.{Some, None}
use Rattle.ic_program.proofs.TextLemmas.{line_after}
use Rattle.ic_program.proofs.LinesLemmas.{after_drop}
use Rattle.ic_program.proofs.text.other_line.Goals as goal

pub returns-in-Some-clause-end : goal.returns-in-Some-clause-end
returns-in-Some-clause-end c =
    let after = line_after c.args.text.now c.without_spaces.result.now (Some c.in-Some.rest) c.without_spaces.ensures c.in-Some.ensures in
    (after.0, after_drop c.args.text.now c.in-Some.rest.now c.saturating_sub.result after.1 c.saturating_sub.ensures)

pub returns-in-None-clause-end : goal.returns-in-None-clause-end
returns-in-None-clause-end c = line_after c.args.text.now c.without_spaces.result.now None c.without_spaces.ensures c.in-None.ensures
