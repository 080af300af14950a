use Rattle.std.proofs.Common.{rules, arith, sym, ◌∙◌}
use Rattle.std.proofs.lemmas.Grind.{common_steps}
use Rattle.ic_program.proofs.Digits.{all_leading, read_more, no_number}
use Rattle.ic_program.proofs.word.leading_number.Goals as goal

pub returns-in_err-number-clause-valid : goal.returns-in_err-number-clause-valid
returns-in_err-number-clause-valid c =
    search (rules, no_number c.args.text.now c.loop-digit.number c.loop-digit.digit-index c.loop-digit-test.true c.loop-digit.invariant.1 (sym c.is_ascii_digit.ensures.value ∙ c.if-not-is_ascii_digit.false) c.in_err-number.ensures, c.from_residual.ensures)

pub loop-digit-preserved : goal.loop-digit-preserved
loop-digit-preserved c =
    search (rules, read_more c.args.text.now c.loop-digit.number c.loop-digit.digit-index c.loop-digit-test.true c.loop-digit.invariant.1 (sym c.is_ascii_digit.ensures.value ∙ c.if-not-is_ascii_digit.false))

pub returns-clause-valid : goal.returns-clause-valid
returns-clause-valid c = grind (arith, common_steps, all_leading c.args.text.now)
