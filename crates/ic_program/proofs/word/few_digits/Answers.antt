use Rattle.std.proofs.Common.{◌≡◌, false, arith, get_or, sym}
use Rattle.std.specs.Char.{is_ascii_digit}
use Rattle.ic_program.proofs.Digits.{two_digits, three_digits, four_digits}
use Rattle.ic_program.proofs.word.few_digits.Goals as goal

pub returns-in_default-digit-2-clause-read : goal.returns-in_default-digit-2-clause-read
returns-in_default-digit-2-clause-read c =
    two_digits c.args.text.now (omega (arith, c.requires)) _ _ (c.in-Some.ensures.some.0, sym c.in-Some.ensures.digit) (c.in-Some-digit.ensures.some.0, sym c.in-Some-digit.ensures.digit) (sym c.in_default-digit-2.ensures.digit)

pub returns-in_default-digit-3-clause-read : goal.returns-in_default-digit-3-clause-read
returns-in_default-digit-3-clause-read c =
    three_digits c.args.text.now (omega (arith, c.requires)) _ _ _ (c.in-Some.ensures.some.0, sym c.in-Some.ensures.digit) (c.in-Some-digit.ensures.some.0, sym c.in-Some-digit.ensures.digit) (c.in-Some-digit-2.ensures.some.0, sym c.in-Some-digit-2.ensures.digit) (sym c.in_default-digit-3.ensures.digit)

pub returns-clause-read : goal.returns-clause-read
returns-clause-read c =
    let stop : is_ascii_digit (get_or c.args.text.now 4 0) ≡ false = cc (c.digit-5.ensures.digit, c.is_some.ensures, c.if-is_some.false) in
    four_digits c.args.text.now (omega (arith, c.requires)) _ _ _ _ (c.in-Some.ensures.some.0, sym c.in-Some.ensures.digit) (c.in-Some-digit.ensures.some.0, sym c.in-Some-digit.ensures.digit) (c.in-Some-digit-2.ensures.some.0, sym c.in-Some-digit-2.ensures.digit) (c.in-Some-digit-3.ensures.some.0, sym c.in-Some-digit-3.ensures.digit) stop
