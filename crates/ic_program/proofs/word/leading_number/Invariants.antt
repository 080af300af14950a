use Rattle.std.proofs.Common.{◌≡◌, ◌<◌, ◌^◌}
use Rattle.ic_program.proofs.Digits.{ReadTo}
use Rattle.ic_program.proofs.word.leading_number.Given as goal

abbrev pub invariant-loop-digit : goal.invariant-loop-digit
invariant-loop-digit l = (l.digits ≡ l.digit-index) × ReadTo l.text l.number l.digit-index × (l.number < 2 ^ 64)
