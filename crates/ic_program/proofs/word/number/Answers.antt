use Rattle.std.proofs.Common.{◌≡◌, ℕ, Some, length, refl, sym, ap, subst, ◌∙◌}
use Rattle.std.specs.Str.Parse.{digits_value}
use Rattle.ic_program.specs.Number.{IsNumber, leading_digits}
use Rattle.ic_program.proofs.Digits.{whole, leading_all}
use Rattle.ic_program.proofs.WordLemmas.{number_is, number_not}
use Rattle.ic_program.proofs.word.number.Goals as goal

pub returns-in-Some : goal.returns-in-Some
returns-in-Some c =
    let all : leading_digits c.args.word.now ≡ c.args.word.now = leading_all c.args.word.now (sym c.in-Some.ensures.digits ∙ c.if-digits-word.true) in
    let is : IsNumber c.args.word.now = subst IsNumber all (c.in-Some.ensures.valid.0 refl) in
    ap (λ (n : ℕ). Some n) (c.in-Some.ensures.value ∙ ap (digits_value 10) all) ∙ sym (number_is c.args.word.now is)

pub returns-in_default : goal.returns-in_default
returns-in_default c = sym (number_not c.args.word.now (λ is. c.if-digits-word.false (c.in-Some.ensures.digits ∙ ap length (whole c.args.word.now is.0.1))))

pub returns-in_default-2 : goal.returns-in_default-2
returns-in_default-2 c =
    sym (number_not c.args.word.now (λ is. absurd (cc (rw c.in_default.is at c.leading_number.ensures.valid.1 (subst IsNumber (sym (whole c.args.word.now is.0.1)) is)))))
