-- The decimal digits of numbers below 1000.
use Rattle.std.proofs.Common.{◌≡◌, ℕ, ◌+◌, ◌/◌, ◌%◌, ◌<◌, ◌≤◌, List, [], ◌∷◌, ◌++◌, decimal, arith, ap, ◌∙◌}
use Rattle.std.proofs.lemmas.Fmt.{decimal_digit, decimal_step}

-- the decimal digits of a number below 10, of a number from 10 to 99, and of a number from 100 to 999
pub one_digit : (n : ℕ) → n < 10 → decimal n ≡ (48 + n % 10) ∷ []
one_digit n small =
    let same : 48 + n ≡ 48 + n % 10 = omega arith in
    decimal_digit n small ∙ ap (λ (d : ℕ). d ∷ []) same

pub two_digits : (n : ℕ) → 10 ≤ n → n < 100 → decimal n ≡ (48 + n / 10 % 10) ∷ (48 + n % 10) ∷ []
two_digits n large small =
    let tens : n / 10 < 10 = omega arith in
    decimal_step n large (omega arith) ∙ ap (λ (ds : List ℕ). ds ++ (48 + n % 10) ∷ []) (one_digit (n / 10) tens)

pub three_digits : (n : ℕ) → 100 ≤ n → n < 1000 → decimal n ≡ (48 + n / 100 % 10) ∷ (48 + n / 10 % 10) ∷ (48 + n % 10) ∷ []
three_digits n large small =
    let low : 10 ≤ n / 10 = omega arith in
    let high : n / 10 < 100 = omega arith in
    let hundreds : n / 10 / 10 % 10 ≡ n / 100 % 10 = omega arith in
    decimal_step n (omega arith) (omega arith)
    ∙ (ap (λ (ds : List ℕ). ds ++ (48 + n % 10) ∷ []) (two_digits (n / 10) low high)
    ∙ ap (λ (d : ℕ). (48 + d) ∷ (48 + n / 10 % 10) ∷ (48 + n % 10) ∷ []) hundreds)
