-- The first elements of a list that comes after another list.
use Rattle.std.proofs.Common.{◌≡◌, ℕ, ◌+◌, suc, List, [], ◌∷◌, ◌++◌, take, length, arith, ap, ◌∙◌}

take_past : (xs ys : List ℕ) (n : ℕ) → take (length xs + n) (xs ++ ys) ≡ xs ++ take n ys
take_past [] ys n =
    let none : 0 + n ≡ n = omega arith in
    ap (λ (k : ℕ). take k ys) none
take_past (x ∷ xs) ys n =
    let one : suc (length xs) + n ≡ suc (length xs + n) = omega arith in
    ap (λ (k : ℕ). take k (x ∷ (xs ++ ys))) one ∙ ap (λ (l : List ℕ). x ∷ l) (take_past xs ys n)

-- if `line` is appended to a list, and only its first n elements are kept, these n elements are appended
pub cut_after : (old line text new cut : List ℕ) (at n : ℕ) → at ≡ length old → new ≡ old ++ line → cut ≡ take (at + n) new → take n line ≡ text → cut ≡ old ++ text
cut_after old line text new cut at n here put is text_is =
    is
    ∙ (ap (take (at + n)) put
    ∙ (ap (λ (k : ℕ). take (k + n) (old ++ line)) here
    ∙ (take_past old line n
    ∙ ap (λ (l : List ℕ). old ++ l) text_is)))
