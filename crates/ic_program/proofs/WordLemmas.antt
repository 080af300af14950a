-- What single words of a line mean.
use Rattle.std.proofs.Common.{◌≡◌, ℕ, ◌+◌, ◌*◌, ◌^◌, ◌<◌, ◌≤◌, true, List, [], ◌∷◌, length, Option, Some, None, MatchOption, refl, sym, ap, ◌∙◌}
use Rattle.std.specs.Str.{all_ascii_digits}
use Rattle.std.specs.Str.Parse.{AllDigits, digits_value}
use Rattle.std.proofs.lemmas.Bool.{cond-true, cond-false, and_parts, and_from, lt-ltb, le-ltb, le-leb, ltb-true, leb-true, false_from_ne_true}
use Rattle.ic_unsafe_ref.specs.declared.place.Place.{Place}
use Rattle.ic_unsafe_ref.specs.Places.{index_of, place_at}
use Rattle.ic_unsafe_ref.proofs.PlaceLemmas.{place_at_word}
use Rattle.ic_program.specs.Grammar.{number_in, nth_place}
use Rattle.ic_program.specs.Number.{IsNumber}
use Rattle.ic_program.proofs.Digits.{is_small, is_digit}

-- a number below 2 ^ 32 means the place with this index, and any other number means no place
pub place_is : (r : Option Place) (n : ℕ) → MatchOption r (2 ^ 32 ≤ n) (λ p. (index_of p ≡ n) × n < 2 ^ 32) → r ≡ nth_place n
place_is None n large = sym (cond-false _ _ _ (le-ltb n 4294967296 large))
place_is (Some p) n is =
    sym (place_at_word (Some p)) ∙ ap (λ i. place_at (8 * (i + 1))) is.0 ∙ sym (cond-true _ _ _ (lt-ltb n 4294967296 is.1))

-- a word has only digits exactly if the test `all_ascii_digits` succeeds
all_ascii : (word : List ℕ) → AllDigits 10 word → all_ascii_digits word ≡ true
all_ascii [] all = refl
all_ascii (c ∷ cs) all = and_from _ _ (is_digit c all.0) (all_ascii cs all.1)

all_digits : (word : List ℕ) → all_ascii_digits word ≡ true → AllDigits 10 word
all_digits [] all = tt
all_digits (c ∷ cs) all = (is_small c (and_parts _ _ all).0, all_digits cs (and_parts _ _ all).1)

-- a word means a number exactly if it has 1 to 20 digits and its value is below 2^64
pub number_is : (word : List ℕ) → IsNumber word → number_in word ≡ Some (digits_value 10 word)
number_is word is =
    cond-true _ _ _ (and_from _ _ (and_from _ _ (and_from _ _ (all_ascii word is.0.1) (lt-ltb 0 (length word) is.0.0)) (le-leb (length word) 20 is.1)) (lt-ltb (digits_value 10 word) (2 ^ 64) is.2))

pub number_not : (word : List ℕ) → ¬ (IsNumber word) → number_in word ≡ None
number_not word not = cond-false _ _ _ (false_from_ne_true _ (λ is.
    let p = and_parts _ _ is in
    let q = and_parts _ _ p.0 in
    let r = and_parts _ _ q.0 in
    not ((ltb-true 0 (length word) r.1, all_digits word r.0), leb-true (length word) 20 q.1, ltb-true (digits_value 10 word) (2 ^ 64) p.1)))
