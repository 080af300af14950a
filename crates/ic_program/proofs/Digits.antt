-- How a number is read digit by digit.
use Rattle.std.proofs.Common.{◌≡◌, ℕ, ◌+◌, ◌*◌, ◌^◌, ◌<◌, ◌≤◌, Bool, true, false, cond, List, [], ◌∷◌, take, drop, length, get_or, arith, sym, subst, ap, refl, ◌∙◌, take-take, take_all}
use Rattle.std.specs.Char.{digit_value, is_ascii_digit}
use Rattle.std.specs.List.{prefix_len}
use Rattle.std.specs.Str.Parse.{AllDigits, digits_value}
use Rattle.std.proofs.lemmas.List.Sums.{take_while-cons, prefix_len-drop_yes, prefix_len-drop_no}
use Rattle.std.proofs.lemmas.List.Folds.{length-prefix_len}
use Rattle.std.proofs.lemmas.Int.Digits.{digits_value_more}
use Rattle.std.proofs.lemmas.Str.Parse.{digits_value-take-le}
use Rattle.ic_program.specs.Number.{IsNumber, IsLeading, leading_digits}

pub is_small : (c : ℕ) → is_ascii_digit c ≡ true → digit_value c < 10
is_small c digit = grind (arith, digit)

pub is_digit : (c : ℕ) → digit_value c < 10 → is_ascii_digit c ≡ true
is_digit c small = grind (arith, small)

all_if : (c : ℕ) (cs : List ℕ) (b : Bool) → is_ascii_digit c ≡ b → AllDigits 10 cs → AllDigits 10 (cond b (c ∷ cs) [])
all_if c cs true digit all = (is_small c digit, all)
all_if c cs false _ all = tt

pub all_leading : (text : List ℕ) → AllDigits 10 (leading_digits text)
all_leading [] = tt
all_leading (c ∷ cs) = subst (AllDigits 10) (sym (take_while-cons is_ascii_digit c cs)) (all_if c (leading_digits cs) (is_ascii_digit c) refl (all_leading cs))

-- the leading digits of a word that has only digits are the whole word
pub whole : (word : List ℕ) → AllDigits 10 word → leading_digits word ≡ word
whole [] all = refl
whole (c ∷ cs) all = take_while-cons is_ascii_digit c cs ∙ (rw (is_digit c all.0) (ap (λ ds. c ∷ ds) (whole cs all.1)))

module _ (text : List ℕ) where
  -- the first i bytes of the text are digits, and their value is `number`
  abbrev pub ReadTo : ℕ → ℕ → Type 0
  ReadTo number i = (number ≡ digits_value 10 (take i text)) × (prefix_len is_ascii_digit text ≡ i + prefix_len is_ascii_digit (drop i text))

  module _ (number i : ℕ) (there : i < length text) (read : ReadTo number i) (digit : is_ascii_digit (get_or text i 0) ≡ true) where
    abbrev more : ℕ
    more = number * 10 + digit_value (get_or text i 0)

    pub read_more : ReadTo more (i + 1)
    read_more = (omega (arith, read.0, digits_value_more 10 text i there), omega (arith, read.1, prefix_len-drop_yes is_ascii_digit text i 0 there digit))

    pub no_number : ¬ ((digit_value (get_or text i 0) < 10) × (more < 2 ^ 64)) → ¬ (IsNumber (leading_digits text))
    no_number not_more is =
        let longer : i + 1 ≤ prefix_len is_ascii_digit text = omega (arith, read_more.1) in
        let part : digits_value 10 (take (i + 1) (leading_digits text)) ≤ digits_value 10 (leading_digits text) = digits_value-take-le 10 (leading_digits text) (i + 1) (omega arith) in
        let same : take (i + 1) (leading_digits text) ≡ take (i + 1) text = take-take (i + 1) (prefix_len is_ascii_digit text) text longer in
        not_more (is_small (get_or text i 0) digit, omega (arith, is.2, read_more.0, part, ap (digits_value 10) same))

  -- if the first i bytes are digits and the next byte is not, the text begins with exactly i digits
  read_all : (number i : ℕ) → i < length text → ReadTo number i → is_ascii_digit (get_or text i 0) ≡ false → IsLeading text number i
  read_all number i there read stop =
      let stops : prefix_len is_ascii_digit (drop i text) ≡ 0 = prefix_len-drop_no is_ascii_digit text i 0 there stop in
      let long : prefix_len is_ascii_digit text ≡ i = omega (arith, read.1, stops) in
      (read.0 ∙ ap (λ (n : ℕ). digits_value 10 (take n text)) (sym long), sym long ∙ sym (length-prefix_len is_ascii_digit text))

  module _ (long : 4 < length text) where
    abbrev Digit : ℕ → ℕ → Type 0
    Digit i d = (d ≡ digit_value (get_or text i 0)) × (is_ascii_digit (get_or text i 0) ≡ true)

    abbrev Stops : ℕ → Type 0
    Stops i = is_ascii_digit (get_or text i 0) ≡ false

    -- if a text begins with exactly two, three or four digits, its leading digits have the value that is computed from these digits
    to_one : (a : ℕ) → Digit 0 a → ReadTo a 1
    to_one a d =
        let start : ReadTo 0 0 = (refl, omega arith) in
        let same : 0 * 10 + digit_value (get_or text 0 0) ≡ a = omega (arith, d.0) in
        subst (λ (n : ℕ). ReadTo n 1) same (read_more 0 0 (omega (arith, long)) start d.1)

    to_next : (number i d : ℕ) → i < 4 → ReadTo number i → Digit i d → ReadTo (number * 10 + d) (i + 1)
    to_next number i d low read digit =
        subst (λ (n : ℕ). ReadTo (number * 10 + n) (i + 1)) (sym digit.0) (read_more number i (omega (arith, long, low)) read digit.1)

    pub two_digits : (a b : ℕ) → Digit 0 a → Digit 1 b → Stops 2 → IsLeading text (a * 10 + b) 2
    two_digits a b da db stop = read_all _ 2 (omega (arith, long)) (to_next a 1 b (omega arith) (to_one a da) db) stop

    pub three_digits : (a b c : ℕ) → Digit 0 a → Digit 1 b → Digit 2 c → Stops 3 → IsLeading text ((a * 10 + b) * 10 + c) 3
    three_digits a b c da db dc stop =
        read_all _ 3 (omega (arith, long)) (to_next _ 2 c (omega arith) (to_next a 1 b (omega arith) (to_one a da) db) dc) stop

    pub four_digits : (a b c d : ℕ) → Digit 0 a → Digit 1 b → Digit 2 c → Digit 3 d → Stops 4 → IsLeading text (((a * 10 + b) * 10 + c) * 10 + d) 4
    four_digits a b c d da db dc dd stop =
        read_all _ 4 long (to_next _ 3 d (omega arith) (to_next _ 2 c (omega arith) (to_next a 1 b (omega arith) (to_one a da) db) dc) dd) stop

-- a text that is as long as its leading digits has only these digits
pub leading_all : (word : List ℕ) → length (leading_digits word) ≡ length word → leading_digits word ≡ word
leading_all word long = take_all (prefix_len is_ascii_digit word) word (omega (arith, long, length-prefix_len is_ascii_digit word))
