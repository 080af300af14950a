-- The numbers that words mean.
use Rattle.std.specs.Prelude.{◌≡◌, ℕ, ◌+◌, ◌*◌, ◌≤◌, ◌<◌, ◌^◌, List, length, Option, MatchOption}
use Rattle.std.specs.Char.{digit_value, is_ascii_digit}
use Rattle.std.specs.List.{take_while}
use Rattle.std.specs.Str.Parse.{IsNumeral, digits_value}

-- the word has 1 to 20 decimal digits, and their value is below 2^64
abbrev pub IsNumber : List ℕ → Type 0
IsNumber word = IsNumeral 10 word × (length word ≤ 20) × (digits_value 10 word < 2 ^ 64)

-- the decimal digits that a text begins with
abbrev pub leading_digits : List ℕ → List ℕ
leading_digits text = take_while is_ascii_digit text

-- the text begins with exactly `digits` decimal digits, and their value is `number`
abbrev pub IsLeading : List ℕ → ℕ → ℕ → Type 0
IsLeading text number digits = (number ≡ digits_value 10 (leading_digits text)) × (digits ≡ length (leading_digits text))

-- the result is `number` with one more decimal digit. The result is none if the byte is not a digit, or if the new value is 2^64 or more
abbrev pub MoreDigits : ℕ → ℕ → Option ℕ → Type 0
MoreDigits number digit result =
    let more = number * 10 + digit_value digit in
    let IsMore = (digit_value digit < 10) × (more < 2 ^ 64) in
    MatchOption result (¬ IsMore) (λ value. IsMore × (value ≡ more))
