-- The word of a place is the number 8 * (index + 1), which is below 2 ^ 36. The exclusive or of two words is a multiple of 8
-- below 2 ^ 36.
use Rattle.std.specs.Prelude.{◌≡◌, ℕ, ◌+◌, ◌-◌, ◌<◌, ◌≤◌, ◌%◌, ◌⊎◌}
use Rattle.std.proofs.Common.{inl, inr, arith}
use Rattle.std.proofs.lemmas.Bool.Decides.{eqb_tells}

-- A number is the word of a place if it is a multiple of 8, at least 8, and below 2 ^ 36.
abbrev pub NamesPlace : ℕ → Type 0
NamesPlace n = (8 ≤ n) × (n < 68719476736) × (n % 8 ≡ 0)

-- A number is a word if it is the word of a place, or 0, the word for no place.
abbrev pub IsWord : ℕ → Type 0
IsWord n = (n < 68719476736) × (n % 8 ≡ 0)

-- Each number is the word of a place, or it is not.
pub names_or_not : (n : ℕ) → NamesPlace n ⊎ (NamesPlace n → ⊥)
names_or_not n =
    elim (eqb_tells ((8 - n) + (n - 68719476735) + n % 8) 0) [
      | inl h ↦ inl (omega (arith, h.1), omega (arith, h.1), omega (arith, h.1))
      | inr h ↦ inr (λ k. h.1 (omega (arith, k.0, k.1, k.2)))
    ]
