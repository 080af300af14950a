-- This file proves that a link stores each word, and the mark of an unlinked place, as its number.
use Rattle.std.proofs.Common.{◌≡◌, ℕ, Bool, cond, Some, None, inl, inr, arith, ap, sym, ◌∙◌}
use Rattle.std.proofs.lemmas.Bool.Decides.{eqb_tells}
use Rattle.ic_unsafe_ref.specs.PlaceWords.{IsWord}
use Rattle.ic_link_ops.specs.Words.{bits_of, word_at, IsMarkOrWord, marked_at, marked_bits_of}

-- The word that is stored as the number n is the word with this number.
pub word_read : (n : ℕ) → IsWord n → bits_of (word_at n) ≡ n
word_read n is = omega (arith, is)

-- The mark or the word that is stored as the number n has this number.
pub marked_read : (n : ℕ) → IsMarkOrWord n → marked_bits_of (marked_at n) ≡ n
marked_read n is =
    let stored : Bool → ℕ = λ unlinked. marked_bits_of (cond unlinked None (Some (word_at n))) in
    elim (eqb_tells n 1) [
      | inl e ↦ ap stored e.0 ∙ sym e.1
      | inr e ↦ ap stored e.0 ∙ word_read n (is e.1)
    ]
