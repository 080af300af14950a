-- This file describes the words that a link stores.
use Rattle.std.specs.Prelude.{◌≡◌, ◌≢◌, ℕ, ◌+◌, ◌*◌, ◌/◌, ◌%◌, Bool, true, false, cond, nat_eq, Option, Some, None}
use Rattle.std.proofs.Common.{arith}
use Rattle.ic_unsafe_ref.specs.PlaceWords.{IsWord}
use Rattle.ic_link_ops.specs.declared.word.Word.{Word}

-- The number that a word stores.
abbrev pub bits_of : Word → ℕ
bits_of w = w.bits

-- The word that is stored as the number n.
abbrev pub word_at : ℕ → Word
word_at n = record { bits = n / 8 % 8589934592 * 8; is_word = (omega arith, omega arith) }

-- The word for no place is stored as 0.
abbrev pub none : Word
none = word_at 0

-- A link can store the number n for a word, or as the mark 1 of an unlinked place.
abbrev pub IsMarkOrWord : ℕ → Type 0
IsMarkOrWord n = n ≢ 1 → IsWord n

-- The word that is stored as the number n, or none if n is the mark.
abbrev pub marked_at : ℕ → Option Word
marked_at n = cond (nat_eq n 1) None (Some (word_at n))

-- The number that is stored for a word, or as the mark.
abbrev pub marked_bits_of : Option Word → ℕ
marked_bits_of None = 1
marked_bits_of (Some w) = bits_of w

-- The number that is printed for a word is a quarter of the stored number. The mark of an unlinked place is printed as 1.
abbrev pub printed : ℕ → ℕ
printed n = n / 4 + n % 2

-- `is_word` says whether a word is stored, and not the mark of an unlinked place.
abbrev pub is_word : Option Word → Bool
is_word None = false
is_word (Some w) = true

-- The mark of an unlinked place. No word is stored there.
abbrev pub mark : Option Word
mark = None
