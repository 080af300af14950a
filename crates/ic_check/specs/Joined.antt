-- Link words that are always the word of a place, the word of none, or the exclusive or of two of these words.
use Rattle.std.specs.Prelude.{◌≡◌, ℕ, true, bit_xor, Option, Some, None}
use Rattle.std.proofs.Common.{sym, ap, ◌∙◌, true≢false}
use Rattle.std.proofs.lemmas.Nat.{xor_comm}
use Rattle.ic_link_ops.specs.Prelude.{Place, place_at, word_of}
use Rattle.ic_unsafe_ref.specs.PlaceWords.{IsWord}
use Rattle.ic_unsafe_ref.proofs.PlaceLemmas.{word_at, word_fits, xor_fits}
use Rattle.ic_link_ops.specs.declared.linked_list.TwoWords.{TwoWords}
use Rattle.ic_link_ops.specs.declared.word.Word.{Word}
use Rattle.ic_link_ops.specs.declared.one_word.OneWord.{OneWord}
use Rattle.ic_link_ops.specs.OneWord.{has_word, next_word_of}
use Rattle.ic_link_ops.specs.TwoWords as doubly
use Rattle.ic_link_ops.specs.XorLaws.{xor_back}
use Rattle.ic_link_ops.specs.Words.{is_word, marked_bits_of}

-- a stored word that is not the mark of an unlinked place is the word of a place or of none, or the exclusive or of two of these words
marked_word : (stored : Option Word) → is_word stored ≡ true → IsWord (marked_bits_of stored)
marked_word None is = absurd (true≢false (sym is))
marked_word (Some w) is = w.is_word

module _ {B : Type 0} where
  pub one_word : {K : Type 0} (w : OneWord K B) → has_word w ≡ true → IsWord (next_word_of w)
  one_word w is = marked_word w.word is

  pub two_words : (w : TwoWords B) → doubly.has_words w ≡ true → IsWord (doubly.next_word_of w)
  two_words w is = marked_word w.next is

-- for any place, or none, as `a`, the word n is the exclusive or of the word of `a` and the word of another place or none. The exclusive or of n and the word
-- of `a` names this other place
pub joins_told : (n : ℕ) (a : Option Place) → IsWord n → n ≡ bit_xor (word_of a) (word_of (place_at (bit_xor n (word_of a))))
joins_told n a is =
    sym (xor_back (word_of a) n) ∙ xor_comm (bit_xor (word_of a) n) (word_of a) ∙ ap (bit_xor (word_of a)) (xor_comm (word_of a) n)
    ∙ ap (bit_xor (word_of a)) (sym (word_at (bit_xor n (word_of a)) (xor_fits is (word_fits a))))
