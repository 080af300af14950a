-- This file describes links that consist of two words, each of 8 bytes or of 4 bytes. `B` is the type of
-- the integers that store the words: u64 or u32. In contracts both are ℕ.
use Rattle.std.specs.Prelude.{ℕ, Bool, Option, None}
use Rattle.ic_unsafe_ref.specs.declared.place.Place.{Place}
use Rattle.ic_link_ops.specs.declared.linked_list.TwoWords.{TwoWords}
use Rattle.ic_link_ops.specs.Words.{marked_bits_of, is_word, mark}

module _ {B : Type 0} where
  -- The words of an unlinked place: the first word is the mark, and the second word names no place.
  abbrev pub no_words : TwoWords B
  no_words = record { next = mark; prev = None }

  -- `has_words` says whether the first word is a word, and not the mark of an unlinked place.
  abbrev pub has_words : TwoWords B → Bool
  has_words w = is_word w.next

  -- The number that the first word of the link stores.
  abbrev pub next_word_of : TwoWords B → ℕ
  next_word_of w = marked_bits_of w.next

  -- The previous place, which the second word of the link names.
  abbrev pub prev_of : TwoWords B → Option Place
  prev_of w = w.prev
