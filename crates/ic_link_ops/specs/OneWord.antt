-- This file describes links that consist of one word, of 8 bytes or of 4 bytes. `B` is the type of
-- the integers that store the words: u64 or u32. In contracts both are ℕ.
use Rattle.std.specs.Prelude.{ℕ, Bool}
use Rattle.ic_link_ops.specs.declared.one_word.OneWord.{OneWord}
use Rattle.ic_link_ops.specs.Words.{marked_bits_of, is_word, mark}

module _ {K B : Type 0} where
  -- The only word in the link of an unlinked place is the mark.
  abbrev pub no_word : OneWord K B
  no_word = record { word = mark; of = record {} }

  -- `has_word` says whether the link stores a word, and not the mark of an unlinked place.
  abbrev pub has_word : OneWord K B → Bool
  has_word w = is_word w.word

  -- The number that the only word of the link stores.
  abbrev pub next_word_of : OneWord K B → ℕ
  next_word_of w = marked_bits_of w.word
