-- This file says how the numbers in a caller's words are read.
use Rattle.std.proofs.Common.{arith}
use Rattle.std.specs.Prelude.{◌≡◌, ℕ, ◌+◌, ◌*◌, ◌/◌, ◌%◌, ◌<◌, Bool, true, cond, nat_eq, Option, Some}
use Rattle.ic_link_ops.specs.Prelude.{Place, index_of, place_at}
use Rattle.ic_link_ops.specs.declared.color.Color.{Color}
use Rattle.ic_link_ops.specs.declared.color.Color.TheVariants.{Red, Black}
use Rattle.ic_raw.specs.declared.words.RawOne.{RawOne}
use Rattle.ic_raw.specs.declared.words.RawTwo.{RawTwo}
use Rattle.ic_raw.specs.declared.words.RawNarrowTwo.{RawNarrowTwo}
use Rattle.ic_raw.specs.declared.words.RawThree.{RawThree}

-- `number_in v` is the number in the word v: a multiple of 8 below 2 ^ 36, whatever the bits of the word are
abbrev pub number_in : ℕ → ℕ
number_in v = v / 8 % 8589934592 * 8

-- `place_in v` is the place that the word v names, or none if the number in the word is 0
abbrev pub place_in : ℕ → Option Place
place_in v = place_at (number_in v)

-- `narrow_number_in v` is the number in the word v of 4 bytes: a multiple of 8 below 2 ^ 32. `narrow_place_in v` is the place that this word names
abbrev pub narrow_number_in : ℕ → ℕ
narrow_number_in v = v / 8 % 536870912 * 8

abbrev pub narrow_place_in : ℕ → Option Place
narrow_place_in v = place_at (narrow_number_in v)

-- `is_marked v` says whether the word v has the mark of a linked place, which is its lowest bit
abbrev pub is_marked : ℕ → Bool
is_marked v = nat_eq (v % 2) 1

-- `place_of i` is the place with the index i, or none if i is 4,294,967,295
abbrev pub place_of : ℕ → Option Place
place_of i = place_at (8 * ((i + 1) % 4294967296))

-- `number` names the place p, if the index of p is below 4,294,967,295
abbrev pub HasNumber : Place → ℕ → Type 0
HasNumber p number = index_of p < 4294967295 → place_of number ≡ Some p

-- A LINK OF ONE WORD: `no_word` is the link of an unlinked place, and `is_linked_one` says whether a place is linked. `next_of_one` is the number in
-- the word, which in a singly linked list is the number of the next place
abbrev pub no_word : RawOne
no_word = record { next = 0 }

abbrev pub is_linked_one : RawOne → Bool
is_linked_one w = is_marked w.next

abbrev pub next_of_one : RawOne → ℕ
next_of_one w = number_in w.next

-- A link of two words: the first word has the mark of a linked place and the number of the next place, and the second word names the previous place
abbrev pub no_words : RawTwo
no_words = record { next = 0; prev = 0 }

abbrev pub is_linked_two : RawTwo → Bool
is_linked_two w = is_marked w.next

abbrev pub next_of_two : RawTwo → ℕ
next_of_two w = number_in w.next

abbrev pub prev_of_two : RawTwo → Option Place
prev_of_two w = place_in w.prev

-- A link of two words of 4 bytes: the first word has the mark of a linked place and the number of the next place, and the second word names the
-- previous place
abbrev pub no_narrow_words : RawNarrowTwo
no_narrow_words = record { next = 0; prev = 0 }

abbrev pub is_linked_narrow : RawNarrowTwo → Bool
is_linked_narrow w = is_marked w.next

abbrev pub next_of_narrow : RawNarrowTwo → ℕ
next_of_narrow w = narrow_number_in w.next

abbrev pub prev_of_narrow : RawNarrowTwo → Option Place
prev_of_narrow w = narrow_place_in w.prev

-- A link of three words: `no_tree_words` is the words of an unlinked place, `is_linked_three` says whether a place is linked, and `color_of` is the
-- color of the place
abbrev pub no_tree_words : RawThree
no_tree_words = record { left = 0; right = 0; parent = 0 }

abbrev pub is_linked_three : RawThree → Bool
is_linked_three w = is_marked w.left

abbrev pub color_of : RawThree → Color
color_of w = cond (is_marked w.parent) Black Red
