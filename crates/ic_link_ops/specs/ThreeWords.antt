-- This file describes links of a tree that consist of three words, each of 8 bytes or of 4 bytes. `B` is the type of
-- the integers that store the words: u64 or u32. In contracts both are ℕ.
use Rattle.std.specs.Prelude.{ℕ, Bool, Option, None, List, [], ◌∷◌}
use Rattle.ic_unsafe_ref.specs.declared.place.Place.{Place}
use Rattle.ic_unsafe_ref.specs.Places.{place_at, word_of}
use Rattle.ic_link_ops.specs.declared.rbtree.ThreeWords.{ThreeWords}
use Rattle.ic_link_ops.specs.declared.link.Link.{Link}
use Rattle.ic_link_ops.specs.Links.{words_of}
use Rattle.ic_link_ops.specs.Words.{bits_of, printed, none}
use Rattle.ic_link_ops.specs.TreeWords.{unlinked, number_of}
use Rattle.ic_link_ops.specs.RedBlackTree.{Node}

module _ {B : Type 0} where
  -- The words in the link of an unlinked place.
  abbrev pub no_words : ThreeWords B
  no_words = record { left = None; right = none; third = unlinked }

  -- `has_link` reads from the third word whether the link's place is linked.
  abbrev pub has_link : ThreeWords B → Bool
  has_link w = w.third.linked

  -- `left_of` is the left child that a link stores, and `right_word_of` is the number of the word that names the right child.
  abbrev pub left_of : ThreeWords B → Option Place
  left_of w = w.left

  abbrev pub right_word_of : ThreeWords B → ℕ
  right_word_of w = bits_of w.right

  -- The parts of a tree entry, read from the three words: whether the place is linked, its children, its parent and its color.
  abbrev pub node_in : ThreeWords B → Node
  node_in w = record {
    linked = w.third.linked;
    left = w.left;
    right = place_at (bits_of w.right);
    parent = w.third.parent;
    color = w.third.color;
  }

  abbrev pub node_of : {V : Type 0} → Link (ThreeWords B) V → Node
  node_of l = node_in (words_of l)

  -- The numbers that are printed for the three words of a link. The number for the third word is 4 * (parent + 1) + 2 * linked +
  -- black.
  abbrev pub printed_words : ThreeWords B → List ℕ
  printed_words w = printed (word_of w.left) ∷ printed (bits_of w.right) ∷ number_of w.third ∷ []
