-- This file says what the words of a link mean, for each kind of collection that can use the link.
use Rattle.std.specs.Prelude.{◌≡◌, ℕ, Bool, Option, bit_xor}
use Rattle.ic_unsafe_ref.specs.declared.place.Place.{Place}
use Rattle.ic_unsafe_ref.specs.Places.{place_at, word_of}
use Rattle.ic_link_ops.specs.declared.link.Link.{Link}
use Rattle.ic_link_ops.specs.Links.{words_of}
use Rattle.ic_link_ops.specs.SinglyLinkedList.{Successor}
use Rattle.ic_link_ops.specs.LinkedList.{Neighbors}

module _ {W V : Type 0} (next_word : W → ℕ) where
  -- The neighbors of the link l in an XOR linked list are a and b. The next word of l is then the exclusive or of the words of a
  -- and b.
  abbrev pub HasXorNeighbors : Link W V → Option Place → Option Place → Type 0
  HasXorNeighbors l a b = next_word (words_of l) ≡ bit_xor (word_of a) (word_of b)

  -- If one neighbor of the link l in an XOR linked list is a, the result is the other neighbor. Its word is the exclusive or of
  -- the link's next word and the word of a.
  abbrev pub xor_other : Link W V → Option Place → Option Place
  xor_other l a = place_at (bit_xor (next_word (words_of l)) (word_of a))

  module _ (is_linked : W → Bool) where
    -- The parts of the link in a singly linked list: whether its place is linked, and the next place, which the next word names.
    abbrev pub successor_of : Link W V → Successor
    successor_of l = record { linked = is_linked (words_of l); next = place_at (next_word (words_of l)) }

    -- The parts of the link in a doubly linked list: whether its place is linked, the previous place, and the next place.
    abbrev pub neighbors_of : (W → Option Place) → Link W V → Neighbors
    neighbors_of prev l = record { linked = is_linked (words_of l); prev = prev (words_of l); next = place_at (next_word (words_of l)) }
