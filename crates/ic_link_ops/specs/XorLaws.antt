-- This file proves the laws of words that are the exclusive or of the words of two places.
use Rattle.std.proofs.Common.{◌≡◌, ℕ, Option, bit_xor, sym, ap, ◌∙◌}
use Rattle.std.proofs.lemmas.Nat.{xor_comm}
use lib.Bits.{xor_assoc, xor_self}
use Rattle.ic_unsafe_ref.specs.declared.place.Place.{Place}
use Rattle.ic_unsafe_ref.specs.Places.{word_of, place_at}
use Rattle.ic_unsafe_ref.proofs.PlaceLemmas.{place_at_word}

-- The exclusive or of a, b and a is b.
pub xor_back : (a b : ℕ) → bit_xor (bit_xor a b) a ≡ b
xor_back a b = xor_comm (bit_xor a b) a ∙ sym (xor_assoc a a b) ∙ ap (λ (x : ℕ). bit_xor x b) (xor_self a)

-- If a and b have the same word, they are equal. Each of them is a place or none, and none has the word 0, which no place has.
pub word_same : (a b : Option Place) → word_of a ≡ word_of b → a ≡ b
word_same a b e = sym (place_at_word a) ∙ ap place_at e ∙ place_at_word b

-- If a word is the exclusive or of the words of a and b, it is also the exclusive or of the words of b and a.
pub joins_symmetric : (w : ℕ) (a b : Option Place) → w ≡ bit_xor (word_of a) (word_of b) → w ≡ bit_xor (word_of b) (word_of a)
joins_symmetric w a b j = j ∙ xor_comm (word_of a) (word_of b)

-- If w is the exclusive or of the words of a and b, the exclusive or of w and the word of a is the word of b.
pub joins_rest : (w : ℕ) (a b : Option Place) → w ≡ bit_xor (word_of a) (word_of b) → bit_xor w (word_of a) ≡ word_of b
joins_rest w a b j = ap (λ (x : ℕ). bit_xor x (word_of a)) j ∙ xor_back (word_of a) (word_of b)

-- If w is the exclusive or of the words of a and b, the exclusive or of w and the word of a names b.
pub joins_finds_other : (w : ℕ) (a b : Option Place) → w ≡ bit_xor (word_of a) (word_of b) → place_at (bit_xor w (word_of a)) ≡ b
joins_finds_other w a b j = ap place_at (joins_rest w a b j) ∙ place_at_word b

-- If w is the exclusive or of the words of a and b, the word w and the place a determine the place b.
pub joins_one_other : (w : ℕ) (a b c : Option Place) → w ≡ bit_xor (word_of a) (word_of b) → w ≡ bit_xor (word_of a) (word_of c) → b ≡ c
joins_one_other w a b c j k = word_same b c (sym (joins_rest w a b j) ∙ joins_rest w a c k)

-- Let w be the exclusive or of the words of `old` and x. The exclusive or of w, the word of `old` and the word of `new` is then
-- the exclusive or of the words of `new` and x.
pub joins_replaced : (w : ℕ) (old new x : Option Place) → w ≡ bit_xor (word_of old) (word_of x)
    → bit_xor (bit_xor w (word_of old)) (word_of new) ≡ bit_xor (word_of new) (word_of x)
joins_replaced w old new x j =
    ap (λ (n : ℕ). bit_xor n (word_of new)) (joins_rest w old x j) ∙ xor_comm (word_of x) (word_of new)
