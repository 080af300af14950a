-- This file proves facts about places, their words and their indexes.
use Rattle.std.proofs.Common.{◌≡◌, ◌≢◌, ℕ, ◌+◌, ◌*◌, ◌<◌, ◌⊎◌, Option, Some, None, nat_eq, refl, inl, inr, sym, ap, ◌∙◌, arith, eq-eqb, eqb-true, ◌%◌, bit_xor}
use Rattle.std.specs.Cmp.{both_ways}
use Rattle.std.proofs.lemmas.Nat.{xor_lt, xor_mod}
use Rattle.std.proofs.lemmas.Bool.Decides.{eqb_tells}
use Rattle.std.proofs.lemmas.Option.{same_Some}
use Rattle.ic_unsafe_ref.specs.declared.place.Place.{Place}
use Rattle.ic_unsafe_ref.specs.PlaceWords.{NamesPlace, IsWord, names_or_not}
use Rattle.ic_unsafe_ref.specs.Places.{index_of, place_of, place_at, word_of, names_once, same_word}

-- The word of a place is 8 times the sum of its index and 1.
pub word_is : (p : Place) → p.word ≡ 8 * (index_of p + 1)
unfolding index_of
word_is p = omega (arith, p.names_place.0, p.names_place.2)

-- Two places with the same index are equal.
pub same_index : (p q : Place) → index_of p ≡ index_of q → p ≡ q
same_index p q e = same_word p q (word_is p ∙ ap (λ i. 8 * (i + 1)) e ∙ sym (word_is q))

-- Two places have equal words exactly if they have equal indexes.
pub word_tells : (p q : Place) → nat_eq p.word q.word ≡ nat_eq (index_of p) (index_of q)
word_tells p q = both_ways _ _
    (λ e. eq-eqb _ _ (ap index_of (same_word p q (eqb-true p.word q.word e))))
    (λ e. eq-eqb _ _ (ap (λ r. r.word) (same_index p q (eqb-true (index_of p) (index_of q) e))))

-- Two places are equal, or they are different.
pub same_or_not : (p q : Place) → (p ≡ q) ⊎ (p ≢ q)
same_or_not p q =
    elim (eqb_tells p.word q.word) [
      | inl h ↦ inl (same_word p q h.1)
      | inr h ↦ inr (λ e. h.1 (ap (λ r. r.word) e))
    ]

pub index_small : (p : Place) → index_of p < 8589934591
unfolding index_of
index_small p = omega (arith, p.names_place.0, p.names_place.1)

pub index_of_place : (i : ℕ) (h : NamesPlace (8 * (i + 1))) → index_of (place_of (8 * (i + 1)) h) ≡ i
unfolding index_of
index_of_place i h = omega arith

-- The word of a place names the place itself.
pub place_at_is : (n : ℕ) (h : NamesPlace n) → place_at n ≡ Some (place_of n h)
unfolding place_at
place_at_is n h =
    elim (names_or_not n) as (λ d. elim d [ inl h ↦ Some (place_of n h) | inr h ↦ None ] ≡ Some (place_of n h)) [
      | inl k ↦ ap (λ k. Some (place_of n k)) (names_once n k h)
      | inr other ↦ absurd (other h)
    ]

-- A number that is not the word of a place names no place.
pub place_at_other : (n : ℕ) → (NamesPlace n → ⊥) → place_at n ≡ None
unfolding place_at
place_at_other n other =
    elim (names_or_not n) as (λ d. elim d [ inl h ↦ Some (place_of n h) | inr h ↦ None ] ≡ None) [
      | inl h ↦ absurd (other h)
      | inr h ↦ refl
    ]

-- If the word 8 * (i + 1) names the place p, the index of p is i.
pub index_at : (i : ℕ) (p : Place) → place_at (8 * (i + 1)) ≡ Some p → i ≡ index_of p
unfolding place_at
index_at i p =
    elim (names_or_not (8 * (i + 1))) as (λ d. elim d [ inl h ↦ Some (place_of (8 * (i + 1)) h) | inr h ↦ None ] ≡ Some p → i ≡ index_of p) [
      | inl h ↦ λ e. sym (index_of_place i h) ∙ ap index_of (same_Some _ _ e)
      | inr h ↦ λ e. cc
    ]

-- The word of a place names the place, and the word for no place names no place.
pub place_at_word : (to : Option Place) → place_at (word_of to) ≡ to
place_at_word None = place_at_other 0 (λ h. absurd (omega (arith, h.0)))
place_at_word (Some p) = ap place_at (sym (word_is p)) ∙ place_at_is p.word p.names_place

-- If n is a word, it is the word of the place that n names, or of none if n is 0.
pub word_at : (n : ℕ) → IsWord n → word_of (place_at n) ≡ n
word_at n h =
    elim (eqb_tells n 0) [
      | inl e ↦ ap (λ m. word_of (place_at m)) e.1 ∙ ap word_of (place_at_word None) ∙ sym e.1
      | inr e ↦
          let is : NamesPlace n = (omega (arith, h.1, e.1), h.0, h.1) in
          ap word_of (place_at_is n is) ∙ sym (word_is (place_of n is))
    ]

-- The word of a place or of none is a multiple of 8 below 2 ^ 36, and so is the exclusive or of two such words.
pub word_fits : (to : Option Place) → IsWord (word_of to)
word_fits None = (omega arith, refl)
word_fits (Some p) = let e = word_is p in (omega (arith, e, p.names_place.1), omega (arith, e, p.names_place.2))

pub xor_fits : {a b : ℕ} → IsWord a → IsWord b → IsWord (bit_xor a b)
xor_fits {a} {b} h k = (xor_lt 36 a b h.0 k.0, xor_mod a b 3 ∙ ap (λ m. bit_xor m (b % 8)) h.1 ∙ ap (bit_xor 0) k.1)

-- Each index below 2 ^ 33 - 1 belongs to a place. There are more such indexes than a table can cover.
pub place_with : (i : ℕ) → i < 8589934591 → (p : Place) × (index_of p ≡ i)
place_with i h =
    let is : NamesPlace (8 * (i + 1)) = (omega arith, omega (arith, h), omega arith) in (place_of (8 * (i + 1)) is, index_of_place i is)
