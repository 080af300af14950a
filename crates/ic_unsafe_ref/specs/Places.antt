-- This file describes a place, its index, and the word that encodes a place or no place.
use Rattle.std.specs.Prelude.{◌≡◌, ℕ, ◌+◌, ◌-◌, ◌*◌, ◌/◌, Option, Some, None}
use Rattle.std.proofs.Common.{inl, inr, sym, ap, subst}
use Rattle.std.proofs.Props.{props}
use Rattle.std.specs.Coded.{Coded, coded_ℕ}
use base.Stored.{coded_via}
use Rattle.ic_unsafe_ref.specs.PlaceWords.{NamesPlace, names_or_not}
use Rattle.ic_unsafe_ref.specs.declared.place.Place.{Place}

-- The index of a place is the number of places that come before it.
unfoldable pub index_of : Place → ℕ
index_of p = p.word / 8 - 1

-- The place whose word is the number n. The argument h says that n is the word of a place.
abbrev pub place_of : (n : ℕ) → NamesPlace n → Place
place_of n h = record { word = n; names_place = h }

-- The word for a place is 8 * (index + 1), and the word for no place is 0.
abbrev pub word_of : Option Place → ℕ
word_of None = 0
word_of (Some p) = 8 * (index_of p + 1)

-- The place whose word is the number n. The result is none if n is 0 or is the word of no place.
unfoldable pub place_at : ℕ → Option Place
place_at n = elim (names_or_not n) [ inl h ↦ Some (place_of n h) | inr h ↦ None ]

-- Two places with the same word are equal, because a number has at most one proof that it is the word of a place.
pub names_once : (n : ℕ) (h k : NamesPlace n) → h ≡ k
names_once n = Prim.hlevel props

pub same_word : (p q : Place) → p.word ≡ q.word → p ≡ q
same_word p q e =
    let P : ℕ → Type 0 = λ m. (h : NamesPlace m) → place_of m h ≡ q in
    subst P (sym e) (λ h. ap (place_of q.word) (names_once q.word h q.names_place)) p.names_place

-- A place is encoded as its word, because two places with the same word are equal.
abbrev pub place_code : Coded Place
place_code = coded_via coded_ℕ (λ p. p.word) same_word
