-- This file describes words of two widths, and the places for which each width has room.
use Rattle.std.specs.Prelude.{ℕ, ◌<◌, min, List, length, take, ⊤}
use Rattle.std.proofs.Common.{arith}
use Rattle.std.proofs.lemmas.List.{length-take}
use Rattle.ic_unsafe_ref.specs.declared.place.Place.{Place}
use Rattle.ic_unsafe_ref.specs.Places.{index_of}

-- A wide word has 8 bytes, and a narrow word has 4 bytes.
pub data Width : Type 0 where
  wide : Width
  narrow : Width

-- The greatest number of places that a table with words of this width can cover. For narrow words this number is below 2 ^ 29, so
-- that each word 8 * (index + 1), and the exclusive or of two words, is below 2 ^ 32.
abbrev pub most_places : Width → ℕ
most_places wide = 4294967296
most_places narrow = 536870911

-- The number of places, out of the first n places, that words of this width can name.
abbrev pub count_nameable : Width → ℕ → ℕ
count_nameable wide n = n
count_nameable narrow n = min 536870911 n

-- A word of the given width can name the place p.
abbrev pub HasRoom : Width → Place → Type 0
HasRoom wide p = ⊤
HasRoom narrow p = index_of p < 536870911

-- A word of the given width has room for the number n. The number for a place is 8 * (index + 1). Links also store the exclusive
-- or of two such numbers.
abbrev pub CanKeep : Width → ℕ → Type 0
CanKeep wide n = ⊤
CanKeep narrow n = n < 4294967296

-- The links of the list that belong to places which words of this width can name.
abbrev pub nameable : {E : Type 0} → Width → List E → List E
nameable wide es = es
nameable narrow es = take 536870911 es

-- Words of the width w can name the place of each link in `nameable w es`.
pub nameable_has_room : {E : Type 0} (w : Width) (es : List E) (p : Place) → index_of p < length (nameable w es) → HasRoom w p
nameable_has_room wide es p h = tt
nameable_has_room narrow es p h = omega (arith, h, length-take 536870911 es)
