-- This file proves what the third word of a tree's link says after its parts are set.
use Rattle.std.proofs.Common.{◌≡◌, ℕ, zero, suc, ◌+◌, ◌*◌, ◌/◌, ◌%◌, ◌<◌, Option, None, cond, nat_eq, true, false, arith, refl, ap, ◌∙◌}
use Rattle.ic_link_ops.specs.Base.{Place, place_at, word_of}
use Rattle.ic_unsafe_ref.proofs.PlaceLemmas.{place_at_word, word_at, word_fits}
use Rattle.ic_link_ops.specs.declared.color.Color.{Color}
use Rattle.ic_link_ops.specs.declared.color.Color.TheVariants.{Red, Black}
use Rattle.ic_link_ops.specs.TreeWords.{unlinked, linked, linked_below, one_if, one_if_black, number_of, parts_at}

-- The word 0 is the word of an unlinked place, and the word 3 is that of a linked black place with no parent.
pub parts_at_0 : parts_at 0 ≡ unlinked
parts_at_0 = λ k. record { linked = false; parent = place_at_word None k; color = Red }

pub parts_at_3 : parts_at 3 ≡ linked
parts_at_3 = λ k. record { linked = true; parent = place_at_word None k; color = Black }

-- If the parent's part of the word n is replaced by another parent, the word has the new parent and keeps its other parts.
pub parent_set : (n : ℕ) (parent : Option Place) → parts_at (word_of parent + n % 8) ≡ record (parts_at n) { parent = parent }
parent_set n parent =
    let fits = (word_fits parent).1 in
    let links : (word_of parent + n % 8) / 2 % 2 ≡ n / 2 % 2 = omega (arith, fits) in
    let names : (word_of parent + n % 8) / 8 * 8 ≡ word_of parent = omega (arith, fits) in
    let colors : (word_of parent + n % 8) % 2 ≡ n % 2 = omega (arith, fits) in
    let at : place_at ((word_of parent + n % 8) / 8 * 8) ≡ parent = ap place_at names ∙ place_at_word parent in
    λ k. record { linked = nat_eq (links k) 1; parent = at k; color = cond (nat_eq (colors k) 0) Red Black }

-- If the lowest bit of the word n is replaced by the bit of another color, the word has the new color and keeps its other parts.
pub color_set : (n : ℕ) (color : Color) → parts_at (n / 2 * 2 + one_if_black color) ≡ record (parts_at n) { color = color }
color_set n Red =
    let links : (n / 2 * 2 + 0) / 2 % 2 ≡ n / 2 % 2 = omega arith in
    let names : (n / 2 * 2 + 0) / 8 * 8 ≡ n / 8 * 8 = omega arith in
    let colors : (n / 2 * 2 + 0) % 2 ≡ 0 = omega arith in
    λ k. record { linked = nat_eq (links k) 1; parent = place_at (names k); color = cond (nat_eq (colors k) 0) Red Black }
color_set n Black =
    let links : (n / 2 * 2 + 1) / 2 % 2 ≡ n / 2 % 2 = omega arith in
    let names : (n / 2 * 2 + 1) / 8 * 8 ≡ n / 8 * 8 = omega arith in
    let colors : (n / 2 * 2 + 1) % 2 ≡ 1 = omega arith in
    λ k. record { linked = nat_eq (links k) 1; parent = place_at (names k); color = cond (nat_eq (colors k) 0) Red Black }

-- The sum of the parent's word, 2, and 1 if the color is black, is the word of a linked place with this parent and this color.
pub parts_below : (parent : Option Place) (color : Color) → parts_at (word_of parent + 2 + one_if_black color) ≡ linked_below parent color
parts_below parent Red =
    let fits = (word_fits parent).1 in
    let links : (word_of parent + 2 + 0) / 2 % 2 ≡ 1 = omega (arith, fits) in
    let names : (word_of parent + 2 + 0) / 8 * 8 ≡ word_of parent = omega (arith, fits) in
    let colors : (word_of parent + 2 + 0) % 2 ≡ 0 = omega (arith, fits) in
    let at : place_at ((word_of parent + 2 + 0) / 8 * 8) ≡ parent = ap place_at names ∙ place_at_word parent in
    λ k. record { linked = nat_eq (links k) 1; parent = at k; color = cond (nat_eq (colors k) 0) Red Black }
parts_below parent Black =
    let fits = (word_fits parent).1 in
    let links : (word_of parent + 2 + 1) / 2 % 2 ≡ 1 = omega (arith, fits) in
    let names : (word_of parent + 2 + 1) / 8 * 8 ≡ word_of parent = omega (arith, fits) in
    let colors : (word_of parent + 2 + 1) % 2 ≡ 1 = omega (arith, fits) in
    let at : place_at ((word_of parent + 2 + 1) / 8 * 8) ≡ parent = ap place_at names ∙ place_at_word parent in
    λ k. record { linked = nat_eq (links k) 1; parent = at k; color = cond (nat_eq (colors k) 0) Red Black }

-- Let x be 0 or 1. Then `one_if` of the test whether x is 1 is x. If 0 is read as red and 1 as black, `one_if_black` of this
-- color is x as well.
one_if_one : (x : ℕ) → x < 2 → one_if (nat_eq x 1) ≡ x
one_if_one zero h = refl
one_if_one (suc zero) h = refl
one_if_one (suc (suc x)) h = absurd (omega (arith, h))

one_if_not_red : (x : ℕ) → x < 2 → one_if_black (cond (nat_eq x 0) Red Black) ≡ x
one_if_not_red zero h = refl
one_if_not_red (suc zero) h = refl
one_if_not_red (suc (suc x)) h = absurd (omega (arith, h))

-- If the stored number n is below 2 ^ 36, the number that is printed for the word is n / 8 * 4 + n % 4.
pub number_of_parts : (n : ℕ) → n < 68719476736 → number_of (parts_at n) ≡ n / 8 * 4 + n % 4
number_of_parts n h =
    let names : word_of (place_at (n / 8 * 8)) ≡ n / 8 * 8 = word_at (n / 8 * 8) (omega (arith, h), omega arith) in
    let links : one_if (nat_eq (n / 2 % 2) 1) ≡ n / 2 % 2 = one_if_one (n / 2 % 2) (omega arith) in
    let colors : one_if_black (cond (nat_eq (n % 2) 0) Red Black) ≡ n % 2 = one_if_not_red (n % 2) (omega arith) in
    omega (arith, names, links, colors)
