-- A search in a tree of at most three members makes at most four looks.
use Rattle.std.proofs.Common.{ℕ, ◌+◌, ◌^◌, ◌≤◌, List, length, inl, inr, arith}
use Rattle.std.proofs.Math.Pow.{pow_mono}
use Rattle.std.proofs.Math.Nat.{pow-le-pow_left}
use Rattle.std.proofs.lemmas.Bool.{cases_lt}
use Rattle.ic_unsafe_ref.specs.declared.place.Place.{Place}
use Rattle.ic_rbtree.specs.Comparing.{WithinComparisonBound}

-- if the number of looks is within the bound, and the tree has at most three members, then there are at most four looks
pub four_in_three : (looks : ℕ) (s : List Place) → WithinComparisonBound looks s → length s ≤ 3 → looks ≤ 4
four_in_three looks s few small = elim (cases_lt looks 5) [
  | inl less ↦ omega (arith, less)
  | inr more ↦ let many : 2 ^ 5 ≤ 2 ^ looks = pow_mono more in
      let at_most : (length s + 1) ^ 2 ≤ 4 ^ 2 = pow-le-pow_left {n = length s + 1} {m = 4} (omega (arith, small)) 2 in
      omega (arith, few.few, many, at_most)
]
