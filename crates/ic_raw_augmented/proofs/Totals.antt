-- Lemmas on combined values: of parts of a list, and of the subtrees of a tree with sums.
use Rattle.std.proofs.Common.{◌≡◌, ◌≢◌, ◌≤◌, ◌<◌, ◌+◌, ◌-◌, ◌^◌, ◌⊎◌, ℕ, Bool, true, false, nat_lt, Option, Some, List, [], ◌∷◌, ◌++◌, min, max, refl, sym, ap, ◌∙◌, inl, inr, arith, ltb-true, ltb-false}
use Rattle.std.proofs.Math.Nat.{min-eq_left, min-eq_right, min-le_right, le-max_left, le-max_right, max-le, max-zero, zero-max}
use Rattle.ic_link_ops.specs.Prelude.{Place, Table, IsTree, one_at, times, times_in, Tree, leaf, fork, top, in_order}
use Rattle.ic_link_ops.specs.declared.color.Color.{Color}
use Rattle.ic_link_ops.specs.Frames.{Frame, frame, plug}
use Rattle.ic_link_ops.specs.declared.side.Side.TheVariants.{Left, Right}
use Rattle.ic_link_ops.proofs.Prelude.{none_not, some_same, one_at_self, absent_times}
use Rattle.ic_raw.specs.declared.words.RawThree.{RawThree}
use Rattle.ic_raw.specs.Seen.{seen, seen_node}
use Rattle.ic_raw_augmented.specs.declared.sums.Kind.{Kind}
use Rattle.ic_raw_augmented.specs.declared.sums.Kind.TheVariants.{Sum, Greatest}
use Rattle.ic_raw_augmented.specs.declared.sums.RawSum.{RawSum}
use Rattle.ic_raw_augmented.specs.Sums.{IsRightAt, IsSummed, IsSummedTree, combined, sum_below, total, value_at}

pub below_or_not : (a b : ℕ) → (a < b) ⊎ (b ≤ a)
below_or_not a b = pick (nat_lt a b) refl where
  pick : (c : Bool) → nat_lt a b ≡ c → (a < b) ⊎ (b ≤ a)
  pick true e = inl (ltb-true a b e)
  pick false e = inr (ltb-false a b e)

-- the root of a tree is in the tree, and in neither of the root's subtrees
pub times_top : (p : Place) (t : Tree) → top t ≡ Some p → 1 ≤ times p t
times_top p leaf e = absurd (none_not p e)
times_top p (fork c a q b) e = let h : one_at p q ≡ 1 = rw (some_same e) (one_at_self p) in omega arith

pub apart_left : (q p : Place) (c : Color) (a b : Tree) → ((x : Place) → times x (fork c a p b) ≤ 1) → 1 ≤ times q a → q ≢ p
apart_left q p c a b once m e = let k : one_at q p ≡ 1 = rw e (one_at_self p) in omega (arith, k, m, once q)

pub apart_right : (q p : Place) (c : Color) (a b : Tree) → ((x : Place) → times x (fork c a p b) ≤ 1) → 1 ≤ times q b → q ≢ p
apart_right q p c a b once m e = let k : one_at q p ≡ 1 = rw e (one_at_self p) in omega (arith, k, m, once q)

-- sums that stop at the greatest number m: it does not matter at which addition the sum reaches m
module _ (m : ℕ) where
  add_capped : (a z : ℕ) → min (a + min z m) m ≡ min (a + z) m
  add_capped a z = elim (below_or_not z m) [
    | inl less ↦ ap (λ (u : ℕ). min (a + u) m) (min-eq_left (omega (arith, less)))
    | inr more ↦
        let full : min z m ≡ m = min-eq_right more in
        let one : min (a + min z m) m ≡ m = min-eq_right (omega (arith, full)) in
        let two : min (a + z) m ≡ m = min-eq_right (omega (arith, more)) in
        one ∙ sym two
  ]

  capped_add : (z a : ℕ) → min (min z m + a) m ≡ min (z + a) m
  capped_add z a = elim (below_or_not z m) [
    | inl less ↦ ap (λ (u : ℕ). min (u + a) m) (min-eq_left (omega (arith, less)))
    | inr more ↦
        let full : min z m ≡ m = min-eq_right more in
        let one : min (min z m + a) m ≡ m = min-eq_right (omega (arith, full)) in
        let two : min (z + a) m ≡ m = min-eq_right (omega (arith, more)) in
        one ∙ sym two
  ]

max_on : (a b c : ℕ) → max a (max b c) ≡ max (max a b) c
max_on a b c =
    let x : ℕ = max a (max b c) in
    let y : ℕ = max (max a b) c in
    let l : a ≤ max a b = le-max_left a b in
    let r : b ≤ max a b = le-max_right a b in
    let p : max a b ≤ y = le-max_left (max a b) c in
    let q : c ≤ y = le-max_right (max a b) c in
    let s : b ≤ max b c = le-max_left b c in
    let t : c ≤ max b c = le-max_right b c in
    let u : a ≤ x = le-max_left a (max b c) in
    let v : max b c ≤ x = le-max_right a (max b c) in
    let up : x ≤ y = max-le (omega (arith, l, p)) (max-le (omega (arith, r, p)) q) in
    let down : y ≤ x = max-le (max-le u (omega (arith, s, v))) (omega (arith, t, v)) in
    omega (arith, up, down)

-- it does not matter which two of three neighboring values are combined first
pub combined_on : (kind : Kind) (a b c : ℕ) → combined kind a (combined kind b c) ≡ combined kind (combined kind a b) c
combined_on Sum a b c =
    let m : ℕ = 2 ^ 64 - 1 in
    let same : a + (b + c) ≡ (a + b) + c = omega arith in
    add_capped m a (b + c) ∙ (ap (λ (u : ℕ). min u m) same ∙ sym (capped_add m (a + b) c))
combined_on Greatest a b c = max_on a b c

one_alone : (kind : Kind) (a v : ℕ) → combined kind a (combined kind v 0) ≡ combined kind a v
one_alone Sum a v =
    let m : ℕ = 2 ^ 64 - 1 in
    let same : a + (v + 0) ≡ a + v = omega arith in
    add_capped m a (v + 0) ∙ ap (λ (u : ℕ). min u m) same
one_alone Greatest a v = ap (max a) (max-zero v)

none_first : (kind : Kind) (value : Place → ℕ) (s : List Place) → combined kind 0 (total kind value s) ≡ total kind value s
none_first Greatest value s = zero-max (total Greatest value s)
none_first Sum value [] = let low : 0 + 0 ≤ 2 ^ 64 - 1 = omega arith in min-eq_left low
none_first Sum value (p ∷ s) =
    let x : ℕ = min (value p + total Sum value s) (2 ^ 64 - 1) in
    let same : 0 + x ≡ x = omega arith in
    ap (λ (u : ℕ). min u (2 ^ 64 - 1)) same ∙ min-eq_left (min-le_right (value p + total Sum value s) (2 ^ 64 - 1))

module _ (kind : Kind) (value : Place → ℕ) where
  pub total_append : (s u : List Place) → total kind value (s ++ u) ≡ combined kind (total kind value s) (total kind value u)
  total_append [] u = sym (none_first kind value u)
  total_append (p ∷ s) u = ap (combined kind (value p)) (total_append s u) ∙ combined_on kind (value p) (total kind value s) (total kind value u)

  pub total_push : (s : List Place) (p : Place) → total kind value (s ++ p ∷ []) ≡ combined kind (total kind value s) (value p)
  total_push s p = total_append s (p ∷ []) ∙ one_alone kind (total kind value s) (value p)

-- if the sums are right in a tree, the sum at the root combines the values of all members of the tree
module _ (kind : Kind) (t : Table RawThree) (sums : List RawSum) where
  pub sum_is : (up : Option Place) (u : Tree) → IsTree seen_node (seen t).entry up u → IsSummedTree kind t sums u → sum_below sums (top u) ≡ total kind (value_at sums) (in_order u)
  sum_is up leaf h r = refl
  sum_is up (fork c a p b) h r =
      let left : sum_below sums (seen_node ((seen t).entry p)).left ≡ total kind (value_at sums) (in_order a) = ap (sum_below sums) h.0.left ∙ sum_is (Some p) a h.1 r.1 in
      let right : sum_below sums (seen_node ((seen t).entry p)).right ≡ total kind (value_at sums) (in_order b) = ap (sum_below sums) h.0.right ∙ sum_is (Some p) b h.2 r.2 in
      r.0 ∙ ((λ i. combined kind (left i) (combined kind (value_at sums p) (right i))) ∙ sym (total_append kind (value_at sums) (in_order a) (p ∷ in_order b)))

  -- if the sums are right at each member of a tree, the sums are right in the tree
  pub summed_tree : (u : Tree) → ((q : Place) → 1 ≤ times q u → IsRightAt kind t sums q) → IsSummedTree kind t sums u
  summed_tree leaf f = tt
  summed_tree (fork c a p b) f =
      (f p (let one = one_at_self p in omega (arith, one)), summed_tree a (λ q m. f q (omega (arith, m))), summed_tree b (λ q m. f q (omega (arith, m))))

  pub summed_all : (s : List Place) (u : Tree) → ((q : Place) → times q u ≡ times_in q s) → IsSummed kind t sums s → IsSummedTree kind t sums u
  summed_all s u same h = summed_tree u (λ q m. h q (λ out. let none = absent_times q s out in let is = same q in omega (arith, none, is, m)))

  -- if the sums are right in a tree, they are right in each of its subtrees
  pub summed_part : (fs : List Frame) (u : Tree) → IsSummedTree kind t sums (plug fs u) → IsSummedTree kind t sums u
  summed_part [] u h = h
  summed_part (frame Left c p b ∷ fs) u h = (summed_part fs (fork c u p b) h).1
  summed_part (frame Right c p b ∷ fs) u h = (summed_part fs (fork c b p u) h).2
