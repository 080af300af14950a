-- A tree of the right red-black shape has a small height, so a descent in the tree is short.
use Rattle.std.proofs.Common.{◌≡◌, ℕ, suc, max, ◌+◌, ◌*◌, ◌^◌, ◌≤◌, ◌<◌, List, [], ◌∷◌, ◌++◌, length, refl, sym, ap, ◌∙◌, subst, arith, length-append, inl, inr}
use Rattle.std.proofs.Math.Nat.{pow-le-pow_left, max-le, le-max_left, le-max_right, pow-le-pow_right, pow-suc, pow-zero, one-mul, mul-le-mul, mul-add, add-mul}
use Rattle.std.proofs.lemmas.Nat.{pow-add, pow_below}
use Rattle.std.proofs.lemmas.Bool.{cases_lt}
use Rattle.ic_link_ops.specs.Prelude.{Place, Tree, leaf, fork, in_order, top_color, blacks, IsEven, NoRedPair, IsRight}
use Rattle.ic_link_ops.specs.declared.color.Color.{Color}
use Rattle.ic_link_ops.specs.declared.color.Color.TheVariants.{Red, Black}
use Rattle.ic_link_ops.specs.declared.side.Side.{Side}
use Rattle.ic_link_ops.specs.declared.side.Side.TheVariants.{Left, Right}
use Rattle.ic_link_ops.specs.Frames.{Frame, frame, branch, plug}
use Rattle.ic_rbtree.specs.Height.{height}

pub blacks_few : (t : Tree) → IsEven t → 2 ^ blacks t ≤ length (in_order t) + 1
blacks_few leaf e = omega arith
blacks_few (fork Red a p b) e =
    omega (arith, blacks_few a e.1, ap (λ n. 2 ^ n) zero_left, length-append (in_order a) (p ∷ in_order b))
  where
    zero_left : 0 + blacks a ≡ blacks a
    zero_left = omega arith
blacks_few (fork Black a p b) e =
    let left = blacks_few a e.1 in
    let right : 2 ^ blacks a ≤ length (in_order b) + 1 = subst (λ (n : ℕ). 2 ^ n ≤ length (in_order b) + 1) (sym e.0) (blacks_few b e.2) in
    omega (arith, left, right, pow-add 2 1 (blacks a), length-append (in_order a) (p ∷ in_order b))

-- the number by which the height of a tree may be greater than twice its black height: 1 if the root is red, and 0 if the root is black
abbrev slack : Color → ℕ
slack Red = 1
slack Black = 0

slack_low : (c : Color) → slack c ≤ 1
slack_low Red = omega arith
slack_low Black = omega arith

pub height_low : (t : Tree) → IsEven t → NoRedPair t → height t ≤ 2 * blacks t + slack (top_color t)
height_low leaf e n = omega arith
height_low (fork Red a p b) e n =
    let left : height a ≤ 2 * blacks a = omega (arith, height_low a e.1 n.1, ap slack (n.0 refl).0) in
    let right : height b ≤ 2 * blacks a = omega (arith, height_low b e.2 n.2, ap slack (n.0 refl).1, e.0) in
    omega (arith, max-le left right)
height_low (fork Black a p b) e n =
    let left : height a ≤ 2 * blacks a + 1 = omega (arith, height_low a e.1 n.1, slack_low (top_color a)) in
    let right : height b ≤ 2 * blacks a + 1 = omega (arith, height_low b e.2 n.2, slack_low (top_color b), e.0) in
    omega (arith, max-le left right)

pub square : (n : ℕ) → n ^ 2 ≡ n * n
square n = pow-add n 1 1 ∙ ap (λ x. x * x) ((pow-suc n 0 ∙ ap (λ x. x * n) (pow-zero n)) ∙ one-mul n)

pub height_few : (t : Tree) → IsRight t → 2 ^ height t ≤ (length (in_order t) + 1) ^ 2
height_few t r =
    let low : height t ≤ blacks t + blacks t = omega (arith, height_low t r.even r.no_red_pair, ap slack r.black_root) in
    let few = blacks_few t r.even in
    let a : 2 ^ height t ≤ 2 ^ (blacks t + blacks t) = pow-le-pow_right (omega arith) low in
    let b = mul-le-mul few few in
    omega (arith, a, b, pow-add 2 (blacks t) (blacks t), square (length (in_order t) + 1))

-- a tree with a red root has two subtrees, and both have the black height b of the tree. So the tree has at least 2 * 2 ^ b - 1 members
red_many : (t : Tree) → IsEven t → top_color t ≡ Red → 2 ^ blacks t + 2 ^ blacks t ≤ length (in_order t) + 1
red_many leaf e r = cc
red_many (fork Black a p b) e r = cc
red_many (fork Red a p b) e r =
    let left = blacks_few a e.1 in
    let right : 2 ^ blacks a ≤ length (in_order b) + 1 = subst (λ (n : ℕ). 2 ^ n ≤ length (in_order b) + 1) (sym e.0) (blacks_few b e.2) in
    omega (arith, left, right, ap (λ n. 2 ^ n) zero_left, length-append (in_order a) (p ∷ in_order b))
  where
    zero_left : 0 + blacks a ≡ blacks a
    zero_left = omega arith

-- if m is at least three times 2 ^ b, and h is at most 2 b + 3, then 2 ^ h is at most the square of m
thrice_few : (h b m : ℕ) → h ≤ b + b + 3 → 2 ^ b + (2 ^ b + 2 ^ b) ≤ m → 2 ^ h ≤ m ^ 2
thrice_few h b m low many =
    let x : ℕ = 2 ^ b in
    let a : 2 ^ h ≤ 2 ^ (b + b + 3) = pow-le-pow_right (omega arith) low in
    let e : 2 ^ (b + b + 3) ≡ 2 ^ b * 2 ^ b * 8 = pow-add 2 (b + b) 3 ∙ ap (λ y. y * 8) (pow-add 2 b b) in
    let wide : (2 ^ b + (2 ^ b + 2 ^ b)) * (2 ^ b + (2 ^ b + 2 ^ b)) ≤ m * m = mul-le-mul many many in
    omega (
      arith,
      a,
      e,
      wide,
      square m,
      add-mul (2 ^ b) (2 ^ b + 2 ^ b) (2 ^ b + (2 ^ b + 2 ^ b)),
      add-mul (2 ^ b) (2 ^ b) (2 ^ b + (2 ^ b + 2 ^ b)),
      mul-add (2 ^ b) (2 ^ b) (2 ^ b + 2 ^ b),
      mul-add (2 ^ b) (2 ^ b) (2 ^ b),
    )

twice_few : (h b m : ℕ) → h ≤ b + b + 2 → 2 ^ b + 2 ^ b ≤ m → 2 ^ h ≤ m ^ 2
twice_few h b m low many =
    let a : 2 ^ h ≤ 2 ^ (b + b + 2) = pow-le-pow_right (omega arith) low in
    let e : 2 ^ (b + b + 2) ≡ 2 ^ b * 2 ^ b * 4 = pow-add 2 (b + b) 2 ∙ ap (λ y. y * 4) (pow-add 2 b b) in
    let wide : (2 ^ b + 2 ^ b) * (2 ^ b + 2 ^ b) ≤ m * m = mul-le-mul many many in
    omega (arith, a, e, wide, square m, add-mul (2 ^ b) (2 ^ b) (2 ^ b + 2 ^ b), mul-add (2 ^ b) (2 ^ b) (2 ^ b))

-- ONE COMPARISON MORE than a longest path has members is still within the bound of a descent
pub height_fewer : (t : Tree) → IsRight t → 1 ≤ length (in_order t) → 2 ^ (height t + 1) ≤ (length (in_order t) + 1) ^ 2
height_fewer leaf r some = absurd (omega (arith, some))
height_fewer (fork Red a p b) r some = let k = r.black_root in cc
height_fewer (fork Black a p b) r some = by (top_color a) (top_color b) refl refl where
  m : ℕ
  m = length (in_order a ++ p ∷ in_order b) + 1

  all : m ≡ (length (in_order a) + 1) + (length (in_order b) + 1)
  all = omega (arith, length-append (in_order a) (p ∷ in_order b))

  left : 2 ^ blacks a ≤ length (in_order a) + 1
  left = blacks_few a r.even.1

  right : 2 ^ blacks a ≤ length (in_order b) + 1
  right = subst (λ (n : ℕ). 2 ^ n ≤ length (in_order b) + 1) (sym r.even.0) (blacks_few b r.even.2)

  left_high : height a ≤ 2 * blacks a + slack (top_color a)
  left_high = height_low a r.even.1 r.no_red_pair.1

  right_high : height b ≤ 2 * blacks a + slack (top_color b)
  right_high = omega (arith, height_low b r.even.2 r.no_red_pair.2, r.even.0)

  high : max (height a) (height b) ≤ 2 * blacks a + 1
  high = max-le (omega (arith, left_high, slack_low (top_color a))) (omega (arith, right_high, slack_low (top_color b)))

  by : (c d : Color) → top_color a ≡ c → top_color b ≡ d → 2 ^ (1 + max (height a) (height b) + 1) ≤ m ^ 2
  by Red d e f =
      thrice_few (1 + max (height a) (height b) + 1) (blacks a) m (omega (arith, high)) (omega (arith, all, red_many a r.even.1 e, right))
  by Black Red e f =
      let more : 2 ^ blacks a + 2 ^ blacks a ≤ length (in_order b) + 1 =
      subst (λ (n : ℕ). 2 ^ n + 2 ^ n ≤ length (in_order b) + 1) (sym r.even.0) (red_many b r.even.2 f) in
      thrice_few (1 + max (height a) (height b) + 1) (blacks a) m (omega (arith, high)) (omega (arith, all, more, left))
  by Black Black e f =
      let low : max (height a) (height b) ≤ 2 * blacks a =
      max-le (omega (arith, left_high, ap slack e)) (omega (arith, right_high, ap slack f)) in
      twice_few (1 + max (height a) (height b) + 1) (blacks a) m (omega (arith, low)) (omega (arith, all, left, right))

pub height_branch : (d : Side) (c : Color) (a : Tree) (p : Place) (b : Tree) → suc (height a) ≤ height (branch d c a p b)
height_branch Left c a p b = omega (arith, le-max_left (height a) (height b))
height_branch Right c a p b = omega (arith, le-max_right (height b) (height a))

pub length_frames_height : (fs : List Frame) (t : Tree) → length fs + height t ≤ height (plug fs t)
length_frames_height [] t = omega arith
length_frames_height (frame d c p b ∷ fs) t = omega (arith, length_frames_height fs (branch d c t p b), height_branch d c t p b)

-- one comparison for each frame, and at most one for each member of a longest path down from the subtree, are within the bound of a descent
pub looks_few : (fs : List Frame) (t : Tree) (looks : ℕ) → IsRight (plug fs t) → looks ≤ length fs + height t → 2 ^ looks ≤ (length (in_order (plug fs t)) + 1) ^ 2
looks_few fs t looks r h =
    let low : looks ≤ height (plug fs t) = omega (arith, h, length_frames_height fs t) in
    let a : 2 ^ looks ≤ 2 ^ height (plug fs t) = pow-le-pow_right (omega arith) low in
    omega (arith, a, height_few (plug fs t) r)

pub looks_fewer : (fs : List Frame) (t : Tree) (looks : ℕ) → IsRight (plug fs t) → looks ≤ length fs + height t → 1 ≤ length (in_order (plug fs t))
    → 2 ^ (looks + 1) ≤ (length (in_order (plug fs t)) + 1) ^ 2
looks_fewer fs t looks r h some =
    let low : looks + 1 ≤ height (plug fs t) + 1 = omega (arith, h, length_frames_height fs t) in
    let a : 2 ^ (looks + 1) ≤ 2 ^ (height (plug fs t) + 1) = pow-le-pow_right (omega arith) low in
    omega (arith, a, height_fewer (plug fs t) r some)

-- if 2 ^ v is at most the square of a number m, and m is at most 2 ^ 33, then v is at most 66
pub exponent_small : (v m : ℕ) → m ≤ 8589934592 → 2 ^ v ≤ m ^ 2 → v ≤ 66
exponent_small v m small h = elim (cases_lt 66 v) [
  | inl more ↦
      let big : 2 ^ 66 < 2 ^ v = pow_below 66 v more in
      let square : m ^ 2 ≤ 8589934592 ^ 2 = pow-le-pow_left small 2 in
      let is : 8589934592 ^ 2 ≡ 2 ^ 66 = refl in
      absurd (omega (arith, big, h, square, is))
  | inr few ↦ few
]

-- if 2 ^ v is at most m, and m is at most 2 ^ 33, then v is at most 66
pub exponent_smaller : (v m : ℕ) → m ≤ 8589934592 → 2 ^ v ≤ m → v ≤ 66
exponent_smaller v m small h = elim (cases_lt 66 v) [
  | inl more ↦
      let big : 2 ^ 66 < 2 ^ v = pow_below 66 v more in
      let is : 2 ^ 66 ≡ 73786976294838206464 = refl in
      absurd (omega (arith, big, h, small, is))
  | inr few ↦ few
]
