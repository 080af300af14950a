-- This file proves facts about how often a place occurs in a sequence, in a tree, and around a subtree. Places are distinct if
-- none of them occurs more than once.
use Rattle.std.proofs.Common.{◌≡◌, ◌≢◌, ◌+◌, ◌≤◌, List, [], ◌∷◌, ◌++◌, refl, arith, inl, inr, eq-eqb, ne_eqb}
use Rattle.ic_link_ops.specs.Base.{Place, index_of, IsAbsent, IsDistinct}
use Rattle.ic_unsafe_ref.proofs.PlaceLemmas.{same_index, same_or_not}
use Rattle.ic_link_ops.specs.declared.color.Color.{Color}
use Rattle.ic_link_ops.specs.declared.side.Side.{Side}
use Rattle.ic_link_ops.specs.declared.side.Side.TheVariants.{Left, Right}
use Rattle.ic_link_ops.specs.Trees.{Tree, leaf, fork, in_order}
use Rattle.ic_link_ops.specs.Frames.{Frame, frame, branch, plug}
use Rattle.ic_link_ops.specs.Times.{one_at, times_in, times, times_around}

pub one_at_self : (p : Place) → one_at p p ≡ 1
one_at_self p = rw (eq-eqb (index_of p) (index_of p) refl) refl

pub one_at_other : (q p : Place) → q ≢ p → one_at q p ≡ 0
one_at_other q p h = rw (ne_eqb (index_of q) (index_of p) (λ e. h (same_index q p e))) refl

-- If `one_at q p` is 0, the places q and p are different.
pub apart : (q p : Place) → one_at q p ≡ 0 → q ≢ p
apart q p h e = let k : one_at q p ≡ 1 = rw e (one_at_self p) in absurd (omega arith)

pub times_append : (q : Place) (s t : List Place) → times_in q (s ++ t) ≡ times_in q s + times_in q t
times_append q [] t = omega arith
times_append q (x ∷ s) t = omega (arith, times_append q s t)

-- A place that is absent from a sequence occurs 0 times in it.
pub absent_times : (q : Place) (s : List Place) → IsAbsent q s → times_in q s ≡ 0
absent_times q [] h = refl
absent_times q (x ∷ s) h = omega (arith, one_at_other q x h.0, absent_times q s h.1)

pub times_absent : (q : Place) (s : List Place) → times_in q s ≡ 0 → IsAbsent q s
times_absent q [] h = tt
times_absent q (x ∷ s) h = (apart q x (omega arith), times_absent q s (omega arith))

-- In a sequence of distinct places each place occurs at most once.
pub distinct_times : (s : List Place) → IsDistinct s → (q : Place) → times_in q s ≤ 1
distinct_times [] d q = omega arith
distinct_times (x ∷ s) d q = elim (same_or_not q x) [
  | inl e ↦ let k : times_in q s ≡ 0 = rw e (absent_times x s d.0) in let m : one_at q x ≡ 1 = rw e (one_at_self x) in omega arith
  | inr n ↦ omega (arith, one_at_other q x n, distinct_times s d.1 q)
]

pub times_distinct : (s : List Place) → ((q : Place) → times_in q s ≤ 1) → IsDistinct s
times_distinct [] once = tt
times_distinct (x ∷ s) once =
    (times_absent x s (omega (arith, once x, one_at_self x)), times_distinct s (λ q. omega (arith, once q)))

-- A place occurs in a tree as often as in the tree's sequence from left to right.
pub times_order : (q : Place) (t : Tree) → times_in q (in_order t) ≡ times q t
times_order q leaf = refl
times_order q (fork c a p b) = omega (arith, times_append q (in_order a) (p ∷ in_order b), times_order q a, times_order q b)

pub times_branch : (q : Place) (d : Side) (c : Color) (a : Tree) (p : Place) (b : Tree) → times q (branch d c a p b) ≡ times q a + one_at q p + times q b
times_branch q Left c a p b = refl
times_branch q Right c a p b = omega arith

pub times_plug : (q : Place) (fs : List Frame) (t : Tree) → times q (plug fs t) ≡ times q t + times_around q fs
times_plug q [] t = omega arith
times_plug q (frame d c p b ∷ fs) t = omega (arith, times_plug q fs (branch d c t p b), times_branch q d c t p b)
