-- Lemmas about the member nearest to a gap on either side.
use Rattle.std.proofs.Common.{◌≡◌, Option, Some, None, List, [], ◌∷◌, ◌++◌, drop, refl, sym, ap, ◌∙◌, append_assoc, append-nil}
use Rattle.ic_link_ops.specs.Prelude.{Place, Cut, join, first, first_or, last, last_or, but_last, Tree, leaf, fork, top, in_order}
use Rattle.ic_link_ops.specs.declared.color.Color.{Color}
use Rattle.ic_link_ops.specs.declared.side.Side.{Side}
use Rattle.ic_link_ops.specs.declared.side.Side.TheVariants.{Left, Right}
use Rattle.ic_link_ops.specs.Frames.{Frame, frame, across, branch, before, after}
use Rattle.ic_link_ops.proofs.SequenceLemmas.{none_not, first_or-append, last_or-append, split_last, first_is, nothing_first, nothing_last}
use Rattle.ic_rbtree.specs.Sides.{IsBeside, beyond, nearest}

-- the member of the list that is nearest to a gap on the given side, or o if the list is empty
abbrev pub nearest_or : Side → List Place → Option Place → Option Place
nearest_or Left s o = last_or o s
nearest_or Right s o = first_or s o

-- the part of a gap on the given side: the members before the gap or the members after it
abbrev pub part : Side → Cut → List Place
part Left gap = gap.front
part Right gap = gap.back

pub is_beside : (d : Side) (gap : Cut) (o : Option Place) → o ≡ nearest d (part d gap) → IsBeside (across d) gap o
is_beside Left gap o h = h
is_beside Right gap o h = h

-- the outermost member of a branch on side d is the outermost member of the subtree on this side. If this subtree is empty, the outermost member is the root of
-- the branch
pub nearest_branch : (d : Side) (c : Color) (a : Tree) (p : Place) (b : Tree)
    → nearest (across d) (in_order (branch d c a p b)) ≡ nearest_or (across d) (in_order a) (Some p)
nearest_branch Left c a p b = first_or-append (in_order a) (p ∷ in_order b) None
nearest_branch Right c a p b = last_or-append None (in_order b) (p ∷ in_order a)

-- in a tree that has a member, the nearest member does not depend on the alternative o
pub nearest_there : (d : Side) (t : Tree) (q : Place) (o u : Option Place) → top t ≡ Some q → nearest_or d (in_order t) o ≡ nearest_or d (in_order t) u
nearest_there d leaf q o u e = absurd (none_not q e)
nearest_there Left (fork c a p b) q o u e = last_or-append o (in_order a) (p ∷ in_order b) ∙ sym (last_or-append u (in_order a) (p ∷ in_order b))
nearest_there Right (fork c a p b) q o u e = first_or-append (in_order a) (p ∷ in_order b) o ∙ sym (first_or-append (in_order a) (p ∷ in_order b) u)

pub nearest_plain : (d : Side) (s : List Place) → nearest d s ≡ nearest_or d s None
nearest_plain Left s = refl
nearest_plain Right s = refl

-- in an empty list, the nearest member is the alternative o
pub nearest_nothing : (d : Side) (o : Option Place) → nearest_or d [] o ≡ o
nearest_nothing Left o = refl
nearest_nothing Right o = refl

-- a frame on side d has no member beyond the subtree on side d. A frame on the other side has the member that is nearest to the subtree on side d
pub beyond_same : (d : Side) (c : Color) (p : Place) (b : Tree) (fs : List Frame) → beyond d (frame d c p b ∷ fs) ≡ beyond d fs
beyond_same Left c p b fs = refl
beyond_same Right c p b fs = refl

pub nearest_frame : (d : Side) (c : Color) (p : Place) (b : Tree) (fs : List Frame) → nearest d (beyond d (frame (across d) c p b ∷ fs)) ≡ Some p
nearest_frame Left c p b fs = last_or-append None (before fs) (in_order b ++ p ∷ []) ∙ last_or-append (last_or None (before fs)) (in_order b) (p ∷ [])
nearest_frame Right c p b fs = refl

pub beyond_nothing : (d : Side) → nearest d (beyond d []) ≡ None
beyond_nothing Left = refl
beyond_nothing Right = refl

-- one of two values, chosen by a side: the first for the left, the second for the right
abbrev pub choose : {A : Type 0} → Side → A → A → A
choose Left a b = a
choose Right a b = b

-- the neighbor of a member on side d is the nearest member of its subtree on this side. If this subtree is empty, the neighbor is the nearest member beyond the
-- member and its subtrees
pub nearest_around : (d : Side) (fs : List Frame) (a b : Tree) (front back : List Place) → before fs ++ in_order a ≡ front → in_order b ++ after fs ≡ back
    → nearest d (choose d front back) ≡ nearest_or d (in_order (choose d a b)) (nearest d (beyond d fs))
nearest_around Left fs a b front back ef eb = sym (ap last ef) ∙ last_or-append None (before fs) (in_order a)
nearest_around Right fs a b front back ef eb = sym (ap first eb) ∙ first_or-append (in_order b) (after fs) None

-- if two lists together have no members, both lists are empty
pub nothing_both : (s t : List Place) → s ++ t ≡ [] → (s ≡ []) × (t ≡ [])
nothing_both [] t e = (refl, e)
nothing_both (x ∷ s) t e = cc

-- if the gap is beside the member p on side d, the part of the gap on side d consists of the members on this side of p
pub beside_member : (d : Side) (gap : Cut) (p : Place) → IsBeside d gap (Some p)
    → (front : List Place) × (back : List Place) × (join gap ≡ front ++ p ∷ back) × (part d gap ≡ choose d front back)
beside_member Left gap p h = (gap.front, drop 1 gap.back, ap (λ (s : List Place). gap.front ++ s) (first_is gap.back h), refl)
beside_member Right gap p h = (
  but_last gap.front,
  gap.back,
  ap (λ (s : List Place). s ++ gap.back) (split_last gap.front (sym h)) ∙ append_assoc (but_last gap.front) (p ∷ []) gap.back,
  refl,
)

-- if the gap is beside null on side d, the part of the gap on side d has all members
pub beside_null : (d : Side) (gap : Cut) → IsBeside d gap None → part d gap ≡ join gap
beside_null Left gap h = sym (append-nil gap.front) ∙ ap (λ (s : List Place). gap.front ++ s) (sym (nothing_first gap.back h))
beside_null Right gap h = ap (λ (s : List Place). s ++ gap.back) (sym (nothing_last gap.front h))
