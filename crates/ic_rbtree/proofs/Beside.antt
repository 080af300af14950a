-- Lemmas about the step from a position in a represented tree to the member beside the position, and about the insert position between them.
use Rattle.std.proofs.Common.{◌≡◌, ◌<◌, Option, Some, None, List, [], ◌∷◌, refl, sym, ap, ◌∙◌, subst}
use Rattle.ic_link_ops.specs.Prelude.{Place, Cut, join, Table, HasMember, Tree, leaf, fork, top, in_order, IsRight}
use Rattle.ic_link_ops.specs.declared.color.Color.{Color}
use Rattle.ic_link_ops.specs.declared.side.Side.{Side}
use Rattle.ic_link_ops.specs.declared.side.Side.TheVariants.{Left, Right}
use Rattle.ic_link_ops.specs.RedBlackTree.{Node, Represents}
use Rattle.ic_link_ops.specs.Frames.{frame, across, child_on, branch, plug}
use Rattle.ic_link_ops.proofs.RepresentedTrees.{no_root}
use Rattle.ic_rbtree.specs.Prelude.{height, turns, ClimbState, IsInsertPos}
use Rattle.ic_rbtree.specs.Sides.{IsBeside, beyond, nearest, IsInTree, IsOutermost, IsNearestAbove, IsOutermostWithin, IsNearestAboveWithin}
use Rattle.ic_rbtree.proofs.Nearest.{nearest_or, choose, is_beside, nearest_there, nearest_plain, nearest_around, beside_member, beside_null, nearest_nothing, nothing_both}
use Rattle.ic_rbtree.proofs.Low.{represented_low}
use Rattle.ic_rbtree.proofs.Zipper.{go_down}
use Rattle.ic_rbtree.proofs.Removing.{PositionWithNext, spot, represented_of}
use Rattle.ic_rbtree.proofs.Branches.{top_leaf}

-- a tree with the root p is a branch as seen from side d, with the subtree on side d first
fork_branch : (d : Side) (c : Color) (a : Tree) (p : Place) (b : Tree) → fork c a p b ≡ branch d c (choose d a b) p (choose (across d) a b)
fork_branch Left c a p b = refl
fork_branch Right c a p b = refl

pub nearest_twice : (d : Side) (s : List Place) → nearest (across (across d)) s ≡ nearest d s
nearest_twice Left s = refl
nearest_twice Right s = refl

module _ {E : Type 0} (n : E → Node) where
  -- `IsOutermost`, which speaks of every tree, implies `IsOutermostWithin`, which speaks only of trees whose height is less than `turns`
  pub outermost_here : (v : Table E) {p : Place} {d : Side} {y : Place} → IsOutermost n v p d y → IsOutermostWithin n v p d y
  outermost_here v h base root fs t ps s e low = h base root fs t ps s e

  pub nearest_here : (v : Table E) {p : Place} (d : Side) {r : Option Place} → IsNearestAbove n v p d r → IsNearestAboveWithin n v p d r
  nearest_here v d h base root fs t ps s e low = h base root fs t ps s e

  module _ {v : Table E} {root : Option Place} where
    -- the root of a represented tree is the root of a subtree of a tree in the table, namely of the whole tree
    pub root_can : {s : List Place} {r : Place} → Represents n v root s → root ≡ Some r → IsInTree n v r
    root_can h is = let k = represented_of n h in (v, root, [], k.tree, [], k.stands, sym k.stands.are.0.1 ∙ is)

    pub root_end : {s : List Place} {r : Place} (d : Side) {y : Place} → Represents n v root s → root ≡ Some r → IsOutermostWithin n v r d y → (nearest (across d) s ≡ Some y) × (child_on d (n (v.entry y)) ≡ None)
    root_end d h is outermost =
        let k = represented_of n h in
        let e = outermost v root [] k.tree [] k.stands (sym k.stands.are.0.1 ∙ is) (represented_low n k.stands k.shape) in
        (sym (ap (nearest (across d)) k.order) ∙ e.nearest_is, e.childless)

    -- a member of a represented tree has a position in it, with members before and after, and with two subtrees
    pub member_spot : {p : Place} → HasMember (Represents n v root) p → (front : List Place) × (back : List Place) × PositionWithNext n v v root front p back []
    member_spot {p} m = (m.front, m.back, spot n m.front p m.back (represented_of n m.shown))

    module _ {front back : List Place} {p : Place} (x : PositionWithNext n v v root front p back []) where
      pub spot_can : IsInTree n v p
      spot_can = (v, root, x.fs, fork x.c x.a p x.b, [], x.stands, refl)

      child_is : (d : Side) → child_on d (n (v.entry p)) ≡ top (choose d x.a x.b)
      child_is Left = x.stands.are.1.0.0.left
      child_is Right = x.stands.are.1.0.0.right

      below_stands : (d : Side) → ClimbState n v v root (frame d x.c p (choose (across d) x.a x.b) ∷ x.fs) (choose d x.a x.b) []
      below_stands d =
          go_down n d x.c p (choose (across d) x.a x.b) (choose d x.a x.b)
          (subst (λ t. ClimbState n v v root x.fs t []) (fork_branch d x.c x.a p x.b) x.stands)

      below_low : (d : Side) → height (plug (frame d x.c p (choose (across d) x.a x.b) ∷ x.fs) (choose d x.a x.b)) < turns
      below_low d = represented_low n (below_stands d) (subst (λ t. IsRight (plug x.fs t)) (fork_branch d x.c x.a p x.b) x.right)

      pub below_can : (d : Side) {q : Place} → child_on d (n (v.entry p)) ≡ Some q → IsInTree n v q
      below_can d is = (v, root, frame d x.c p (choose (across d) x.a x.b) ∷ x.fs, choose d x.a x.b, [], below_stands d, sym (child_is d) ∙ is)

      -- if the member p has a child q on side d, the neighbor of p on side d is y, the outermost member at or below q on the other side. y has no child on the
      -- other side
      below_end : (d : Side) {q y : Place} → child_on d (n (v.entry p)) ≡ Some q → IsOutermostWithin n v q (across d) y
          → (nearest d (choose d front back) ≡ Some y) × (child_on (across d) (n (v.entry y)) ≡ None)
      below_end d {q} is outermost =
          let below : top (choose d x.a x.b) ≡ Some q = sym (child_is d) ∙ is in
          let e = outermost v root (frame d x.c p (choose (across d) x.a x.b) ∷ x.fs) (choose d x.a x.b) [] (below_stands d) below (below_low d) in (
            nearest_around d x.fs x.a x.b front back x.front_is x.back_is
                ∙ nearest_there d (choose d x.a x.b) q (nearest d (beyond d x.fs)) None below
                ∙ sym (nearest_plain d (in_order (choose d x.a x.b)))
                ∙ sym (nearest_twice d (in_order (choose d x.a x.b)))
                ∙ e.nearest_is,
            e.childless,
          )

      -- if the member p has no child on side d, its neighbor on this side is the nearest member above p on this side
      above_end : (d : Side) {r : Option Place} → child_on d (n (v.entry p)) ≡ None → IsNearestAboveWithin n v p d r → r ≡ nearest d (choose d front back)
      above_end d none nearest_above =
          let bare : choose d x.a x.b ≡ leaf = top_leaf (choose d x.a x.b) (sym (child_is d) ∙ none) in
          nearest_above v root x.fs (fork x.c x.a p x.b) [] x.stands refl (represented_low n x.stands x.right)
          ∙ sym (nearest_nothing d (nearest d (beyond d x.fs)))
          ∙ ap (λ t. nearest_or d (in_order t) (nearest d (beyond d x.fs))) (sym bare)
          ∙ sym (nearest_around d x.fs x.a x.b front back x.front_is x.back_is)

    -- A STEP FROM NULL to side d leads to the end of the tree on the other side. The gap that is beside null on side d is beside this end
    module _ (d : Side) (gap : Cut) (shown : Represents n v root (join gap)) where
      pub null_step : {o : Option Place} → IsBeside d gap None → o ≡ nearest d (join gap) → IsBeside (across d) gap o
      null_step {o} here end = is_beside d gap o (end ∙ sym (ap (nearest d) (beside_null d gap here)))

      -- a step from null leads to the outermost member y of the tree on the other side, and the insert position at the gap is below y
      pub null_end : {k : Side} {r y : Place} → k ≡ across d → IsBeside d gap None → root ≡ Some r → IsOutermostWithin n v r k y → IsInsertPos n v (Some y) k gap
      null_end {k} {r} {y} other here is outermost =
          let e = root_end (across d) shown is (subst (λ z. IsOutermostWithin n v r z y) other outermost) in
          subst (λ z. IsInsertPos n v (Some y) z gap) (sym other)
          (e.1, is_beside d gap (Some y) (sym (ap (nearest d) (beside_null d gap here) ∙ sym (nearest_twice d (join gap)) ∙ e.0)))

      -- if the member p has a child on side d, the insert position at the gap beside p is below y, the outermost member at or below this child on the other
      -- side
      pub member_end : {k : Side} (p : Place) {q y : Place} → k ≡ across d → IsBeside d gap (Some p) → child_on d (n (v.entry p)) ≡ Some q → IsOutermostWithin n v q k y → IsInsertPos n v (Some y) k gap
      member_end {k} p {q} {y} other here is outermost =
          let m = beside_member d gap p here in
          let x = spot n m.0 p m.1 (represented_of n (subst (λ s. Represents n v root s) m.2 shown)) in
          let e = below_end x d is (subst (λ z. IsOutermostWithin n v q z y) other outermost) in
          subst (λ z. IsInsertPos n v (Some y) z gap) (sym other) (e.1, is_beside d gap (Some y) (sym (ap (nearest d) m.3 ∙ e.0)))

      -- if the member p has no child on side d, the gap beside p is also beside the nearest member above p on this side
      pub member_above : (p : Place) {r : Option Place} → IsBeside d gap (Some p) → child_on d (n (v.entry p)) ≡ None → IsNearestAboveWithin n v p d r → IsBeside (across d) gap r
      member_above p {r} here none nearest_above =
          let m = beside_member d gap p here in
          let x = spot n m.0 p m.1 (represented_of n (subst (λ s. Represents n v root s) m.2 shown)) in
          is_beside d gap r (above_end x d none nearest_above ∙ sym (ap (nearest d) m.3))

      -- in an empty tree, a step from null leads to null: the only gap is beside null on both sides
      pub null_alone : IsBeside d gap None → root ≡ None → IsBeside (across d) gap None
      null_alone here is = null_step here (sym (ap (nearest d) (no_root (subst (λ o. Represents n v o (join gap)) is shown)) ∙ nearest_plain d [] ∙ nearest_nothing d None))

      -- in an empty tree, the insert position without a parent is at the only gap
      pub null_insert_pos : IsBeside d gap None → root ≡ None → IsInsertPos n v None d gap
      null_insert_pos here is = nothing_both gap.front gap.back (no_root (subst (λ o. Represents n v o (join gap)) is shown))
