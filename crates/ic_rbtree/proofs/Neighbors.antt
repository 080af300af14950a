-- Lemmas about the insert position between two neighboring members, and about the insert position after the last member.
use Rattle.std.proofs.Common.{◌≡◌, Option, Some, None, List, [], ◌∷◌, refl, sym, ap, ◌∙◌, subst}
use Rattle.ic_link_ops.specs.Prelude.{Place, Cut, join, first, last, at_back, Table, Tree, leaf, fork, top, in_order}
use Rattle.ic_link_ops.specs.declared.side.Side.TheVariants.{Left, Right}
use Rattle.ic_link_ops.specs.Frames.{Frame, frame, before}
use Rattle.ic_link_ops.specs.RedBlackTree.{Node, Represents}
use Rattle.ic_link_ops.proofs.SequenceLemmas.{none_not, some_same, last_or-append, last_of_push, nothing_last}
use Rattle.ic_link_ops.proofs.Trees.{leaf_is}
use Rattle.ic_rbtree.specs.Prelude.{IsInsertPos, Piece, ClimbState}
use Rattle.ic_rbtree.proofs.Nearest.{nearest_there}
use Rattle.ic_rbtree.proofs.Removing.{spot, front_represented, represented_of}
use Rattle.ic_rbtree.proofs.Zipper.{go_down}

module _ {E : Type 0} (n : E → Node) where
  -- the last member of a subtree has no child on the right
  last_childless : {base v : Table E} {root : Option Place} {ps : List Piece} {p : Place} (fs : List Frame) (t : Tree) → ClimbState n base v root fs t ps → last (in_order t) ≡ Some p → (n (v.entry p)).right ≡ None
  last_childless {p = p} fs leaf st e = absurd (none_not p e)
  last_childless {v = v} fs (fork c a r leaf) st e =
      subst (λ z. (n (v.entry z)).right ≡ None) (some_same (sym (last_of_push (in_order a) r) ∙ e)) st.are.1.0.0.right
  last_childless fs (fork c a r (fork d x q y)) st e =
      last_childless (frame Right c r a ∷ fs) (fork d x q y) (go_down n Right c r a (fork d x q y) st)
      (sym (nearest_there Left (fork d x q y) q (Some r) None refl) ∙ (sym (last_or-append None (in_order a) (r ∷ in_order (fork d x q y))) ∙ e))

  -- the insert position after all members is on the right side of the last member
  pub insert_pos_after : {v : Table E} {root end : Option Place} {s : List Place} → Represents n v root s → end ≡ last s → IsInsertPos n v end Right (at_back s)
  insert_pos_after {v} {root} {end} {s} h is = by end is where
    by : (o : Option Place) → o ≡ last s → IsInsertPos n v o Right (at_back s)
    by None e = (nothing_last s e, refl)
    by (Some q) e = let x = represented_of n h in (last_childless [] x.tree x.stands (ap (λ z. last z) x.order ∙ sym e), e)

  -- the insert position before a member q is on the right side of the member before q, if q has a left child. Otherwise it is on the left side of q
  pub insert_pos_of_front : {v : Table E} {root : Option Place} (gap : Cut) {q below : Place} {front : Option Place} → Represents n v root (join gap) → front ≡ last gap.front → Some q ≡ first gap.back
      → (n (v.entry q)).left ≡ Some below → IsInsertPos n v front Right gap
  insert_pos_of_front {v} gap {q} {below} {front} shown front_is back_is some =
      let f = front_represented n gap q shown (sym back_is) in
      let x = spot n gap.front q f.0 f.2 in
      let top_is : top x.a ≡ Some below = sym x.stands.are.1.0.0.left ∙ some in
      let end : last gap.front ≡ last (in_order x.a) =
      sym (ap (λ s. last s) x.front_is) ∙ last_or-append None (before x.fs) (in_order x.a) ∙ nearest_there Left x.a below (last (before x.fs)) None top_is in
      by front front_is (front_is ∙ end) top_is (go_down n Left x.c q x.b x.a x.stands)
    where
      by : {root : Option Place} {fs : List Frame} {a : Tree} (o : Option Place) → o ≡ last gap.front → o ≡ last (in_order a) → top a ≡ Some below → ClimbState n v v root fs a [] → IsInsertPos n v o Right gap
      by {a = a} None is end top_is st = absurd (none_not below (sym (ap top (leaf_is a (nothing_last (in_order a) end))) ∙ top_is))
      by {fs = fs} {a} (Some p) is end top_is st = (last_childless fs a st (sym end), is)
