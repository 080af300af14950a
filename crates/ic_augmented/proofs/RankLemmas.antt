-- These lemmas count the members before a subtree of a tree with counts.
use Rattle.std.proofs.Common.{◌≡◌, ◌≢◌, ◌≤◌, ◌+◌, ◌-◌, ◌^◌, ℕ, suc, true, false, Option, Some, None, List, [], ◌∷◌, ◌++◌, length, min, refl, sym, ap, ◌∙◌, subst, arith, length-append, eqb-true, eq-eqb}
use Rattle.std.specs.Bool.{⊤}
use Rattle.std.proofs.Math.Nat.{min-eq_left}
use Rattle.ic_link_ops.specs.Prelude.{Place, index_of, Table, Node, Tree, fork, top, in_order, is_end}
use Rattle.ic_link_ops.proofs.Prelude.{same_index, none_not, some_same, times_plug}
use Rattle.ic_link_ops.specs.declared.side.Side.TheVariants.{Left, Right}
use Rattle.ic_link_ops.specs.Frames.{Frame, frame, plug, above, before, after}
use Rattle.ic_link_ops.proofs.Frames.{in_order_parts}
use Rattle.ic_augmented.specs.declared.augmented_table.Cell.{Cell}
use Rattle.ic_augmented.specs.Counts.{counts_in}
use Rattle.ic_augmented.specs.Prelude.{or_zero, Summaries, seen, IsSummed, RepresentsAugmented}
use Rattle.ic_augmented.specs.Subtrees.{IsSubtree}
use Rattle.ic_augmented.proofs.ConsistencyLemmas.{times_top}
use Rattle.ic_augmented.proofs.CountLemmas.{seen_count}
use Rattle.ic_augmented.proofs.SubtreeLemmas.{member_subtree, subtree_left, subtree_right}

pub end_is : (o : Option Place) (p : Place) → is_end o p ≡ true → o ≡ Some p
end_is None p e = let k : false ≡ true = e in cc
end_is (Some q) p e = ap Some (same_index q p (eqb-true (index_of q) (index_of p) e))

pub not_end : (o : Option Place) (p : Place) → is_end o p ≡ false → o ≢ Some p
not_end o p e is = let k : is_end o p ≡ true = ap (λ (y : Option Place). is_end y p) is ∙ eq-eqb (index_of p) (index_of p) refl in let l : true ≡ false = sym k ∙ e in cc

module _ {S : Type 0} where
  -- if a tree is summed, each of its subtrees is summed below the subtree's parent
  pub summed_below : (z : Summaries S) (fs : List Frame) (t : Tree) → IsSummed z None (plug fs t) → IsSummed z (above fs) t
  summed_below z [] t h = h
  summed_below z (frame Left c p b ∷ fs) t h = (summed_below z fs (fork c t p b) h).2
  summed_below z (frame Right c p b ∷ fs) t h = (summed_below z fs (fork c b p t) h).3

-- a subtree and the members before it are together at most all members of the tree
fewer_members : (fs : List Frame) (t : Tree) (few : ℕ) → length (in_order (plug fs t)) ≤ few → length (in_order t) + length (before fs) ≤ few
fewer_members fs t few h =
    let parts : length (in_order (plug fs t)) ≡ length (before fs) + length (in_order t ++ after fs) = ap length (in_order_parts fs t) ∙ length-append (before fs) (in_order t ++ after fs) in
    omega (arith, parts, h, length-append (in_order t) (after fs))

pub before_root : (fs : List Frame) → above fs ≡ None → 0 ≡ length (before fs)
before_root [] e = refl
before_root (frame d c p b ∷ fs) e = absurd (none_not p (sym e))

pub before_spent : (fs : List Frame) → length fs ≤ 0 → 0 ≡ length (before fs)
before_spent [] e = refl
before_spent (f ∷ fs) e = absurd (omega (arith, e))

module _ {E : Type 0} (n : E → Node) (v : Table E) (es : List (Cell ⊤ ℕ)) where
  -- the number of members before the subtree at the place p
  abbrev pub CountsBefore : Place → ℕ → ℕ → Type 0
  CountsBefore p turns r = (fs : List Frame) (t : Tree) → IsSubtree n v fs t → IsSummed (counts_in es) None (plug fs t) → top t ≡ Some p → length fs ≤ turns → r ≡ length (before fs)

  module _ (up : Place) (turns r : ℕ) (above_it : CountsBefore up (turns - 1) r) (right : Option Place) (right_is : right ≡ (n (v.entry up)).right) where
    -- before the subtree of a left child come exactly the members that come before the subtree of its parent
    pub before_left : (p : Place) (fs : List Frame) (t : Tree) → above fs ≡ Some up → is_end right p ≡ false → IsSubtree n v fs t → IsSummed (counts_in es) None (plug fs t) → top t ≡ Some p → length fs ≤ turns → r ≡ length (before fs)
    before_left p [] t eu other h s e low = absurd (none_not up eu)
    before_left p (frame Left c q b ∷ fs) t eu other h s e low = above_it fs (fork c t q b) (subtree_left n v c q b fs t h) s eu (omega (arith, low))
    before_left p (frame Right c q b ∷ fs) t eu other h s e low =
        absurd (not_end right p other (right_is ∙ (ap (λ (y : Place). (n (v.entry y)).right) (sym (some_same eu)) ∙ (h.around.0.right ∙ e))))

    -- before the subtree of a right child come the members before the subtree of its parent, the parent's left subtree, and the parent
    pub before_right : (p : Place) (left : Option Place) (k m : ℕ) (fs : List Frame) (t : Tree) → above fs ≡ Some up → is_end right p ≡ true → left ≡ (n (v.entry up)).left → k ≡ or_zero (seen (counts_in es) left)
        → m ≡ min (min (r + k) (2 ^ 64 - 1) + 1) (2 ^ 64 - 1) → IsSubtree n v fs t → IsSummed (counts_in es) None (plug fs t) → top t ≡ Some p → length fs ≤ turns → m ≡ length (before fs)
    before_right p left k m [] t eu same el ek em h s e low = absurd (none_not up eu)
    before_right p left k m (frame Left c q b ∷ fs) t eu same el ek em h s e low =
        let twice : top b ≡ Some p = sym h.around.0.right ∙ (ap (λ (y : Place). (n (v.entry y)).right) (some_same eu) ∙ (sym right_is ∙ end_is right p same)) in
        absurd (omega (arith, h.once p, times_plug p fs (fork c t q b), times_top p t e, times_top p b twice))
    before_right p left k m (frame Right c q b ∷ fs) t eu same el ek em h s e low =
        let up_is : q ≡ up = some_same eu in
        let u = subtree_right n v c q b fs t h in
        let front : r ≡ length (before fs) = above_it fs (fork c b q t) u s eu (omega (arith, low)) in
        let summed = (summed_below (counts_in es) fs (fork c b q t) s).2 in
        let all : length (in_order (fork c b q t)) + length (before fs) ≤ 8589934591 = fewer_members fs (fork c b q t) 8589934591 h.few in
        let long : length (in_order (fork c b q t)) ≡ length (in_order b) + suc (length (in_order t)) = length-append (in_order b) (q ∷ in_order t) in
        let beside : left ≡ top b = el ∙ (ap (λ (y : Place). (n (v.entry y)).left) (sym up_is) ∙ h.around.0.left) in
        let count : k ≡ length (in_order b) =
        ek ∙ (ap (λ (o : Option Place). or_zero (seen (counts_in es) o)) beside ∙ seen_count es (Some q) b summed (omega (arith, all, long))) in
        let one : min (r + k) (2 ^ 64 - 1) ≡ r + k = min-eq_left (omega (arith, front, count, all, long)) in
        let two : min (r + k + 1) (2 ^ 64 - 1) ≡ r + k + 1 = min-eq_left (omega (arith, front, count, all, long)) in
        em ∙ (ap (λ (y : ℕ). min (y + 1) (2 ^ 64 - 1)) one ∙ (two ∙ omega (arith, front, count, length-append (before fs) (in_order b ++ q ∷ []), length-append (in_order b) (q ∷ []))))

  -- THE INDEX of a member is the number of members before it
  pub index_is : (root : Option Place) (front : List Place) (p : Place) (back : List Place) (left : Option Place) (r k m : ℕ) → CountsBefore p 67 r → left ≡ (n (v.entry p)).left
      → k ≡ or_zero (seen (counts_in es) left) → m ≡ min (r + k) (2 ^ 64 - 1) → RepresentsAugmented n (counts_in es) v root (front ++ p ∷ back) → m ≡ length front
  index_is root front p back left r k m counted el ek em h =
      let x = member_subtree n v root front p back h.shows in
      let summed = subst (λ (y : Tree). IsSummed (counts_in es) None y) (sym x.same) h.summed in
      let t : Tree = fork x.c x.a p x.b in
      let ahead : r ≡ length (before x.fs) = counted x.fs t x.subtree summed refl (omega (arith, x.low)) in
      let all : length (in_order t) + length (before x.fs) ≤ 8589934591 = fewer_members x.fs t 8589934591 x.subtree.few in
      let long : length (in_order t) ≡ length (in_order x.a) + suc (length (in_order x.b)) = length-append (in_order x.a) (p ∷ in_order x.b) in
      let count : k ≡ length (in_order x.a) =
      ek ∙ (ap (λ (o : Option Place). or_zero (seen (counts_in es) o)) (el ∙ x.subtree.tree.0.left)
      ∙ seen_count es (Some p) x.a (summed_below (counts_in es) x.fs t summed).2 (omega (arith, all, long))) in
      let one : min (r + k) (2 ^ 64 - 1) ≡ r + k = min-eq_left (omega (arith, ahead, count, all, long)) in
      em ∙ (one ∙ (omega (arith, ahead, count, length-append (before x.fs) (in_order x.a)) ∙ ap length x.front_is))
