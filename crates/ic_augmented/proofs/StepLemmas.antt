-- These lemmas say what a write of a link keeps of the summary at one place, and what link steps keep of the summaries of a sequence.
use Rattle.std.proofs.Common.{◌≡◌, ◌≢◌, ◌≤◌, ◌⊎◌, Option, Some, None, Result, Ok, Err, OnErr, List, [], ◌∷◌, ◌++◌, ap, sym, ◌∙◌, subst, arith, inl, inr, Ordering}
use Rattle.ic_link_ops.specs.Prelude.{Place, join, insert, Table, ChangesOnly, LinkStep, acquires, releases, times_in}
use Rattle.ic_link_ops.proofs.Prelude.{same_or_not, none_not, one_at_self, one_at_other, times_append}
use Rattle.ic_link_ops.specs.RedBlackTree.{Node, Represents}
use Rattle.ic_rbtree.specs.Ordered.{InsertsInOrder}
use Rattle.ic_augmented.specs.Consistent.{IsJoined, IsConsistent, IsConsistentBut, RepresentsConsistent, KeepsConsistent}
use Rattle.ic_augmented.specs.Summaries.{Summaries}
use Rattle.ic_augmented.specs.AugmentedSteps.{IsAcquired, IsRightAt, TraceAugmented}
use Rattle.ic_augmented.specs.declared.augmented.Augmented.{Augmented}
use Rattle.ic_augmented.proofs.ConsistencyLemmas.{written_stale, written_beside}

module _ {E S : Type 0} (n : E → Node) where
  -- if a fresh summary at q is right, each fresh summary of the sequence with only q is right
  at_one : (v : Table E) (z : Summaries S) (q : Place) → IsRightAt n v z q → IsConsistent n v z (q ∷ [])
  at_one v z q h p m but x e = elim (same_or_not p q) [
    | inl i ↦ subst (IsRightAt n v z) (sym i) h x e
    | inr other ↦ absurd (omega (arith, m, one_at_other p q other))
  ]

  right_in : (v : Table E) (z : Summaries S) (q : Place) → IsConsistent n v z (q ∷ []) → IsRightAt n v z q
  right_in v z q h = h q (omega (arith, one_at_self q)) (none_not q)

  -- if a child is written at a place with a stale summary, each fresh summary that was right still is
  pub set_stale : (v w : Table E) {z y : Summaries S} {p : Place} → y.fresh p ≡ None → KeepsConsistent n v v z y → ChangesOnly v w p → (q : Place) → ⊥ ⊎ IsRightAt n v z q → IsRightAt n w y q
  set_stale v w {z} {y} {p} none keeps only q h = elim h [
    | inl a ↦ absurd a
    | inr r ↦ right_in w y q (written_stale n v w y (q ∷ []) p none only (keeps.consistent (q ∷ []) (at_one v z q r)))
  ]

  -- a write that changes no child keeps each fresh summary right
  pub set_beside : (v w : Table E) (z : Summaries S) {p : Place} → (n (w.entry p)).left ≡ (n (v.entry p)).left → (n (w.entry p)).right ≡ (n (v.entry p)).right → ChangesOnly v w p
      → (q : Place) → ⊥ ⊎ IsRightAt n v z q → IsRightAt n w z q
  set_beside v w z {p} el er only q h = elim h [
    | inl a ↦ absurd a
    | inr r ↦ right_in w z q (written_beside n v w z (q ∷ []) p el er only (at_one v z q r))
  ]

  -- if a link is written, and then the summary of its place is made stale, the place has no wrong summary, and each fresh summary that was right still is
  written_then_stale : (v w : Table E) {z y : Summaries S} {p : Place} → ((q : Place) → q ≢ p → w.entry q ≡ v.entry q) → ((s : List Place) → IsConsistentBut n w z s (Some p) → IsConsistent n w y s)
      → (q : Place) → (p ≡ q) ⊎ IsRightAt n v z q → IsRightAt n w y q
  written_then_stale v w {z} {y} {p} others closed q h = right_in w y q (closed (q ∷ []) but_p) where
    but_p : IsConsistentBut n w z (q ∷ []) (Some p)
    but_p r m but x e = elim (same_or_not r q) [
      | inr other ↦ absurd (omega (arith, m, one_at_other r q other))
      | inl i ↦ elim h [
        | inl j ↦ absurd (but (ap Some (j ∙ sym i)))
        | inr right ↦
            let apart : r ≢ p = λ k. but (ap Some (sym k)) in
            subst (λ (e : E). IsJoined z r (n e).left (n e).right x) (sym (others r apart)) (subst (IsRightAt n v z) (sym i) right x e)
      ]
    ]

  -- if a place is linked by the step, or its fresh summary was right before, its fresh summary is right afterwards
  pub acquired_right : (v w : Table E) {z y : Summaries S} {p : Place} → ((q : Place) → q ≢ p → w.entry q ≡ v.entry q) → ((s : List Place) → IsConsistentBut n w z s (Some p) → IsConsistent n w y s)
      → (q : Place) → IsAcquired q (acquires p ∷ []) ⊎ IsRightAt n v z q → IsRightAt n w y q
  acquired_right v w {z} {y} {p} others closed q h = elim h [
    | inl a ↦ elim a [
      | inl e ↦ written_then_stale v w others closed q (inl e)
      | inr none ↦ absurd none
    ]
    | inr r ↦ written_then_stale v w others closed q (inr r)
  ]

  pub changed_right : (v w : Table E) {z y : Summaries S} {p : Place} → ((q : Place) → q ≢ p → w.entry q ≡ v.entry q) → ((s : List Place) → IsConsistentBut n w z s (Some p) → IsConsistent n w y s)
      → (q : Place) → ⊥ ⊎ IsRightAt n v z q → IsRightAt n w y q
  changed_right v w {z} {y} {p} others closed q h = elim h [
    | inl none ↦ absurd none
    | inr r ↦ written_then_stale v w others closed q (inr r)
  ]

-- if each place of a sequence had a right summary or was linked by a step, each fresh summary of the sequence is right after the steps
module _ {N M E S : Type 0} {Trace : N → N → List LinkStep → Type 0} {n : E → Node} {table : N → Table E} {summaries : M → Summaries S} {Covers : M → Place → Type 0} {old new : Augmented N M} {steps : List LinkStep} where
  pub kept_right : TraceAugmented Trace n table summaries Covers old new steps → (s t : List Place) → ((q : Place) → 1 ≤ times_in q t → IsAcquired q steps ⊎ (1 ≤ times_in q s))
      → IsConsistent n (table old.links) (summaries old.summaries) s → IsConsistent n (table new.links) (summaries new.summaries) t
  kept_right d s t among h q m but x e = elim (among q m) [
    | inl a ↦ d.right q (inl a) x e
    | inr k ↦ d.right q (inr (λ y f. h q k (none_not q) y f)) x e
  ]

  -- link steps keep each fresh summary of a sequence right
  pub still_right : TraceAugmented Trace n table summaries Covers old new steps → (s : List Place) → IsConsistent n (table old.links) (summaries old.summaries) s → IsConsistent n (table new.links) (summaries new.summaries) s
  still_right d s h = kept_right d s s (λ q m. inr m) h

module _ {N M E S : Type 0} {Trace : N → N → List LinkStep → Type 0} {n : E → Node} {table : N → Table E} {summaries : M → Summaries S} {Covers : M → Place → Type 0} {old new : Augmented N M} {p : Place} where
  -- AN INSERT IN ORDER keeps each fresh summary right
  pub inserted_right : {at : Place → Ordering} {root : Option Place} {s : List Place} → TraceAugmented Trace n table summaries Covers old new (acquires p ∷ []) → IsConsistent n (table old.links) (summaries old.summaries) s
      → InsertsInOrder (Represents n) at (table old.links) (table new.links) root s p → InsertsInOrder (RepresentsConsistent n (summaries new.summaries)) at (table old.links) (table new.links) root s p
  inserted_right {s = s} d h i = record {
    gap = i.gap;
    same = i.same;
    border = i.border;
    inserted = record { shows = (i.inserted.shows, kept_right d s (insert i.gap p) among h); frame = i.inserted.frame };
  } where
    among : (q : Place) → 1 ≤ times_in q (insert i.gap p) → IsAcquired q (acquires p ∷ []) ⊎ (1 ≤ times_in q s)
    among q m = elim (same_or_not q p) [
      | inl e ↦ inl (inl (sym e))
      | inr other ↦
          let k : times_in q (join i.gap) ≡ times_in q s = ap (times_in q) i.same in
          inr (omega (arith, m, k, one_at_other q p other, times_append q i.gap.front i.gap.back, times_append q i.gap.front (p ∷ i.gap.back)))
    ]

  -- A REMOVAL keeps each fresh summary right
  pub removed_right : (front back : List Place) → TraceAugmented Trace n table summaries Covers old new (releases p ∷ []) → IsConsistent n (table old.links) (summaries old.summaries) (front ++ p ∷ back)
      → IsConsistent n (table new.links) (summaries new.summaries) (front ++ back)
  removed_right front back d h = kept_right d (front ++ p ∷ back) (front ++ back) (λ q m. inr (omega (arith, m, times_append q front back, times_append q front (p ∷ back)))) h

-- if a call was refused, its step on the links was refused
pub links_refused : {X Y : Type 0} (R Same : Type 0) (r : Result X Y) → OnErr r (R × Same) → OnErr r R
links_refused R Same (Ok x) refused = tt
links_refused R Same (Err y) refused = refused.0
