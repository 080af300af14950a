-- Summaries are recomputed from a place up to the root.
use Rattle.std.proofs.Common.{◌≡◌, ◌≤◌, ◌<◌, ◌-◌, ℕ, Option, Some, None, List, [], ◌∷◌, ◌++◌, length, refl, sym, ◌∙◌, subst, arith}
use Rattle.ic_link_ops.specs.Prelude.{Place, Table, Node, IsTree, times, times_around, Tree, fork, top}
use Rattle.ic_link_ops.specs.declared.side.Side.TheVariants.{Left, Right}
use Rattle.ic_link_ops.specs.Frames.{Frame, frame, plug, above}
use Rattle.ic_link_ops.proofs.Prelude.{none_not, times_plug}
use Rattle.ic_augmented.specs.Summaries.{Summaries, IsSummed}
use Rattle.ic_augmented.specs.Consistent.{IsSameAt, IsConsistentTree, IsConsistentBelow, IsConsistentBeside, Refreshes, RepresentsConsistent, RepresentsAugmented}
use Rattle.ic_augmented.specs.Subtrees.{IsSubtree}
use Rattle.ic_augmented.proofs.ConsistencyLemmas.{consistent_kept, same_on, summed_consistent_tree}
use Rattle.ic_augmented.proofs.EditLemmas.{consistent_represented}
use Rattle.ic_augmented.proofs.SubtreeLemmas.{lower, member_subtree, subtree_left, subtree_right}

module _ {S : Type 0} where
  -- the trees beside a path stay consistent, if their members keep their summaries and their stored parents
  beside_kept : (z w : Summaries S) (fs : List Frame) → w.join ≡ z.join → ((q : Place) → 1 ≤ times_around q fs → IsSameAt z w q) → IsConsistentBeside z fs → IsConsistentBeside w fs
  beside_kept z w [] ej k h = tt
  beside_kept z w (frame d c p b ∷ fs) ej k h =
      (consistent_kept z w b ej (λ q m. k q (omega (arith, m))) h.0, beside_kept z w fs ej (λ q m. k q (omega (arith, m))) h.1)

  -- if a tree is consistent, the subtree below a path is consistent, and so are the trees beside the path
  pub consistent_parts : (z : Summaries S) (fs : List Frame) (t : Tree) → IsConsistentTree z (plug fs t) → IsConsistentTree z t × IsConsistentBeside z fs
  consistent_parts z [] t h = (h, tt)
  consistent_parts z (frame Left c p b ∷ fs) t h = let r = consistent_parts z fs (fork c t p b) h in (r.0.1, (r.0.2, r.1))
  consistent_parts z (frame Right c p b ∷ fs) t h = let r = consistent_parts z fs (fork c b p t) h in (r.0.2, (r.0.1, r.1))

module _ {E S : Type 0} (n : E → Node) (v : Table E) where
  -- each place outside the tree of p keeps its summary and its stored parent
  abbrev pub OthersStay : Summaries S → Summaries S → Place → Type 0
  OthersStay z w p = (fs : List Frame) (t : Tree) → IsSubtree n v fs t → top t ≡ Some p → (q : Place) → times q (plug fs t) ≡ 0 → IsSameAt z w q

  -- from state z to state w the whole tree of p has been summed
  abbrev pub RefreshesPath : Summaries S → Summaries S → Place → ℕ → Type 0
  RefreshesPath z w p turns = (fs : List Frame) (t : Tree) → IsSubtree n v fs t → top t ≡ Some p → length fs < turns → IsConsistentBeside z fs → IsConsistentBelow z t → IsSummed w None (plug fs t)

  module _ (z y : Summaries S) (p : Place) (upper : Option Place)
      (here : (u : Option Place) (t : Tree) → IsTree n v.entry u t → Some p ≡ top t → Refreshes IsConsistentBelow z y upper t 67) (upper_is : (fs : List Frame) (t : Tree) → IsSubtree n v fs t → top t ≡ Some p → upper ≡ above fs) where
    -- the subtree at the place p is summed
    summed_here : (fs : List Frame) (t : Tree) → IsSubtree n v fs t → top t ≡ Some p → IsConsistentBelow z t → IsSummed y upper t
    summed_here fs t h e below =
        (here (above fs) t h.tree (sym e)).summed (λ q. omega (arith, h.once q, times_plug q fs t)) below (omega (arith, h.low, lower fs t))

    beside_here : (fs : List Frame) (t : Tree) → IsSubtree n v fs t → top t ≡ Some p → IsConsistentBeside z fs → IsConsistentBeside y fs
    beside_here fs t h e beside =
        let r = here (above fs) t h.tree (sym e) in
        beside_kept z y fs r.join (λ q m. r.frame q (omega (arith, m, h.once q, times_plug q fs t))) beside

    -- at the root the path ends, and the whole tree is summed
    pub path_ends : (turns : ℕ) → upper ≡ None → RefreshesPath z y p turns
    path_ends turns none [] t h e low beside below = rw (← none) (summed_here [] t h e below)
    path_ends turns none (frame d c q b ∷ fs) t h e low beside below = absurd (none_not q (sym none ∙ upper_is (frame d c q b ∷ fs) t h e))

    -- if the place has a parent, the path goes on at this parent
    pub path_on : (w : Summaries S) (up : Place) (turns : ℕ) → upper ≡ Some up → RefreshesPath y w up (turns - 1) → RefreshesPath z w p turns
    path_on w up turns is on [] t h e low beside below = absurd (none_not up (sym (upper_is [] t h e) ∙ is))
    path_on w up turns is on (frame Left c q b ∷ fs) t h e low beside below =
        let kept = beside_here (frame Left c q b ∷ fs) t h e beside in
        let at : Some q ≡ Some up = sym (upper_is (frame Left c q b ∷ fs) t h e) ∙ is in
        on fs (fork c t q b) (subtree_left n v c q b fs t h) at (omega (arith, low)) kept.1 (summed_consistent_tree y upper t (summed_here (frame Left c q b ∷ fs) t h e below), kept.0)
    path_on w up turns is on (frame Right c q b ∷ fs) t h e low beside below =
        let kept = beside_here (frame Right c q b ∷ fs) t h e beside in
        let at : Some q ≡ Some up = sym (upper_is (frame Right c q b ∷ fs) t h e) ∙ is in
        on fs (fork c b q t) (subtree_right n v c q b fs t h) at (omega (arith, low)) kept.1 (kept.0, summed_consistent_tree y upper t (summed_here (frame Right c q b ∷ fs) t h e below))

    -- each place outside the whole tree keeps its summary and its stored parent
    pub others_here : (fs : List Frame) (t : Tree) → IsSubtree n v fs t → top t ≡ Some p → (q : Place) → times q (plug fs t) ≡ 0 → IsSameAt z y q
    others_here fs t h e q out = (here (above fs) t h.tree (sym e)).frame q (omega (arith, out, times_plug q fs t))

    pub others_on : (w : Summaries S) (up : Place) → upper ≡ Some up → OthersStay y w up → OthersStay z w p
    others_on w up is on [] t h e q out = absurd (none_not up (sym (upper_is [] t h e) ∙ is))
    others_on w up is on (frame Left c a b ∷ fs) t h e q out =
        let at : Some a ≡ Some up = sym (upper_is (frame Left c a b ∷ fs) t h e) ∙ is in
        same_on z y w q (others_here (frame Left c a b ∷ fs) t h e q out) (on fs (fork c t a b) (subtree_left n v c a b fs t h) at q out)
    others_on w up is on (frame Right c a b ∷ fs) t h e q out =
        let at : Some a ≡ Some up = sym (upper_is (frame Right c a b ∷ fs) t h e) ∙ is in
        same_on z y w q (others_here (frame Right c a b ∷ fs) t h e q out) (on fs (fork c b a t) (subtree_right n v c a b fs t h) at q out)

  -- A REFRESH FROM A MEMBER to the root leaves the whole tree summed
  pub propagated : (z y : Summaries S) (root : Option Place) (front : List Place) (p : Place) (back : List Place) → RefreshesPath z y p 67 → RepresentsConsistent n z v root (front ++ p ∷ back)
      → RepresentsAugmented n y v root (front ++ p ∷ back)
  propagated z y root front p back path h =
      let x = member_subtree n v root front p back h.0 in
      let t : Tree = fork x.c x.a p x.b in
      let parts = consistent_parts z x.fs t (subst (λ (u : Tree). IsConsistentTree z u) (sym x.same) (consistent_represented n v z root (front ++ p ∷ back) h)) in
      record {
        shows = h.0;
        summed = subst (λ (u : Tree). IsSummed y None u) x.same (path x.fs t x.subtree refl (omega (arith, x.low)) parts.1 (parts.0.1, parts.0.2));
      }
