-- Each write keeps fresh summaries right, and stale summaries are written again. The edge is the place whose summary may be wrong during an edit.
use Rattle.std.proofs.Common.{◌≡◌, ◌≢◌, ◌≤◌, ◌+◌, ℕ, suc, zero, ◌-◌, true, false, Option, Some, None, List, refl, sym, ap, ◌∙◌, subst, arith, inl, inr, ◌⊎◌}
use Rattle.std.proofs.Math.Nat.{le-max_left, le-max_right}
use Rattle.ic_link_ops.specs.Prelude.{Place, Table, ChangesOnly, Tree, leaf, fork, top, Node, IsTree, one_at, times, times_in}
use Rattle.ic_link_ops.proofs.Prelude.{same_or_not, none_not, some_same, one_at_self, one_at_other, apart}
use Rattle.ic_link_ops.specs.declared.color.Color.{Color}
use Rattle.ic_rbtree.specs.Height.{height}
use Rattle.ic_augmented.specs.Summaries.{Summaries, is_fresh, seen, total, IsSummed, WritesNoSummary, Invalidates, Writes}
use Rattle.ic_augmented.specs.Consistent.{IsBelowStale, IsUnder, IsJoined, IsSameAt, IsConsistentTree, IsConsistentBelow, Refreshes, IsConsistentBut, IsConsistent}

pub times_top : (p : Place) (t : Tree) → top t ≡ Some p → 1 ≤ times p t
times_top p leaf e = absurd (none_not p e)
times_top p (fork c a q b) e = let h : one_at p q ≡ 1 = rw (some_same e) (one_at_self p) in omega arith

-- if a tree has no place twice, a place below its root is not the root
pub apart_left : (q p : Place) (c : Color) (a b : Tree) → ((x : Place) → times x (fork c a p b) ≤ 1) → 1 ≤ times q a → q ≢ p
apart_left q p c a b once m e = let k : one_at q p ≡ 1 = rw e (one_at_self p) in omega (arith, k, m, once q)

pub apart_right : (q p : Place) (c : Color) (a b : Tree) → ((x : Place) → times x (fork c a p b) ≤ 1) → 1 ≤ times q b → q ≢ p
apart_right q p c a b once m e = let k : one_at q p ≡ 1 = rw e (one_at_self p) in omega (arith, k, m, once q)

pub where_is : (i k : ℕ) → 1 ≤ i + k → (1 ≤ i) ⊎ (1 ≤ k)
where_is zero k m = inr (omega (arith, m))
where_is (suc i) k m = inl (omega arith)

module _ {S : Type 0} where
  pub fresh_some : (o : Option S) → is_fresh o ≡ true → (x : S) × (o ≡ Some x)
  fresh_some None e = let k : false ≡ true = e in cc
  fresh_some (Some x) e = (x, refl)

  -- a place with a fresh summary is another place than one with a stale summary
  pub not_stale : (z : Summaries S) (p q : Place) (x : S) → z.fresh p ≡ None → z.fresh q ≡ Some x → q ≢ p
  not_stale z p q x none some e = none_not x (sym none ∙ (ap z.fresh (sym e) ∙ some))

  pub seen_same : (z w : Summaries S) (o : Option Place) → ((c : Place) → o ≡ Some c → IsSameAt z w c) → seen w o ≡ seen z o
  seen_same z w None k = refl
  seen_same z w (Some c) k = (k c refl).fresh

  pub under_same : (z w : Summaries S) (q : Place) (o : Option Place) → IsUnder z q o → ((c : Place) → o ≡ Some c → IsSameAt z w c) → IsUnder w q o
  under_same z w q None h k = tt
  under_same z w q (Some c) h k = (ap is_fresh (k c refl).fresh ∙ h.0, (k c refl).upper ∙ h.1)

  pub under_upper : (z : Summaries S) (q : Place) (o : Option Place) (c : Place) → IsUnder z q o → o ≡ Some c → z.upper c ≡ Some q
  under_upper z q None c h e = absurd (none_not c e)
  under_upper z q (Some b) c h e = ap z.upper (sym (some_same e)) ∙ h.1

  under_fresh : (z : Summaries S) (q : Place) (o : Option Place) (c : Place) → IsUnder z q o → o ≡ Some c → is_fresh (z.fresh c) ≡ true
  under_fresh z q None c h e = absurd (none_not c e)
  under_fresh z q (Some b) c h e = ap (λ (y : Place). is_fresh (z.fresh y)) (sym (some_same e)) ∙ h.0

  pub joined_at : (z w : Summaries S) (q : Place) (l r : Option Place) (x : S) → IsJoined z q l r x → w.join q ≡ z.join q
      → ((c : Place) → l ≡ Some c → IsSameAt z w c) → ((c : Place) → r ≡ Some c → IsSameAt z w c) → IsJoined w q l r x
  joined_at z w q l r x h ej kl kr = record {
    joined = h.joined ∙ (ap (λ (f : Option S → Option S → S). f (seen z l) (seen z r)) (sym ej)
        ∙ (ap (λ (o : Option S). w.join q o (seen z r)) (sym (seen_same z w l kl)) ∙ ap (λ (o : Option S). w.join q (seen w l) o) (sym (seen_same z w r kr))));
    left_is = under_same z w q l h.left_is kl;
    right_is = under_same z w q r h.right_is kr;
  }

  pub joined_same : (z w : Summaries S) (q : Place) (l r : Option Place) (x : S) → IsJoined z q l r x → w.join ≡ z.join
      → ((c : Place) → l ≡ Some c → IsSameAt z w c) → ((c : Place) → r ≡ Some c → IsSameAt z w c) → IsJoined w q l r x
  joined_same z w q l r x h ej kl kr = joined_at z w q l r x h (ap (λ (f : Place → Option S → Option S → S). f q) ej) kl kr

  -- a tree stays consistent if its members keep their summaries and their stored parents
  pub consistent_kept : (z w : Summaries S) (t : Tree) → w.join ≡ z.join → ((q : Place) → 1 ≤ times q t → IsSameAt z w q) → IsConsistentTree z t → IsConsistentTree w t
  consistent_kept z w leaf ej k h = tt
  consistent_kept z w (fork c a p b) ej k h = (
    (λ x e. joined_same z w p (top a) (top b) x (h.0 x (sym (k p (omega (arith, one_at_self p))).fresh ∙ e)) ej
        (λ y i. k y (omega (arith, times_top y a i))) (λ y i. k y (omega (arith, times_top y b i)))),
    consistent_kept z w a ej (λ q m. k q (omega (arith, m))) h.1,
    consistent_kept z w b ej (λ q m. k q (omega (arith, m))) h.2,
  )

  pub total_same : (z w : Summaries S) (t : Tree) → w.join ≡ z.join → total w t ≡ total z t
  total_same z w leaf ej = refl
  total_same z w (fork c a p b) ej =
      ap Some (ap (λ (o : Option S). w.join p o (total w b)) (total_same z w a ej)
      ∙ (ap (λ (o : Option S). w.join p (total z a) o) (total_same z w b ej) ∙ ap (λ (f : Place → Option S → Option S → S). f p (total z a) (total z b)) ej))

  pub summed_kept : (z w : Summaries S) (up : Option Place) (t : Tree) → w.join ≡ z.join → ((q : Place) → 1 ≤ times q t → IsSameAt z w q) → IsSummed z up t → IsSummed w up t
  summed_kept z w up leaf ej k h = tt
  summed_kept z w up (fork c a p b) ej k h =
      let here = k p (omega (arith, one_at_self p)) in (
        here.fresh ∙ (h.0 ∙ sym (total_same z w (fork c a p b) ej)),
        here.upper ∙ h.1,
        summed_kept z w (Some p) a ej (λ q m. k q (omega (arith, m))) h.2,
        summed_kept z w (Some p) b ej (λ q m. k q (omega (arith, m))) h.3,
      )

  -- the root of a summed tree stores the summary of the whole tree
  pub summed_seen : (z : Summaries S) (up : Option Place) (t : Tree) → IsSummed z up t → seen z (top t) ≡ total z t
  summed_seen z up leaf h = refl
  summed_seen z up (fork c a p b) h = h.0

  join_seen : (z : Summaries S) (p : Place) (up : Option Place) (a b : Tree) → IsSummed z up a → IsSummed z up b → z.join p (seen z (top a)) (seen z (top b)) ≡ z.join p (total z a) (total z b)
  join_seen z p up a b ha hb = ap (λ (o : Option S). z.join p o (seen z (top b))) (summed_seen z up a ha) ∙ ap (λ (o : Option S). z.join p (total z a) o) (summed_seen z up b hb)

  under_here : (z : Summaries S) (p : Place) (t : Tree) → IsSummed z (Some p) t → IsUnder z p (top t)
  under_here z p leaf h = tt
  under_here z p (fork c a q b) h = (ap is_fresh h.0, h.1)

  -- A SUMMED TREE is consistent
  pub summed_consistent_tree : (z : Summaries S) (up : Option Place) (t : Tree) → IsSummed z up t → IsConsistentTree z t
  summed_consistent_tree z up leaf h = tt
  summed_consistent_tree z up (fork c a p b) h = (
    (λ x e. record { joined = some_same (sym e ∙ h.0) ∙ sym (join_seen z p (Some p) a b h.2 h.3); left_is = under_here z p a h.2; right_is = under_here z p b h.3 }),
    summed_consistent_tree z (Some p) a h.2,
    summed_consistent_tree z (Some p) b h.3,
  )

  -- IF THE ROOT of a consistent tree has a fresh summary, each summary in the tree is fresh and right
  pub under_summed : (z : Summaries S) (p : Place) (t : Tree) → IsUnder z p (top t) → IsConsistentTree z t → IsSummed z (Some p) t
  under_summed z p leaf u h = tt
  under_summed z p (fork c a q b) u h =
      let f = fresh_some (z.fresh q) u.0 in
      let j = h.0 f.0 f.1 in
      let left = under_summed z q a j.left_is h.1 in
      let right = under_summed z q b j.right_is h.2 in
      (f.1 ∙ ap Some (j.joined ∙ join_seen z q (Some q) a b left right), u.1, left, right)

  -- a consistent tree is summed, if its root has a fresh summary and stores the parent `up`
  pub fresh_summed : (z : Summaries S) (up : Option Place) (t : Tree) → ((p : Place) → top t ≡ Some p → (is_fresh (z.fresh p) ≡ true) × (z.upper p ≡ up)) → IsConsistentTree z t → IsSummed z up t
  fresh_summed z up leaf f h = tt
  fresh_summed z up (fork c a p b) f h =
      let at = f p refl in
      let s = fresh_some (z.fresh p) at.0 in
      let j = h.0 s.0 s.1 in
      let left = under_summed z p a j.left_is h.1 in
      let right = under_summed z p b j.right_is h.2 in
      (s.1 ∙ ap Some (j.joined ∙ join_seen z p (Some p) a b left right), at.1, left, right)

  pub summed_top : (z : Summaries S) (up : Option Place) (t : Tree) (p : Place) → IsSummed z up t → top t ≡ Some p → (is_fresh (z.fresh p) ≡ true) × (z.upper p ≡ up)
  summed_top z up leaf p h e = absurd (none_not p e)
  summed_top z up (fork c a x b) p h e =
      subst (λ (y : Place). (is_fresh (z.fresh y) ≡ true) × (z.upper y ≡ up)) (some_same e) (ap is_fresh h.0, h.1)

  -- A REFRESH writes the stale summaries of a tree, and these lemmas prove its cases
  same_still : (z : Summaries S) (q : Place) → IsSameAt z z q
  same_still z q = record { fresh = refl; upper = refl }

  pub same_on : (x y z : Summaries S) (q : Place) → IsSameAt x y q → IsSameAt y z q → IsSameAt x z q
  same_on x y z q h k = record { fresh = k.fresh ∙ h.fresh; upper = k.upper ∙ h.upper }

  pub writes_same : (z w : Summaries S) (p : Place) (x : Option S) (up : Option Place) (q : Place) → Writes z w p x up → q ≢ p → IsSameAt z w q
  writes_same z w p x up q h n = record { fresh = h.others q n; upper = h.uppers q n }

  pub invalidated_same : (z w : Summaries S) (p q : Place) → Invalidates z w p → q ≢ p → IsSameAt z w q
  invalidated_same z w p q h n = record { fresh = h.others q n; upper = h.upper q }

  pub refreshes_none : (z : Summaries S) (up o : Option Place) (t : Tree) (fuel : ℕ) → o ≡ None → o ≡ top t → Refreshes IsConsistentTree z z up t fuel
  refreshes_none z up o leaf fuel none e = record { frame = λ q m. same_still z q; join = refl; summed = λ once h low. tt }
  refreshes_none z up o (fork c a p b) fuel none e = absurd (none_not p (sym none ∙ e))

  pub refreshes_spent : (z : Summaries S) (up : Option Place) (p : Place) (t : Tree) (fuel : ℕ) → Some p ≡ top t → fuel ≡ 0 → Refreshes IsConsistentBelow z z up t fuel
  refreshes_spent z up q leaf fuel e none = absurd (none_not q (sym e))
  refreshes_spent z up q (fork c a p b) fuel e none = record { frame = λ q m. same_still z q; join = refl; summed = λ once h low. absurd (omega (arith, low, none)) }

  fresh_at : (z w : Summaries S) (up : Option Place) (p : Place) (c : Color) (a b : Tree) → is_fresh (z.fresh p) ≡ true → Writes z w p (z.fresh p) up
      → ((q : Place) → times q (fork c a p b) ≤ 1) → IsConsistentTree z (fork c a p b) → IsSummed w up (fork c a p b)
  fresh_at z w up p c a b f k once h =
      let s = fresh_some (z.fresh p) f in
      let j = h.0 s.0 s.1 in
      let left = under_summed z p a j.left_is h.1 in
      let right = under_summed z p b j.right_is h.2 in (
        k.fresh ∙ (s.1 ∙ (ap Some (j.joined ∙ join_seen z p (Some p) a b left right) ∙ sym (total_same z w (fork c a p b) k.join))),
        k.upper,
        summed_kept z w (Some p) a k.join (λ q m. writes_same z w p (z.fresh p) up q k (apart_left q p c a b once m)) left,
        summed_kept z w (Some p) b k.join (λ q m. writes_same z w p (z.fresh p) up q k (apart_right q p c a b once m)) right,
      )

  pub refreshes_fresh : (z w : Summaries S) (up : Option Place) (p : Place) (t : Tree) (fuel : ℕ) → Some p ≡ top t → is_fresh (z.fresh p) ≡ true → Writes z w p (z.fresh p) up
      → Refreshes IsConsistentTree z w up t fuel
  refreshes_fresh z w up q leaf fuel e f k = absurd (none_not q (sym e))
  refreshes_fresh z w up q (fork c a p b) fuel e f k =
      let same : p ≡ q = sym (some_same e) in
      let g : is_fresh (z.fresh p) ≡ true = ap (λ (y : Place). is_fresh (z.fresh y)) same ∙ f in
      let l : Writes z w p (z.fresh p) up = subst (λ (y : Place). Writes z w y (z.fresh y) up) (sym same) k in
      record {
        frame = λ x m. writes_same z w p (z.fresh p) up x l (apart x p (omega (arith, m)));
        join = k.join;
        summed = λ once h low. fresh_at z w up p c a b g l once h;
      }

  -- if both subtrees are summed, and then the summary of the root is written, the whole tree is summed
  pub summed_written : (z w : Summaries S) (up : Option Place) (p : Place) (c : Color) (a b : Tree) → IsSummed z (Some p) a → IsSummed z (Some p) b
      → Writes z w p (total z (fork c a p b)) up → ((q : Place) → times q (fork c a p b) ≤ 1) → IsSummed w up (fork c a p b)
  summed_written z w up p c a b ha hb k once = (
    k.fresh ∙ sym (total_same z w (fork c a p b) k.join),
    k.upper,
    summed_kept z w (Some p) a k.join (λ q m. writes_same z w p _ up q k (apart_left q p c a b once m)) ha,
    summed_kept z w (Some p) b k.join (λ q m. writes_same z w p _ up q k (apart_right q p c a b once m)) hb,
  )

  -- if a refresh needs only that the subtrees of the root are consistent, it also works on a tree that is consistent as a whole
  pub refreshes_below : (z w : Summaries S) (up : Option Place) (t : Tree) (fuel : ℕ) → Refreshes IsConsistentBelow z w up t fuel → Refreshes IsConsistentTree z w up t fuel
  refreshes_below z w up leaf fuel r = record { frame = r.frame; join = r.join; summed = λ once h low. r.summed once tt low }
  refreshes_below z w up (fork c a p b) fuel r = record { frame = r.frame; join = r.join; summed = λ once h low. r.summed once (h.1, h.2) low }

  -- a refresh with `fuel` - 1 turns and one turn more is a refresh with `fuel` turns, if `fuel` is at least 1
  pub refreshes_more : (z w : Summaries S) (up : Option Place) (t : Tree) (fuel : ℕ) → 1 ≤ fuel → Refreshes IsConsistentBelow z w up t (suc (fuel - 1)) → Refreshes IsConsistentBelow z w up t fuel
  refreshes_more z w up t fuel more r = record { frame = r.frame; join = r.join; summed = λ once h low. r.summed once h (omega (arith, low, more)) }

  joins_at : (z0 z1 z2 z3 : Summaries S) (up : Option Place) (p : Place) (c : Color) (a b : Tree) (x y : Option S) (fuel : ℕ)
      → Refreshes IsConsistentTree z0 z1 (Some p) a fuel → Refreshes IsConsistentTree z1 z2 (Some p) b fuel → x ≡ seen z1 (top a) → y ≡ seen z2 (top b) → Writes z2 z3 p (Some (z2.join p x y)) up
      → ((q : Place) → times q (fork c a p b) ≤ 1) → IsConsistentBelow z0 (fork c a p b) → height (fork c a p b) ≤ suc fuel → IsSummed z3 up (fork c a p b)
  joins_at z0 z1 z2 z3 up p c a b x y fuel fa fb ex ey k once h low =
      let la : height a ≤ fuel = omega (arith, low, le-max_left (height a) (height b)) in
      let lb : height b ≤ fuel = omega (arith, low, le-max_right (height a) (height b)) in
      let a1 : IsSummed z1 (Some p) a = fa.summed (λ q. omega (arith, once q)) h.0 la in
      let b1 : IsConsistentTree z1 b = consistent_kept z0 z1 b fa.join (λ q m. fa.frame q (omega (arith, m, once q))) h.1 in
      let b2 : IsSummed z2 (Some p) b = fb.summed (λ q. omega (arith, once q)) b1 lb in
      let a2 : IsSummed z2 (Some p) a = summed_kept z1 z2 (Some p) a fb.join (λ q m. fb.frame q (omega (arith, m, once q))) a1 in
      let tx : x ≡ total z2 a = ex ∙ (summed_seen z1 (Some p) a a1 ∙ sym (total_same z1 z2 a fb.join)) in
      let ty : y ≡ total z2 b = ey ∙ summed_seen z2 (Some p) b b2 in
      let joined : z2.join p x y ≡ z2.join p (total z2 a) (total z2 b) = ap (λ (o : Option S). z2.join p o y) tx ∙ ap (λ (o : Option S). z2.join p (total z2 a) o) ty in
      summed_written z2 z3 up p c a b a2 b2 (subst (λ (o : S). Writes z2 z3 p (Some o) up) joined k) once

  -- if q is made stale, and q is p or p has a stale summary already, then p has a stale summary afterwards
  pub stale_on : (z w : Summaries S) (p q : Place) (o : Option Place) → Invalidates z w q → o ≡ Some q → (o ≡ Some p) ⊎ (z.fresh p ≡ None) → w.fresh p ≡ None
  stale_on z w p q o k is h = elim h [
    | inl e ↦ ap w.fresh (some_same (sym e ∙ is)) ∙ k.stale
    | inr none ↦ elim (same_or_not p q) [
      | inl e ↦ ap w.fresh e ∙ k.stale
      | inr other ↦ k.others p other ∙ none
    ]
  ]

  -- if no summary was written before, none is written when one more summary is made stale
  pub marks_next : (old z w : Summaries S) (p : Place) → Invalidates z w p → WritesNoSummary old z → WritesNoSummary old w
  marks_next old z w p k h = record { fresh = still; upper = λ q. k.upper q ∙ h.upper q } where
    still : (q : Place) (x : S) → w.fresh q ≡ Some x → old.fresh q ≡ Some x
    still q x e = h.fresh q x (sym (k.others q (not_stale w p q x k.stale e)) ∙ e)

  pub stale_none : (o : Option S) → is_fresh o ≡ false → o ≡ None
  stale_none None e = refl
  stale_none (Some x) e = let k : true ≡ false = e in cc

  pub stale_ends : (z : Summaries S) (p q : Place) (o : Option Place) → o ≡ Some q → is_fresh (z.fresh q) ≡ false → (o ≡ Some p) ⊎ (z.fresh p ≡ None) → z.fresh p ≡ None
  stale_ends z p q o is f h = elim h [
    | inl e ↦ ap z.fresh (some_same (sym e ∙ is)) ∙ stale_none (z.fresh q) f
    | inr none ↦ none
  ]

  pub stale_none_left : (z : Summaries S) (p : Place) (o : Option Place) → o ≡ None → (o ≡ Some p) ⊎ (z.fresh p ≡ None) → z.fresh p ≡ None
  stale_none_left z p o is h = elim h [
    | inl e ↦ absurd (none_not p (sym is ∙ e))
    | inr none ↦ none
  ]

module _ {E S : Type 0} (n : E → Node) where
  -- if at most the summary of p is wrong, and it is made stale, then at most the summary of the parent that p stores is wrong
  pub invalidated_on : (v : Table E) (z w : Summaries S) (s : List Place) (p : Place) → Invalidates z w p → IsConsistentBut n v z s (Some p) → IsConsistentBut n v w s (w.upper p)
  invalidated_on v z w s p k h q m but x e =
      let other : q ≢ p = not_stale w p q x k.stale e in
      let j = h q m (λ i. other (sym (some_same i))) x (sym (k.others q other) ∙ e) in
      let same : (c : Place) → z.upper c ≡ Some q → IsSameAt z w c = λ c u. record {
        fresh = k.others c (λ (i : c ≡ p). but (k.upper p ∙ (ap z.upper (sym i) ∙ u)));
        upper = k.upper c;
      } in
      joined_same z w q _ _ x j k.join
      (λ c i. same c (under_upper z q _ c j.left_is i)) (λ c i. same c (under_upper z q _ c j.right_is i))

  pub invalidated_up : (v : Table E) (z w : Summaries S) (s : List Place) (p q : Place) → Invalidates z w p → z.upper p ≡ Some q → IsConsistentBut n v z s (Some p) → IsConsistentBut n v w s (Some q)
  invalidated_up v z w s p q k up h = subst (λ (o : Option Place). IsConsistentBut n v w s o) (k.upper p ∙ up) (invalidated_on v z w s p k h)

  -- if a summary is made stale from which no fresh summary was computed, the same summaries may be wrong as before
  pub invalidated_alone : (v : Table E) (z w : Summaries S) (s : List Place) (p : Place) (o : Option Place) → Invalidates z w p → IsBelowStale z p → IsConsistentBut n v z s o → IsConsistentBut n v w s o
  invalidated_alone v z w s p o k below h q m but x e =
      let other : q ≢ p = not_stale w p q x k.stale e in
      let was : z.fresh q ≡ Some x = sym (k.others q other) ∙ e in
      let j = h q m but x was in
      let same : (c : Place) → z.upper c ≡ Some q → IsSameAt z w c = λ c u. record {
        fresh = k.others c (λ (i : c ≡ p). none_not x (sym (below q (ap z.upper (sym i) ∙ u)) ∙ was));
        upper = k.upper c;
      } in
      joined_same z w q _ _ x j k.join
      (λ c i. same c (under_upper z q _ c j.left_is i)) (λ c i. same c (under_upper z q _ c j.right_is i))

  -- if at most the summary of p is wrong, and it is stale, each fresh summary is right. In the next two lemmas no summary is wrong
  pub invalidated_stale : (v : Table E) (z : Summaries S) (s : List Place) (p : Place) (o : Option Place) → o ≡ Some p → is_fresh (z.fresh p) ≡ false → IsConsistentBut n v z s o → IsConsistent n v z s
  invalidated_stale v z s p o is f h q m but x e =
      h q m (λ i. let k : is_fresh (z.fresh p) ≡ true = ap (λ (y : Place). is_fresh (z.fresh y)) (some_same (sym is ∙ i)) ∙ ap is_fresh e in let l : true ≡ false = sym k ∙ f in cc) x e

  pub invalidated_none : (v : Table E) (z : Summaries S) (s : List Place) (o : Option Place) → o ≡ None → IsConsistentBut n v z s o → IsConsistent n v z s
  invalidated_none v z s o is h q m but x e = h q m (λ i. none_not q (sym is ∙ i)) x e

  pub invalidated_starts : (v : Table E) (z : Summaries S) (s : List Place) (o : Option Place) → IsConsistent n v z s → IsConsistentBut n v z s o
  invalidated_starts v z s o h q m but x e = h q m (none_not q) x e

  -- if the place p is the edge, and q is the place p, then q is the edge
  pub edge_there : (v : Table E) (z : Summaries S) (s : List Place) (p q : Place) (o : Option Place) → o ≡ Some p → p ≡ q → IsConsistentBut n v z s o → IsConsistentBut n v z s (Some q)
  edge_there v z s p q o is e h = subst (λ (y : Option Place). IsConsistentBut n v z s y) (is ∙ ap Some e) h

  -- if an entry is written at a place with a stale summary, fresh summaries that were right still are, except maybe at the edge
  pub edge_written : (v w : Table E) (z : Summaries S) (s : List Place) (p : Place) (o : Option Place) → z.fresh p ≡ None → ChangesOnly v w p → IsConsistentBut n v z s o → IsConsistentBut n w z s o
  edge_written v w z s p o none only h q m but x e =
      subst (λ (k : E). IsJoined z q (n k).left (n k).right x) (sym (only.others q (not_stale z p q x none e))) (h q m but x e)

  -- an entry is written at a place with a stale summary or at the edge (`edge_rewritten`), or its children stay the same (`edge_beside`). Then fresh summaries
  -- that were right still are, except maybe at the edge
  pub edge_rewritten : (v w : Table E) (z : Summaries S) (s : List Place) (p : Place) (o : Option Place) → (z.fresh p ≡ None) ⊎ (o ≡ Some p) → ChangesOnly v w p → IsConsistentBut n v z s o → IsConsistentBut n w z s o
  edge_rewritten v w z s p o k only h q m but x e =
      let other : q ≢ p = elim k [
        | inl none ↦ not_stale z p q x none e
        | inr is ↦ λ (i : q ≡ p). but (is ∙ ap Some (sym i))
      ] in
      subst (λ (k : E). IsJoined z q (n k).left (n k).right x) (sym (only.others q other)) (h q m but x e)

  pub edge_beside : (v w : Table E) (z : Summaries S) (s : List Place) (p : Place) (o : Option Place) → (n (w.entry p)).left ≡ (n (v.entry p)).left → (n (w.entry p)).right ≡ (n (v.entry p)).right
      → ChangesOnly v w p → IsConsistentBut n v z s o → IsConsistentBut n w z s o
  edge_beside v w z s p o el er only h q m but x e = elim (same_or_not q p) [
    | inl i ↦
        let l : (n (w.entry q)).left ≡ (n (v.entry q)).left = subst (λ (y : Place). (n (w.entry y)).left ≡ (n (v.entry y)).left) (sym i) el in
        let r : (n (w.entry q)).right ≡ (n (v.entry q)).right = subst (λ (y : Place). (n (w.entry y)).right ≡ (n (v.entry y)).right) (sym i) er in
        subst (λ (y : Option Place). IsJoined z q y (n (w.entry q)).right x) (sym l) (subst (λ (y : Option Place). IsJoined z q (n (v.entry q)).left y x) (sym r) (h q m but x e))
    | inr other ↦ subst (λ (k : E). IsJoined z q (n k).left (n k).right x) (sym (only.others q other)) (h q m but x e)
  ]

  -- if an entry is written at a place with a stale summary (`written_stale`), or its children stay the same (`written_beside`), each fresh summary that was
  -- right still is
  pub written_stale : (v w : Table E) (z : Summaries S) (s : List Place) (p : Place) → z.fresh p ≡ None → ChangesOnly v w p → IsConsistent n v z s → IsConsistent n w z s
  written_stale v w z s p none only h = edge_written v w z s p None none only h

  pub written_beside : (v w : Table E) (z : Summaries S) (s : List Place) (p : Place) → (n (w.entry p)).left ≡ (n (v.entry p)).left → (n (w.entry p)).right ≡ (n (v.entry p)).right
      → ChangesOnly v w p → IsConsistent n v z s → IsConsistent n w z s
  written_beside v w z s p el er only h = edge_beside v w z s p None el er only h

  -- if each fresh summary of a sequence is right, each tree in the table whose members are in the sequence is consistent
  pub consistent_tree : (v : Table E) (z : Summaries S) (s : List Place) (up : Option Place) (t : Tree) → IsConsistent n v z s → IsTree n v.entry up t → ((q : Place) → times q t ≤ times_in q s) → IsConsistentTree z t
  consistent_tree v z s up leaf h t m = tt
  consistent_tree v z s up (fork c a p b) h t m = (
    (λ x e. subst (λ (y : Option Place). IsJoined z p y (top b) x) t.0.left (subst (λ (y : Option Place). IsJoined z p (n (v.entry p)).left y x) t.0.right
        (h p (omega (arith, m p, one_at_self p)) (none_not p) x e))),
    consistent_tree v z s (Some p) a h t.1 (λ q. omega (arith, m q)),
    consistent_tree v z s (Some p) b h t.2 (λ q. omega (arith, m q)),
  )

  -- if a tree in the table is consistent, each fresh summary of its members is right for the children that the table stores
  pub tree_consistent : (v : Table E) (z : Summaries S) (up : Option Place) (t : Tree) → IsConsistentTree z t → IsTree n v.entry up t → (q : Place) → 1 ≤ times q t → (x : S) → z.fresh q ≡ Some x
      → IsJoined z q (n (v.entry q)).left (n (v.entry q)).right x
  tree_consistent v z up leaf h t q m x e = absurd (omega (arith, m))
  tree_consistent v z up (fork c a p b) h t q m x e = elim (same_or_not q p) [
    | inl i ↦
        let j : IsJoined z p (top a) (top b) x = h.0 x (sym (ap z.fresh i) ∙ e) in
        let k : IsJoined z p (n (v.entry p)).left (n (v.entry p)).right x =
        subst (λ (y : Option Place). IsJoined z p y (n (v.entry p)).right x) (sym t.0.left) (subst (λ (y : Option Place). IsJoined z p (top a) y x) (sym t.0.right) j) in
        subst (λ (y : Place). IsJoined z y (n (v.entry y)).left (n (v.entry y)).right x) (sym i) k
    | inr other ↦ elim (where_is (times q a) (times q b) (omega (arith, m, one_at_other q p other))) [
      | inl l ↦ tree_consistent v z (Some p) a h.1 t.1 q l x e
      | inr r ↦ tree_consistent v z (Some p) b h.2 t.2 q r x e
    ]
  ]

  -- if both subtrees are refreshed, and then the summary of the root is written, the whole tree is refreshed
  joined_here : (v : Table E) (z0 z1 z2 z3 : Summaries S) (up u : Option Place) (p : Place) (c : Color) (a b : Tree) (l r : Option Place) (x y : Option S) (fuel : ℕ)
      → IsTree n v.entry u (fork c a p b) → l ≡ top a → r ≡ top b
      → Refreshes IsConsistentTree z0 z1 (Some p) a fuel → Refreshes IsConsistentTree z1 z2 (Some p) b fuel
      → x ≡ seen z1 l → y ≡ seen z2 r → Writes z2 z3 p (Some (z2.join p x y)) up → Refreshes IsConsistentBelow z0 z3 up (fork c a p b) (suc fuel)
  joined_here v z0 z1 z2 z3 up u p c a b l r x y fuel tree el er fa fb ex ey k = record {
    frame = λ q m. same_on z0 z2 z3 q (same_on z0 z1 z2 q (fa.frame q (omega (arith, m))) (fb.frame q (omega (arith, m)))) (writes_same z2 z3 p _ up q k (apart q p (omega (arith, m))));
    join = k.join ∙ (fb.join ∙ fa.join);
    summed = λ once h low. joins_at z0 z1 z2 z3 up p c a b x y fuel fa fb (ex ∙ ap (seen z1) el) (ey ∙ ap (seen z2) er) k once h low;
  }

  pub refreshes_joined : (v : Table E) (z0 z1 z2 z3 : Summaries S) (up u : Option Place) (p : Place) (t : Tree) (l r : Option Place) (x y : Option S) (fuel : ℕ)
      → IsTree n v.entry u t → Some p ≡ top t → l ≡ (n (v.entry p)).left → r ≡ (n (v.entry p)).right
      → ((o : Option Place) (w : Tree) → IsTree n v.entry o w → l ≡ top w → Refreshes IsConsistentTree z0 z1 (Some p) w fuel)
      → ((o : Option Place) (w : Tree) → IsTree n v.entry o w → r ≡ top w → Refreshes IsConsistentTree z1 z2 (Some p) w fuel)
      → x ≡ seen z1 l → y ≡ seen z2 r → Writes z2 z3 p (Some (z2.join p x y)) up → Refreshes IsConsistentBelow z0 z3 up t (suc fuel)
  refreshes_joined v z0 z1 z2 z3 up u p leaf l r x y fuel tree e el er fa fb ex ey k = absurd (none_not p (sym e))
  refreshes_joined v z0 z1 z2 z3 up u p (fork c a q b) l r x y fuel tree e el er fa fb ex ey k =
      let same : p ≡ q = some_same e in
      let here : IsTree n v.entry u (fork c a p b) = subst (λ (w : Place). IsTree n v.entry u (fork c a w b)) (sym same) tree in
      let la : l ≡ top a = el ∙ here.0.left in
      let rb : r ≡ top b = er ∙ here.0.right in
      subst (λ (w : Place). Refreshes IsConsistentBelow z0 z3 up (fork c a w b) (suc fuel)) same
      (joined_here v z0 z1 z2 z3 up u p c a b l r x y fuel here la rb (fa (Some p) a here.1 la) (fb (Some p) b here.2 rb) ex ey k)

module _ {E : Type 0} (n : E → Node) where
  -- the right child of a tree's root is the root of a tree, or there is no right child
  pub tree_right : (v : Table E) (u : Option Place) (p : Place) (t : Tree) (r : Option Place) → IsTree n v.entry u t → Some p ≡ top t → r ≡ (n (v.entry p)).right
      → (x : Option Place) × (y : Tree) × IsTree n v.entry x y × (r ≡ top y)
  tree_right v u p leaf r tree e er = absurd (none_not p (sym e))
  tree_right v u p (fork c a q b) r tree e er =
      (Some q, b, tree.2, er ∙ (ap (λ (y : Place). (n (v.entry y)).right) (some_same e) ∙ tree.0.right))
