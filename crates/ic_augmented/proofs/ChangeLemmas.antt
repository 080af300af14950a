-- If a summary has changed, the change is passed on to the summaries above it. The edge is the place whose summary may be wrong during an edit.
use Rattle.std.proofs.Common.{◌≡◌, ◌≢◌, ◌≤◌, ◌+◌, true, false, Option, Some, None, List, [], ◌∷◌, ◌++◌, refl, sym, ap, ◌∙◌, subst, arith, inl, inr}
use Rattle.ic_link_ops.specs.Prelude.{Place, IsAbsent, IsDisjoint, IsMember, Table, one_at, times, times_in, times_around, Tree, leaf, fork, top, in_order}
use Rattle.ic_link_ops.specs.declared.color.Color.{Color}
use Rattle.ic_link_ops.specs.declared.side.Side.{Side}
use Rattle.ic_link_ops.specs.declared.side.Side.TheVariants.{Left, Right}
use Rattle.ic_link_ops.specs.Frames.{Frame, frame, plug, put_in, above, IsAround}
use Rattle.ic_link_ops.specs.RedBlackTree.{Node, IsTree, Represents}
use Rattle.ic_link_ops.proofs.Prelude.{none_not, some_same, holds_out, one_at_self, apart, times_plug, times_order, absent_times}
use Rattle.ic_augmented.specs.Summaries.{Summaries, is_fresh, seen, IsSummed, Writes}
use Rattle.ic_augmented.specs.Consistent.{IsUnder, IsJoined, IsSameAt, IsConsistentTree, IsConsistentBelow, IsConsistentBut, IsConsistent, Refreshes}
use Rattle.ic_augmented.specs.Changes.{IsAmong, Rejoins, seen_upper, join_on, IsJoinedOn, IsConsistentAbove, IsEdgeAbove, IsEdgeAt, RecomputesAt, PassesOn, ClimbsTo}
use Rattle.ic_augmented.specs.Subtrees.{IsSubtree}
use Rattle.ic_augmented.proofs.ConsistencyLemmas.{times_top, apart_left, apart_right, seen_same, under_same, joined_same, consistent_kept, same_on, tree_consistent, writes_same, summed_consistent_tree}
use Rattle.ic_augmented.proofs.EditLemmas.{others_consistent}
use Rattle.ic_augmented.proofs.PathLemmas.{OthersStay}
use Rattle.ic_augmented.proofs.SubtreeLemmas.{lower, member_at, member_subtree, subtree_left, subtree_right, subtree_parent}

top_put : (d : Side) (c : Color) (p : Place) (b t : Tree) → top (put_in (frame d c p b) t) ≡ Some p
top_put Left c p b t = refl
top_put Right c p b t = refl

among_times : (p : Place) (fs : List Frame) → IsAmong p fs → 1 ≤ times_around p fs
among_times p [] h = absurd h
among_times p (frame d c q b ∷ fs) h = elim h [
  | inl i ↦ let k : one_at p q ≡ 1 = rw i (one_at_self p) in omega (arith, k)
  | inr r ↦ omega (arith, among_times p fs r)
]

-- if s and t share no member, a member of t is no member of s
pub member_out : (q : Place) (s t : List Place) → IsDisjoint s t → 1 ≤ times_in q t → IsAbsent q s
member_out q [] t apart m = tt
member_out q (x ∷ s) t apart m = (
  (λ e. let none : times_in q t ≡ 0 = subst (λ (y : Place). times_in y t ≡ 0) (sym e) (absent_times x t apart.0) in absurd (omega (arith, none, m))),
  member_out q s t apart.1 m,
)

module _ {S : Type 0} where
  under_of : (z : Summaries S) (p : Place) (o : Option Place) → is_fresh (seen z o) ≡ true → seen_upper z o ≡ Some p → IsUnder z p o
  under_of z p None f u = tt
  under_of z p (Some c) f u = (f, u)

  -- a summary that was computed from a child on the path is still right, if nothing stored in the tree beside the path has changed
  joined_on_same : (z w : Summaries S) (d : Side) (p : Place) (x : Option S) (up : Option Place) (b : Tree) (y : S) → w.join ≡ z.join → ((q : Place) → 1 ≤ times q b → IsSameAt z w q)
      → IsJoinedOn z d p x up (top b) y → IsJoinedOn w d p x up (top b) y
  joined_on_same z w d p x up b y ej k j = record {
    fresh = j.fresh;
    under = j.under;
    joined = j.joined ∙ (ap (λ (f : Place → Option S → Option S → S). join_on d (f p) x (seen z (top b))) (sym ej)
        ∙ ap (λ (o : Option S). join_on d (w.join p) x o) (sym (seen_same z w (top b) (λ c i. k c (times_top c b i)))));
    other_is = under_same z w p (top b) j.other_is (λ c i. k c (times_top c b i));
  }

  as_kept : (z w : Summaries S) (p : Place) (fs : List Frame) → IsSameAt z w p → IsConsistentAbove w (z.fresh p) (z.upper p) fs → IsConsistentAbove w (w.fresh p) (w.upper p) fs
  as_kept z w p fs here h =
      subst (λ (o : Option S). IsConsistentAbove w o (w.upper p) fs) (sym here.fresh) (subst (λ (u : Option Place). IsConsistentAbove w (z.fresh p) u fs) (sym here.upper) h)

  pub above_kept : (z w : Summaries S) (x : Option S) (up : Option Place) (fs : List Frame) → w.join ≡ z.join → ((q : Place) → 1 ≤ times_around q fs → IsSameAt z w q)
      → IsConsistentAbove z x up fs → IsConsistentAbove w x up fs
  above_kept z w x up [] ej k h = tt
  above_kept z w x up (frame d c p b ∷ fs) ej k h =
      let here = k p (omega (arith, one_at_self p)) in (
        (λ y e. joined_on_same z w d p x up b y ej (λ q m. k q (omega (arith, m))) (h.0 y (sym here.fresh ∙ e))),
        consistent_kept z w b ej (λ q m. k q (omega (arith, m))) h.1,
        as_kept z w p fs here (above_kept z w (z.fresh p) (z.upper p) fs ej (λ q m. k q (omega (arith, m))) h.2),
      )

  edge_above_kept : (z w : Summaries S) (edge : Place) (fs : List Frame) → w.join ≡ z.join → ((q : Place) → 1 ≤ times_around q fs → IsSameAt z w q) → IsEdgeAbove z edge fs → IsEdgeAbove w edge fs
  edge_above_kept z w edge [] ej k h = absurd h
  edge_above_kept z w edge (frame d c p b ∷ fs) ej k h = (
    consistent_kept z w b ej (λ q m. k q (omega (arith, m))) h.0,
    elim h.1 [
      | inl x ↦ inl (x.0, as_kept z w p fs (k p (omega (arith, one_at_self p))) (above_kept z w (z.fresh p) (z.upper p) fs ej (λ q m. k q (omega (arith, m))) x.1))
      | inr x ↦ inr (edge_above_kept z w edge fs ej (λ q m. k q (omega (arith, m))) x)
    ],
  )

  edge_among : (z : Summaries S) (edge : Place) (fs : List Frame) → IsEdgeAbove z edge fs → IsAmong edge fs
  edge_among z edge [] h = absurd h
  edge_among z edge (frame d c p b ∷ fs) h = elim h.1 [
    | inl x ↦ inl x.0
    | inr x ↦ inr (edge_among z edge fs x)
  ]

  -- the whole tree is consistent, if the fresh summaries above the subtree are right for the summary that the subtree's root has
  pub closes : (z : Summaries S) (x : Option S) (up : Option Place) (fs : List Frame) (t : Tree) → (is_fresh x ≡ true → seen z (top t) ≡ x) → (is_fresh x ≡ true → seen_upper z (top t) ≡ up)
      → IsConsistentTree z t → IsConsistentAbove z x up fs → IsConsistentTree z (plug fs t)
  closes z x up [] t s u h a = h
  closes z x up (frame Left c p b ∷ fs) t s u h a = closes z (z.fresh p) (z.upper p) fs (fork c t p b) (λ f. refl) (λ f. refl) (
    (λ y e. let j = a.0 y e in record {
      joined = j.joined ∙ ap (λ (o : Option S). z.join p o (seen z (top b))) (sym (s j.fresh));
      left_is = under_of z p (top t) (ap is_fresh (s j.fresh) ∙ j.fresh) (u j.fresh ∙ j.under);
      right_is = j.other_is;
    }),
    h,
    a.1,
  ) a.2
  closes z x up (frame Right c p b ∷ fs) t s u h a = closes z (z.fresh p) (z.upper p) fs (fork c b p t) (λ f. refl) (λ f. refl) (
    (λ y e. let j = a.0 y e in record {
      joined = j.joined ∙ ap (λ (o : Option S). z.join p (seen z (top b)) o) (sym (s j.fresh));
      left_is = j.other_is;
      right_is = under_of z p (top t) (ap is_fresh (s j.fresh) ∙ j.fresh) (u j.fresh ∙ j.under);
    }),
    a.1,
    h,
  ) a.2

  -- if the fresh summaries above a subtree are right for the stored parent `up`, they are right for the present parent `above fs`
  under_now : (z : Summaries S) (x : Option S) (up : Option Place) (fs : List Frame) → IsConsistentAbove z x up fs → IsConsistentAbove z x (above fs) fs
  under_now z x up [] h = tt
  under_now z x up (frame d c p b ∷ fs) h = (
    (λ y e. let j = h.0 y e in record { fresh = j.fresh; under = refl; joined = j.joined; other_is = j.other_is }),
    h.1,
    h.2,
  )

  -- if a summary is recomputed from the changed summary of a child, the fresh summaries of the subtree are right afterwards
  pub rejoined : (z w : Summaries S) (d : Side) (c : Color) (p : Place) (b t : Tree) (from to was is : S) (up parent : Option Place)
      → ((q : Place) → times q (put_in (frame d c p b) t) ≤ 1) → IsConsistentTree z t → IsConsistentTree z b → seen z (top t) ≡ Some to → seen_upper z (top t) ≡ Some p
      → IsJoinedOn z d p (Some from) up (top b) was → Rejoins (z.join p) from to was is → Writes z w p (Some is) parent → IsConsistentTree w (put_in (frame d c p b) t)
  rejoined z w Left c p b t from to was is up parent once ht hb s u j r k = (
    (λ y e. joined_same z w p (top t) (top b) y (record {
      joined = some_same (sym e ∙ k.fresh) ∙ (r.left (seen z (top b)) j.joined ∙ ap (λ (o : Option S). z.join p o (seen z (top b))) (sym s));
      left_is = under_of z p (top t) (ap is_fresh s) u;
      right_is = j.other_is;
    }) k.join (λ q i. writes_same z w p _ parent q k (apart_left q p c t b once (times_top q t i))) (λ q i. writes_same z w p _ parent q k (apart_right q p c t b once (times_top q b i)))),
    consistent_kept z w t k.join (λ q m. writes_same z w p _ parent q k (apart_left q p c t b once m)) ht,
    consistent_kept z w b k.join (λ q m. writes_same z w p _ parent q k (apart_right q p c t b once m)) hb,
  )
  rejoined z w Right c p b t from to was is up parent once ht hb s u j r k = (
    (λ y e. joined_same z w p (top b) (top t) y (record {
      joined = some_same (sym e ∙ k.fresh) ∙ (r.right (seen z (top b)) j.joined ∙ ap (λ (o : Option S). z.join p (seen z (top b)) o) (sym s));
      left_is = j.other_is;
      right_is = under_of z p (top t) (ap is_fresh s) u;
    }) k.join (λ q i. writes_same z w p _ parent q k (apart_left q p c b t once (times_top q b i))) (λ q i. writes_same z w p _ parent q k (apart_right q p c b t once (times_top q t i)))),
    consistent_kept z w b k.join (λ q m. writes_same z w p _ parent q k (apart_left q p c b t once m)) hb,
    consistent_kept z w t k.join (λ q m. writes_same z w p _ parent q k (apart_right q p c b t once m)) ht,
  )

  -- if the summary of a place is stale, the subtree at the place is consistent, because both subtrees below the place are
  stale_put : (z : Summaries S) (d : Side) (c : Color) (p : Place) (b t : Tree) → z.fresh p ≡ None → IsConsistentTree z t → IsConsistentTree z b → IsConsistentTree z (put_in (frame d c p b) t)
  stale_put z Left c p b t none ht hb = ((λ y e. absurd (none_not y (sym none ∙ e))), ht, hb)
  stale_put z Right c p b t none ht hb = ((λ y e. absurd (none_not y (sym none ∙ e))), hb, ht)

  below_put : (z : Summaries S) (d : Side) (c : Color) (p : Place) (b t : Tree) → IsConsistentTree z t → IsConsistentTree z b → IsConsistentBelow z (put_in (frame d c p b) t)
  below_put z Left c p b t ht hb = (ht, hb)
  below_put z Right c p b t ht hb = (hb, ht)

  summed_upper : (z : Summaries S) (up : Option Place) (p : Place) (t : Tree) → top t ≡ Some p → IsSummed z up t → z.upper p ≡ up
  summed_upper z up p leaf e h = absurd (none_not p e)
  summed_upper z up p (fork c a q b) e h = ap z.upper (sym (some_same e)) ∙ h.1

module _ {E : Type 0} (n : E → Node) (v : Table E) where
  subtree_put : (d : Side) (c : Color) (p : Place) (b : Tree) (fs : List Frame) (t : Tree) → IsSubtree n v (frame d c p b ∷ fs) t → IsSubtree n v fs (put_in (frame d c p b) t)
  subtree_put Left c p b fs t h = subtree_left n v c p b fs t h
  subtree_put Right c p b fs t h = subtree_right n v c p b fs t h

  once_below : (fs : List Frame) (t : Tree) → IsSubtree n v fs t → (q : Place) → times q t ≤ 1
  once_below fs t h q = omega (arith, h.once q, times_plug q fs t)

module _ {E S : Type 0} (n : E → Node) (v : Table E) where
  -- the summary of the place p is recomputed, if the summary is written that was computed from the change of one child
  pub rejoined_at : (z y : Summaries S) (p : Place) (from to was is : S) (parent : Option Place) → z.fresh p ≡ Some was → Writes z y p (Some is) parent → Rejoins (z.join p) from to was is → RecomputesAt n v z y p from to parent
  rejoined_at z y p from to was is parent e k r d c b fs t up h ht s u a =
      (rejoined z y d c p b t from to was is up parent (once_below n v fs (put_in (frame d c p b) t) (subtree_put n v d c p b fs t h)) ht a.1 s u (a.0 was e) r k, k.upper)

  -- the summary of a place is recomputed if all stale summaries below the place are written, and then its own summary
  pub recomputed_at : (z y : Summaries S) (p : Place) (from to : S) (upper : Option Place) → ((u : Option Place) (t : Tree) → IsTree n v.entry u t → Some p ≡ top t → Refreshes IsConsistentBelow z y upper t 67) → RecomputesAt n v z y p from to upper
  recomputed_at z y p from to upper here d c b fs t up h ht s u a =
      let w : Tree = put_in (frame d c p b) t in
      let i = subtree_put n v d c p b fs t h in
      let r = here (above fs) w i.tree (sym (top_put d c p b t)) in
      let summed = r.summed (once_below n v fs w i) (below_put z d c p b t ht a.1) (omega (arith, i.low, lower fs w)) in
      (summed_consistent_tree y upper w summed, summed_upper y upper p w (top_put d c p b t) summed)

  -- if neither the step at p nor the steps above p change anything outside the tree, nothing outside the tree changes
  pub others_up : (z y w : Summaries S) (p next : Place) → ((fs : List Frame) (t : Tree) → IsSubtree n v fs t → top t ≡ Some p → (q : Place) → times q t ≡ 0 → IsSameAt z y q)
      → (n (v.entry p)).parent ≡ Some next → OthersStay n v y w next → OthersStay n v z w p
  others_up z y w p next kept is on [] t h e q out = absurd (none_not next (sym (subtree_parent n v [] t p h e) ∙ is))
  others_up z y w p next kept is on (frame d c a b ∷ fs) t h e q out =
      same_on z y w q (kept (frame d c a b ∷ fs) t h e q (omega (arith, out, times_plug q (frame d c a b ∷ fs) t)))
      (on fs (put_in (frame d c a b) t) (subtree_put n v d c a b fs t h) (top_put d c a b t ∙ (sym (subtree_parent n v (frame d c a b ∷ fs) t p h e) ∙ is)) q out)

  -- the summary of the place p was recomputed, and the change is passed on from p to the summaries above
  module _ (z y : Summaries S) (p : Place) (from to was is : S) (parent : Option Place)
      (parent_is : (n (v.entry p)).parent ≡ parent) (ej : y.join ≡ z.join) (at : RecomputesAt n v z y p from to parent) (was_at : z.fresh p ≡ Some was) (is_there : y.fresh p ≡ Some is)
      (kept : (fs : List Frame) (t : Tree) → IsSubtree n v fs t → top t ≡ Some p → (q : Place) → times q t ≡ 0 → IsSameAt z y q) where
    above_now : (d : Side) (c : Color) (b : Tree) (fs : List Frame) (t : Tree) (up : Option Place) → IsSubtree n v (frame d c p b ∷ fs) t → IsConsistentAbove z (Some from) up (frame d c p b ∷ fs)
        → IsConsistentAbove y (Some was) (above fs) fs
    above_now d c b fs t up h a =
        let i = subtree_put n v d c p b fs t h in
        let w : Tree = put_in (frame d c p b) t in
        under_now y (Some was) (z.upper p) fs (subst (λ (o : Option S). IsConsistentAbove y o (z.upper p) fs) was_at
        (above_kept z y (z.fresh p) (z.upper p) fs ej (λ q m. kept fs w i (top_put d c p b t) q (omega (arith, m, i.once q, times_plug q fs w))) a.2))

    seen_now : (d : Side) (c : Color) (b t : Tree) → seen y (top (put_in (frame d c p b) t)) ≡ Some is
    seen_now d c b t = ap (seen y) (top_put d c p b t) ∙ is_there

    upper_now : (d : Side) (c : Color) (b : Tree) (fs : List Frame) (t : Tree) → IsSubtree n v (frame d c p b ∷ fs) t → y.upper p ≡ parent → seen_upper y (top (put_in (frame d c p b) t)) ≡ above fs
    upper_now d c b fs t h upper_at =
        ap (seen_upper y) (top_put d c p b t) ∙ (upper_at ∙ (sym parent_is ∙ subtree_parent n v fs (put_in (frame d c p b) t) p (subtree_put n v d c p b fs t h) (top_put d c p b t)))

    -- if the recomputed summary is equal to the old one, no summary above must be recomputed
    pub passed_same : was ≡ is → PassesOn n v z y p from to
    passed_same same d c b fs t up h ht s u a =
        closes y (Some was) (above fs) fs (put_in (frame d c p b) t) (λ f. seen_now d c b t ∙ ap Some (sym same)) (λ f. upper_now d c b fs t h (at d c b fs t up h ht s u a).1) (at d c b fs t up h ht s u a).0 (above_now d c b fs t up h a)

    -- if the recomputed place is the root, there is no summary above it
    pub passed_ends : parent ≡ None → PassesOn n v z y p from to
    passed_ends none d c b [] t up h ht s u a = (at d c b [] t up h ht s u a).0
    passed_ends none d c b (frame e g q m ∷ fs) t up h ht s u a =
        absurd (none_not q (sym none ∙ (sym parent_is ∙ subtree_parent n v (frame e g q m ∷ fs) (put_in (frame d c p b) t) p (subtree_put n v d c p b (frame e g q m ∷ fs) t h) (top_put d c p b t))))

    -- if the recomputed place has a parent, the change is passed on to the summary of this parent
    pub passed_on : (w : Summaries S) (next : Place) → parent ≡ Some next → PassesOn n v y w next was is → PassesOn n v z w p from to
    passed_on w next on passes d c b [] t up h ht s u a =
        absurd (none_not next (sym (subtree_parent n v [] (put_in (frame d c p b) t) p (subtree_put n v d c p b [] t h) (top_put d c p b t)) ∙ (parent_is ∙ on)))
    passed_on w next on passes d c b (frame e g q m ∷ fs) t up h ht s u a =
        let i = subtree_put n v d c p b (frame e g q m ∷ fs) t h in
        let x : Tree = put_in (frame d c p b) t in
        let same : q ≡ next = some_same (sym (subtree_parent n v (frame e g q m ∷ fs) x p i (top_put d c p b t)) ∙ (parent_is ∙ on)) in
        let passes_q : PassesOn n v y w q was is = subst (λ (r : Place). PassesOn n v y w r was is) (sym same) passes in
        let done = at d c b (frame e g q m ∷ fs) t up h ht s u a in
        passes_q e g m fs x (Some q) i done.0 (seen_now d c b t) (upper_now d c b (frame e g q m ∷ fs) t h done.1)
        (above_now d c b (frame e g q m ∷ fs) t up h a)

  -- if the summary of the place p is stale, the change is not passed on
  pub passed_stale : (z : Summaries S) (p : Place) (from to : S) → z.fresh p ≡ None → PassesOn n v z z p from to
  passed_stale z p from to none d c b fs t up h ht s u a =
      closes z (z.fresh p) (z.upper p) fs (put_in (frame d c p b) t) (λ f. ap (seen z) (top_put d c p b t)) (λ f. ap (seen_upper z) (top_put d c p b t)) (stale_put z d c p b t none ht a.1) a.2

  -- the summary of the place p was recomputed, and the climb goes on from p
  module _ (z y : Summaries S) (p edge : Place) (is : S) (parent : Option Place) (parent_is : (n (v.entry p)).parent ≡ parent) (is_there : Some is ≡ y.fresh p)
      (here : (u : Option Place) (t : Tree) → IsTree n v.entry u t → Some p ≡ top t → Refreshes IsConsistentBelow z y parent t 67) where
    climbed_tree : (fs : List Frame) (t : Tree) → IsSubtree n v fs t → top t ≡ Some p → IsConsistentBelow z t → IsSummed y parent t
    climbed_tree fs t h e below = (here (above fs) t h.tree (sym e)).summed (once_below n v fs t h) below (omega (arith, h.low, lower fs t))

    parent_above : (fs : List Frame) (t : Tree) → IsSubtree n v fs t → top t ≡ Some p → parent ≡ above fs
    parent_above fs t h e = sym parent_is ∙ subtree_parent n v fs t p h e

    around : (fs : List Frame) (t : Tree) → IsSubtree n v fs t → top t ≡ Some p → (q : Place) → 1 ≤ times_around q fs → IsSameAt z y q
    around fs t h e q m = (here (above fs) t h.tree (sym e)).frame q (omega (arith, m, h.once q, times_plug q fs t))

    join_here : (fs : List Frame) (t : Tree) → IsSubtree n v fs t → top t ≡ Some p → y.join ≡ z.join
    join_here fs t h e = (here (above fs) t h.tree (sym e)).join

    -- if the place is the edge, the edge is not above it, so all fresh summaries above the place are right
    at_edge : (fs : List Frame) (t : Tree) → p ≡ edge → IsSubtree n v fs t → top t ≡ Some p → IsEdgeAt z edge p fs → IsConsistentAbove z (z.fresh p) (z.upper p) fs
    at_edge fs t i h e (inl x) = x.1
    at_edge fs t i h e (inr x) =
        let m : 1 ≤ times_around p fs = subst (λ (q : Place). 1 ≤ times_around q fs) (sym i) (among_times edge fs (edge_among z edge fs x)) in
        absurd (omega (arith, m, h.once p, times_plug p fs t, times_top p t e))

    above_there : (fs : List Frame) (t : Tree) → IsSubtree n v fs t → top t ≡ Some p → IsConsistentAbove z (z.fresh p) (z.upper p) fs → IsConsistentAbove y (z.fresh p) (z.upper p) fs
    above_there fs t h e a = above_kept z y (z.fresh p) (z.upper p) fs (join_here fs t h e) (around fs t h e) a

    pub climbed_ends : parent ≡ None → ClimbsTo n v z y p edge
    climbed_ends none [] t h e below at = summed_consistent_tree y parent t (climbed_tree [] t h e below)
    climbed_ends none (frame d c q b ∷ fs) t h e below at = absurd (none_not q (sym none ∙ parent_above (frame d c q b ∷ fs) t h e))

    -- if the climb has not reached the edge yet, it goes on at the parent
    pub climbed_on : (w : Summaries S) (next : Place) → parent ≡ Some next → p ≢ edge → ClimbsTo n v y w next edge → ClimbsTo n v z w p edge
    climbed_on w next on other climbs [] t h e below at = absurd (none_not next (sym (parent_above [] t h e) ∙ on))
    climbed_on w next on other climbs (frame d c q b ∷ fs) t h e below (inl x) = absurd (other x.0)
    climbed_on w next on other climbs (frame d c q b ∷ fs) t h e below (inr x) =
        let same : q ≡ next = some_same (sym (parent_above (frame d c q b ∷ fs) t h e) ∙ on) in
        let climbs_q : ClimbsTo n v y w q edge = subst (λ (r : Place). ClimbsTo n v y w r edge) (sym same) climbs in
        let k = edge_above_kept z y edge (frame d c q b ∷ fs) (join_here (frame d c q b ∷ fs) t h e) (around (frame d c q b ∷ fs) t h e) x in
        climbs_q fs (put_in (frame d c q b) t) (subtree_put n v d c q b fs t h) (top_put d c q b t)
        (below_put y d c q b t (summed_consistent_tree y parent t (climbed_tree (frame d c q b ∷ fs) t h e below)) k.0) k.1

    -- if the climb has reached the edge, whose summary was stale, it ends
    pub climbed_stale : p ≡ edge → z.fresh p ≡ None → ClimbsTo n v z y p edge
    climbed_stale i none fs t h e below at =
        closes y None (z.upper p) fs t (λ f. let k : false ≡ true = f in cc) (λ f. let k : false ≡ true = f in cc) (summed_consistent_tree y parent t (climbed_tree fs t h e below))
        (subst (λ (o : Option S). IsConsistentAbove y o (z.upper p) fs) none (above_there fs t h e (at_edge fs t i h e at)))

    -- if the climb has reached the edge, whose summary has not changed, it ends
    pub climbed_same : (was : S) → p ≡ edge → z.fresh p ≡ Some was → was ≡ is → ClimbsTo n v z y p edge
    climbed_same was i fresh same fs t h e below at =
        let tree = climbed_tree fs t h e below in
        closes y (Some was) (above fs) fs t (λ f. ap (seen y) e ∙ (sym is_there ∙ ap Some (sym same)))
        (λ f. ap (seen_upper y) e ∙ (summed_upper y parent p t e tree ∙ parent_above fs t h e)) (summed_consistent_tree y parent t tree)
        (under_now y (Some was) (z.upper p) fs (subst (λ (o : Option S). IsConsistentAbove y o (z.upper p) fs) fresh (above_there fs t h e (at_edge fs t i h e at))))

    -- if the climb has reached the edge, whose summary has changed, the change is passed on to the parent
    pub climbed_edge : (w : Summaries S) (next : Place) (was : S) → p ≡ edge → z.fresh p ≡ Some was → parent ≡ Some next → PassesOn n v y w next was is → ClimbsTo n v z w p edge
    climbed_edge w next was i fresh on passes [] t h e below at = absurd (none_not next (sym (parent_above [] t h e) ∙ on))
    climbed_edge w next was i fresh on passes (frame d c q b ∷ fs) t h e below at =
        let same : q ≡ next = some_same (sym (parent_above (frame d c q b ∷ fs) t h e) ∙ on) in
        let passes_q : PassesOn n v y w q was is = subst (λ (r : Place). PassesOn n v y w r was is) (sym same) passes in
        let tree = climbed_tree (frame d c q b ∷ fs) t h e below in
        passes_q d c b fs t (z.upper p) h (summed_consistent_tree y parent t tree) (ap (seen y) e ∙ sym is_there)
        (ap (seen_upper y) e ∙ (summed_upper y parent p t e tree ∙ parent_above (frame d c q b ∷ fs) t h e))
        (subst (λ (o : Option S). IsConsistentAbove y o (z.upper p) (frame d c q b ∷ fs)) fresh (above_there (frame d c q b ∷ fs) t h e (at_edge (frame d c q b ∷ fs) t i h e at)))

  -- if the place p is the edge, a climb from p to p is a climb to the edge
  pub climbed_there : (z y : Summaries S) (p edge : Place) → p ≡ edge → ClimbsTo n v z y p p → ClimbsTo n v z y p edge
  climbed_there z y p edge i climbs fs t h e below at =
      climbs fs t h e below (subst (λ (q : Place). IsEdgeAt z q p fs) (sym i) at)

-- in the sequence s each fresh summary is right, except maybe at the edge. These lemmas say which fresh summaries are right in the tree of s
module _ {E S : Type 0} (n : E → Node) (v : Table E) (z : Summaries S) (s : List Place) (edge : Place) (h : IsConsistentBut n v z s (Some edge)) where
  right_at : (q : Place) → 1 ≤ times_in q s → q ≢ edge → (x : S) → z.fresh q ≡ Some x → IsJoined z q (n (v.entry q)).left (n (v.entry q)).right x
  right_at q m other x e = h q m (λ i. other (sym (some_same i))) x e

  beside_edge : (p : Place) → one_at edge p ≡ 0 → p ≢ edge
  beside_edge p none i = apart edge p none (sym i)

  joined_there : (p : Place) (l r : Option Place) → 1 ≤ times_in p s → p ≢ edge → (n (v.entry p)).left ≡ l → (n (v.entry p)).right ≡ r → (x : S) → z.fresh p ≡ Some x → IsJoined z p l r x
  joined_there p l r m other el er x e =
      subst (λ (o : Option Place). IsJoined z p o r x) el (subst (λ (o : Option Place). IsJoined z p (n (v.entry p)).left o x) er (right_at p m other x e))

  right_tree : (up : Option Place) (t : Tree) → IsTree n v.entry up t → ((q : Place) → times q t ≤ times_in q s) → times edge t ≡ 0 → IsConsistentTree z t
  right_tree up leaf k m none = tt
  right_tree up (fork c a p b) k m none = (
    joined_there p (top a) (top b) (omega (arith, m p, one_at_self p)) (beside_edge p (omega (arith, none))) k.0.left k.0.right,
    right_tree (Some p) a k.1 (λ q. omega (arith, m q)) (omega (arith, none)),
    right_tree (Some p) b k.2 (λ q. omega (arith, m q)) (omega (arith, none)),
  )

  right_above : (fs : List Frame) (o : Place) → IsAround n v.entry fs (Some o) → ((q : Place) → times_around q fs ≤ times_in q s) → times_around edge fs ≡ 0 → IsConsistentAbove z (z.fresh o) (z.upper o) fs
  right_above [] o k m none = tt
  right_above (frame Left c p b ∷ fs) o k m none = (
    (λ y e. let j = joined_there p (Some o) (top b) (omega (arith, m p, one_at_self p)) (beside_edge p (omega (arith, none))) k.0.left k.0.right y e in
        record { fresh = j.left_is.0; under = j.left_is.1; joined = j.joined; other_is = j.right_is }),
    right_tree (Some p) b k.1 (λ q. omega (arith, m q)) (omega (arith, none)),
    right_above fs p k.2 (λ q. omega (arith, m q)) (omega (arith, none)),
  )
  right_above (frame Right c p b ∷ fs) o k m none = (
    (λ y e. let j = joined_there p (top b) (Some o) (omega (arith, m p, one_at_self p)) (beside_edge p (omega (arith, none))) k.0.left k.0.right y e in
        record { fresh = j.right_is.0; under = j.right_is.1; joined = j.joined; other_is = j.left_is }),
    right_tree (Some p) b k.1 (λ q. omega (arith, m q)) (omega (arith, none)),
    right_above fs p k.2 (λ q. omega (arith, m q)) (omega (arith, none)),
  )

  edge_above : (fs : List Frame) (o : Place) → IsAround n v.entry fs (Some o) → ((q : Place) → times_around q fs ≤ times_in q s) → times_around edge fs ≤ 1 → IsAmong edge fs → IsEdgeAbove z edge fs
  edge_above [] o k m once among = absurd among
  edge_above (frame d c p b ∷ fs) o k m once among = elim among [
    | inl i ↦
        let one : one_at edge p ≡ 1 = rw i (one_at_self edge) in (
          right_tree (Some p) b k.1 (λ q. omega (arith, m q)) (omega (arith, once, one)),
          inl (i, right_above fs p k.2 (λ q. omega (arith, m q)) (omega (arith, once, one))),
        )
    | inr r ↦
        let there = among_times edge fs r in (
          right_tree (Some p) b k.1 (λ q. omega (arith, m q)) (omega (arith, once, there)),
          inr (edge_above fs p k.2 (λ q. omega (arith, m q)) (omega (arith, once)) r),
        )
  ]

  -- a climb can begin at a place below the edge: the fresh summaries below it are right, and so are those above the edge
  pub below_edge : (fs : List Frame) (c : Color) (a : Tree) (p : Place) (b : Tree) → IsSubtree n v fs (fork c a p b) → ((q : Place) → times q (plug fs (fork c a p b)) ≤ times_in q s) → IsAmong edge fs
      → IsConsistentBelow z (fork c a p b) × IsEdgeAt z edge p fs
  below_edge fs c a p b k m among =
      let there = among_times edge fs among in
      let once : times edge (fork c a p b) + times_around edge fs ≤ 1 = omega (arith, k.once edge, times_plug edge fs (fork c a p b)) in (
        (
          right_tree (Some p) a k.tree.1 (λ q. omega (arith, m q, times_plug q fs (fork c a p b))) (omega (arith, once, there)),
          right_tree (Some p) b k.tree.2 (λ q. omega (arith, m q, times_plug q fs (fork c a p b))) (omega (arith, once, there)),
        ),
        inr (edge_above fs p k.around (λ q. omega (arith, m q, times_plug q fs (fork c a p b))) (omega (arith, once)) among),
      )

  -- a climb can begin at the edge itself: the fresh summaries below it are right, and so are those above it
  pub here_at_edge : (fs : List Frame) (c : Color) (a b : Tree) → IsSubtree n v fs (fork c a edge b) → ((q : Place) → times q (plug fs (fork c a edge b)) ≤ times_in q s)
      → IsConsistentBelow z (fork c a edge b) × IsEdgeAt z edge edge fs
  here_at_edge fs c a b k m =
      let here = one_at_self edge in
      let once : times edge (fork c a edge b) + times_around edge fs ≤ 1 = omega (arith, k.once edge, times_plug edge fs (fork c a edge b)) in (
        (
          right_tree (Some edge) a k.tree.1 (λ q. omega (arith, m q, times_plug q fs (fork c a edge b))) (omega (arith, once, here)),
          right_tree (Some edge) b k.tree.2 (λ q. omega (arith, m q, times_plug q fs (fork c a edge b))) (omega (arith, once, here)),
        ),
        inl (refl, right_above fs edge k.around (λ q. omega (arith, m q, times_plug q fs (fork c a edge b))) (omega (arith, once, here))),
      )

module _ {E : Type 0} (n : E → Node) (v : Table E) where
  -- if the edge is the parent of a place, the edge is on the path above this place
  pub among_here : (fs : List Frame) (t : Tree) (p up edge : Place) → IsSubtree n v fs t → top t ≡ Some p → (n (v.entry p)).parent ≡ Some up → up ≡ edge → IsAmong edge fs
  among_here [] t p up edge h e is same = absurd (none_not up (sym (subtree_parent n v [] t p h e) ∙ is))
  among_here (frame d c a b ∷ fs) t p up edge h e is same = inl (some_same (sym (subtree_parent n v (frame d c a b ∷ fs) t p h e) ∙ is) ∙ same)

  pub among_up : (fs : List Frame) (t : Tree) (p up edge : Place) → IsSubtree n v fs t → top t ≡ Some p → (n (v.entry p)).parent ≡ Some up
      → ((gs : List Frame) (u : Tree) → IsSubtree n v gs u → top u ≡ Some up → IsAmong edge gs) → IsAmong edge fs
  among_up [] t p up edge h e is on = absurd (none_not up (sym (subtree_parent n v [] t p h e) ∙ is))
  among_up (frame d c a b ∷ fs) t p up edge h e is on =
      inr (on fs (put_in (frame d c a b) t) (subtree_put n v d c a b fs t h) (top_put d c a b t ∙ (sym (subtree_parent n v (frame d c a b ∷ fs) t p h e) ∙ is)))

module _ {E S : Type 0} (n : E → Node) (v : Table E) where
  -- after a climb to the edge, each fresh summary of the represented tree is right
  pub settled : (z y : Summaries S) (root : Option Place) (front : List Place) (p edge : Place) (back : List Place) → ClimbsTo n v z y p edge
      → ((fs : List Frame) (t : Tree) → IsSubtree n v fs t → top t ≡ Some p → IsAmong edge fs) → (h : Represents n v root (front ++ p ∷ back))
      → IsConsistentBut n v z (front ++ p ∷ back) (Some edge) → IsConsistentTree y h.tree
  settled z y root front p edge back climbs among h k =
      let x = member_subtree n v root front p back h in
      let t : Tree = fork x.c x.a p x.b in
      let members : (q : Place) → times q (plug x.fs t) ≤ times_in q (front ++ p ∷ back) =
      (λ q. let e : times_in q (in_order h.tree) ≡ times_in q (front ++ p ∷ back) = ap (times_in q) h.held.order in omega (arith, e, times_order q h.tree, ap (times q) x.same)) in
      let r = below_edge n v z (front ++ p ∷ back) edge k x.fs x.c x.a p x.b x.subtree members (among x.fs t x.subtree refl) in
      subst (λ (u : Tree). IsConsistentTree y u) x.same (climbs x.fs t x.subtree refl r.0 r.1)

  -- after the climb each fresh summary of another tree is right, if this tree shares no member with the first one
  pub others_settled : (z y : Summaries S) (root other : Option Place) (front : List Place) (p edge : Place) (back t : List Place) → y.join ≡ z.join → OthersStay n v z y p
      → ((fs : List Frame) (t : Tree) → IsSubtree n v fs t → top t ≡ Some p → IsAmong edge fs) → Represents n v root (front ++ p ∷ back) → Represents n v other t → IsDisjoint (front ++ p ∷ back) t
      → IsConsistentBut n v z t (Some edge) → IsConsistent n v y t
  others_settled z y root other front p edge back t ej stays among h k apart but =
      let x = member_subtree n v root front p back h in
      let u : Tree = fork x.c x.a p x.b in
      let out : (q : Place) → 1 ≤ times_in q t → times q (plug x.fs u) ≡ 0 = λ q m. ap (times q) x.same ∙ holds_out h.held q (member_out q (front ++ p ∷ back) t apart m) in
      let there : 1 ≤ times edge (plug x.fs u) = omega (arith, among_times edge x.fs (among x.fs u x.subtree refl), times_plug edge x.fs u) in
      let other_than : (q : Place) → 1 ≤ times_in q t → Some edge ≡ Some q → ⊥ =
      λ q m i. let here : 1 ≤ times q (plug x.fs u) = subst (λ (r : Place). 1 ≤ times r (plug x.fs u)) (some_same i) there in absurd (omega (arith, here, out q m)) in
      (others_consistent n v z y other t ej (λ q m. stays x.fs u x.subtree refl q (out q m)) (k, λ q m none. but q m (other_than q m))).1

-- if the edge is a member, each fresh summary is right after a climb that begins at the edge
module _ {E S : Type 0} (n : E → Node) (v : Table E) (z y : Summaries S) (root : Option Place) (s : List Place) (edge : Place) (h : Represents n v root s) (member : IsMember edge s) where
  pub settled_here : ClimbsTo n v z y edge edge → IsConsistentBut n v z s (Some edge) → IsConsistent n v y s
  settled_here climbs k q m but x e =
      let at = member_at n v root s edge h member in
      let r = here_at_edge n v z s edge k at.fs at.c at.a at.b at.subtree (λ p. omega (arith, at.whole p)) in
      let tree = climbs at.fs (fork at.c at.a edge at.b) at.subtree refl r.0 r.1 in
      tree_consistent n v y None (plug at.fs (fork at.c at.a edge at.b)) tree at.entries q (omega (arith, m, at.whole q)) x e

  -- after a climb that begins at the edge, each place that is no member keeps its summary and its stored parent
  pub kept_beside : OthersStay n v z y edge → (q : Place) → IsAbsent q s → IsSameAt z y q
  kept_beside stays q out = let at = member_at n v root s edge h member in stays at.fs (fork at.c at.a edge at.b) at.subtree refl q (at.whole q ∙ absent_times q s out)

  -- after a climb that begins at the edge, each fresh summary of another tree is right
  pub others_settled_here : (other : Option Place) (t : List Place) → y.join ≡ z.join → OthersStay n v z y edge → Represents n v other t → IsDisjoint s t → IsConsistentBut n v z t (Some edge) → IsConsistent n v y t
  others_settled_here other t ej stays k apart but =
      (others_consistent n v z y other t ej (λ q m. kept_beside stays q (member_out q s t apart m))
      (k, λ q m none. but q m (λ i. member (subst (λ (p : Place). IsAbsent p s) (sym (some_same i)) (member_out q s t apart m))))).1
