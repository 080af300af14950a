-- Lemmas about two descents in one tree, and about the members between the two gaps where they end.
use Rattle.std.proofs.Common.{◌≡◌, ◌⊎◌, Bool, true, false, cond, Option, Some, None, List, [], ◌∷◌, ◌++◌, refl, sym, ap, ◌∙◌, subst, append_assoc, append-nil, inl, inr, true≢false, option_map, is_some, IfSome, drop, Ordering, Less, Equal, Greater}
use Rattle.std.specs.Cmp.{IsTotalOrder, alike_right}
use Rattle.std.specs.Ordering.{is_lt, is_le, is_ge, ordering_reverse}
use Rattle.ic_link_ops.specs.Prelude.{Place, Objects, object_at, is_placed, Cut, join, first, last, but_last, Table, IsCovered, ArePlaced, Tree, leaf, fork, in_order}
use Rattle.ic_link_ops.specs.RedBlackTree.{Node, Represents}
use Rattle.ic_link_ops.proofs.SequenceLemmas.{first_is, split_last, last_or-append}
use Rattle.ic_rbtree.specs.declared.keys.key_adapter.Bound.{Bound}
use Rattle.ic_rbtree.specs.declared.keys.key_adapter.Bound.TheVariants.{Included, Excluded, Unbounded}
use Rattle.ic_rbtree.specs.declared.keys.probe.KeyProbe.{KeyProbe}
use Rattle.ic_rbtree.specs.Comparing.{answer_at, compared_within, meets_lower, is_beyond}
use Rattle.ic_rbtree.specs.Descents.{left_of, right_of, gap_in}
use Rattle.ic_rbtree.specs.KeyProbe.{adapter_of, key_of_probe, key_order, HasAdapter}
use Rattle.ic_rbtree.specs.Members.{between, members, IsWalk}
use Rattle.ic_rbtree.specs.Ranges.{not_less, runs_up, IsSegment}
use Rattle.ic_rbtree.proofs.Members.{members_represented}
use Rattle.ic_rbtree.proofs.Walking.{walk_members}
use Rattle.ic_rbtree.proofs.Gaps.{gap_join, gap_border}
use Rattle.ic_rbtree.proofs.Sending.{not_ge, not_gt, placed_there}

-- if all members are placed, the member right after a gap is placed
pub back_placed : {V : Type 0} (objects : Objects V) (gap : Cut) → ArePlaced objects (join gap) → (p : Option Place) → p ≡ first gap.back → IfSome p (λ q. is_placed objects q ≡ true)
back_placed objects gap placed None e = tt
back_placed objects gap placed (Some q) e =
    placed_there objects gap.front q (drop 1 gap.back) (subst (λ s. ArePlaced objects (gap.front ++ s)) (first_is gap.back e) placed)

pub front_placed : {V : Type 0} (objects : Objects V) (gap : Cut) → ArePlaced objects (join gap) → (p : Option Place) → p ≡ last gap.front → IfSome p (λ q. is_placed objects q ≡ true)
front_placed objects gap placed None e = tt
front_placed objects gap placed (Some q) e =
    placed_there objects (but_last gap.front) q gap.back
    (subst (ArePlaced objects) (ap (λ s. s ++ gap.back) (split_last gap.front (sym e)) ∙ append_assoc (but_last gap.front) (q ∷ []) gap.back) placed)

-- THE GAP `one` is before the gap `other`, or both are equal, and w is the list of the members between them
pub record IsBefore (one other : Cut) : Type 0 where
  pub w : List Place
  pub fronts : other.front ≡ one.front ++ w
  pub backs : one.back ≡ w ++ other.back

-- THE TESTS CROSS if some member m of s fails the test f and passes the test g
pub record Crosses (f g : Place → Bool) (s : List Place) : Type 0 where
  pub m : Place
  pub front : List Place
  pub back : List Place
  pub same : front ++ m ∷ back ≡ s
  pub fails : f m ≡ false
  pub passes : g m ≡ true

pub meet : (f g : Place → Bool) (t : Tree) → IsBefore (gap_in f t) (gap_in g t) ⊎ Crosses f g (in_order t)
meet f g leaf = inl (record { w = []; fronts = refl; backs = refl })
meet f g (fork c a p b) = by (f p) refl (g p) refl (meet f g a) (meet f g b) where
  by : (x : Bool) → f p ≡ x → (y : Bool) → g p ≡ y → IsBefore (gap_in f a) (gap_in g a) ⊎ Crosses f g (in_order a) → IsBefore (gap_in f b) (gap_in g b) ⊎ Crosses f g (in_order b)
      → IsBefore (cond x (left_of (gap_in f a) p b) (right_of a p (gap_in f b))) (cond y (left_of (gap_in g a) p b) (right_of a p (gap_in g b))) ⊎ Crosses f g (in_order a ++ p ∷ in_order b)
  by true ex true ey (inl m) k =
      inl (record { w = m.w; fronts = m.fronts; backs = ap (λ s. s ++ p ∷ in_order b) m.backs ∙ append_assoc m.w (gap_in g a).back (p ∷ in_order b) })
  by true ex true ey (inr x) k = inr (record {
    m = x.m;
    front = x.front;
    back = x.back ++ p ∷ in_order b;
    same = sym (append_assoc x.front (x.m ∷ x.back) (p ∷ in_order b)) ∙ ap (λ s. s ++ p ∷ in_order b) x.same;
    fails = x.fails;
    passes = x.passes;
  })
  by true ex false ey m k = inl (record {
    w = (gap_in f a).back ++ p ∷ (gap_in g b).front;
    fronts = ap (λ s. s ++ p ∷ (gap_in g b).front) (sym (gap_join f a)) ∙ append_assoc (gap_in f a).front (gap_in f a).back (p ∷ (gap_in g b).front);
    backs = ap (λ s. (gap_in f a).back ++ p ∷ s) (sym (gap_join g b)) ∙ sym (append_assoc (gap_in f a).back (p ∷ (gap_in g b).front) (gap_in g b).back);
  })
  by false ex true ey m k = inr (record { m = p; front = in_order a; back = in_order b; same = refl; fails = ex; passes = ey })
  by false ex false ey m (inl k) =
      inl (record { w = k.w; fronts = ap (λ s. in_order a ++ p ∷ s) k.fronts ∙ sym (append_assoc (in_order a) (p ∷ (gap_in f b).front) k.w); backs = k.backs })
  by false ex false ey m (inr x) = inr (record {
    m = x.m;
    front = in_order a ++ p ∷ x.front;
    back = x.back;
    same = append_assoc (in_order a) (p ∷ x.front) (x.m ∷ x.back) ∙ ap (λ s. in_order a ++ p ∷ s) x.same;
    fails = x.fails;
    passes = x.passes;
  })

-- the key of a member that doesn't meet a lower bound is less than the key of a member that meets it
module _ {K : Type 0} {cmp : K → K → Ordering} (total : IsTotalOrder cmp) where
  turned : (k x : K) → cmp k x ≡ Greater → cmp x k ≡ Less
  turned k x e = total.antisymm x k ∙ ap ordering_reverse e

  pub le_fails : (k x y : K) (r q : Ordering) → cmp k x ≡ r → cmp k y ≡ q → is_le r ≡ false → is_le q ≡ true → cmp x y ≡ Less
  le_fails k x y Less q er eq h g = absurd (true≢false h)
  le_fails k x y Equal q er eq h g = absurd (true≢false h)
  le_fails k x y Greater Less er eq h g = total.trans x k y (turned k x er) eq
  le_fails k x y Greater Equal er eq h g = sym (alike_right total k y x eq) ∙ turned k x er
  le_fails k x y Greater Greater er eq h g = absurd (true≢false (sym g))

  pub lt_fails : (k x y : K) (r q : Ordering) → cmp k x ≡ r → cmp k y ≡ q → is_lt r ≡ false → is_lt q ≡ true → cmp x y ≡ Less
  lt_fails k x y Less q er eq h g = absurd (true≢false h)
  lt_fails k x y Equal Less er eq h g = sym (total.congr k x y er) ∙ eq
  lt_fails k x y Greater Less er eq h g = total.trans x k y (turned k x er) eq
  lt_fails k x y Equal Equal er eq h g = absurd (true≢false (sym g))
  lt_fails k x y Equal Greater er eq h g = absurd (true≢false (sym g))
  lt_fails k x y Greater Equal er eq h g = absurd (true≢false (sym g))
  lt_fails k x y Greater Greater er eq h g = absurd (true≢false (sym g))

  module _ {A V : Type 0} (key_of : A → V → K) (adapter : A) (objects : Objects V) where
    -- a test rises if each member that fails it has a smaller key than each member that passes it
    pub record Rises (test : Place → Bool) : Type 0 where
      pub less : (x y : Place) (u v : V) → object_at objects x ≡ Some u → object_at objects y ≡ Some v → test x ≡ false → test y ≡ true → cmp (key_of adapter u) (key_of adapter v) ≡ Less

    seen : (p : KeyProbe A V K) → adapter_of p ≡ adapter → (f : Ordering → Bool) (x : Place) {u : V} {b : Bool} → object_at objects x ≡ Some u → f (answer_at (key_order cmp key_of p) (object_at objects x)) ≡ b
        → f (cmp (key_of_probe p) (key_of adapter u)) ≡ b
    seen p same f x {u} is h = sym (ap (λ z. f (cmp (key_of_probe p) (key_of z u))) same) ∙ sym (ap (λ o. f (answer_at (key_order cmp key_of p) o)) is) ∙ h

    pub lower_rises : (b : Bound (KeyProbe A V K)) → HasAdapter adapter b → Rises (meets_lower (compared_within (key_order cmp key_of) objects b))
    lower_rises (Included p) same = record {
      less = λ x y u v ex ey h g. le_fails (key_of_probe p) (key_of adapter u) (key_of adapter v) _ _ refl refl (seen p same is_le x ex h) (seen p same is_le y ey g);
    }
    lower_rises (Excluded p) same = record {
      less = λ x y u v ex ey h g. lt_fails (key_of_probe p) (key_of adapter u) (key_of adapter v) _ _ refl refl (seen p same is_lt x ex h) (seen p same is_lt y ey g);
    }
    lower_rises Unbounded same = record { less = λ x y u v ex ey h g. absurd (true≢false h) }

    pub upper_rises : (b : Bound (KeyProbe A V K)) → HasAdapter adapter b → Rises (is_beyond (compared_within (key_order cmp key_of) objects b))
    upper_rises (Included p) same = record {
      less = λ x y u v ex ey h g. lt_fails (key_of_probe p) (key_of adapter u) (key_of adapter v) _ _ refl refl (seen p same is_lt x ex (not_ge _ ∙ h)) (seen p same is_lt y ey (not_ge _ ∙ g));
    }
    upper_rises (Excluded p) same = record {
      less = λ x y u v ex ey h g. le_fails (key_of_probe p) (key_of adapter u) (key_of adapter v) _ _ refl refl (seen p same is_le x ex (not_gt _ ∙ h)) (seen p same is_le y ey (not_gt _ ∙ g));
    }
    upper_rises Unbounded same = record { less = λ x y u v ex ey h g. absurd (true≢false (sym g)) }

    -- THE ENDS of a range: both are members with objects, and the key at the upper end is not less than the key at the lower end
    pub record Ends (low high : Option Place) : Type 0 where
      pub i : Place
      pub j : Place
      pub u : V
      pub v : V
      pub low_is : low ≡ Some i
      pub high_is : high ≡ Some j
      pub first_is : object_at objects i ≡ Some u
      pub last_is : object_at objects j ≡ Some v
      pub up : cmp (key_of adapter v) (key_of adapter u) ≡ Less → ⊥

    pub ends : (low high : Option Place) → runs_up cmp (key_of adapter) objects low high ≡ true → Ends low high
    ends None high h = absurd (true≢false (sym h))
    ends (Some i) None h = by (object_at objects i) h where
      by : (o : Option V) → not_less cmp (option_map (key_of adapter) o) None ≡ true → Ends (Some i) None
      by None e = absurd (true≢false (sym e))
      by (Some u) e = absurd (true≢false (sym e))
    ends (Some i) (Some j) h = by (object_at objects i) (object_at objects j) refl refl h where
      by : (o k : Option V) → object_at objects i ≡ o → object_at objects j ≡ k → not_less cmp (option_map (key_of adapter) o) (option_map (key_of adapter) k) ≡ true → Ends (Some i) (Some j)
      by None k eo ek e = absurd (true≢false (sym e))
      by (Some u) None eo ek e = absurd (true≢false (sym e))
      by (Some u) (Some v) eo ek e =
          record { i = i; j = j; u = u; v = v; low_is = refl; high_is = refl; first_is = eo; last_is = ek; up = λ less. absurd (true≢false (sym e ∙ ap is_ge less)) }

    placed_value : (o : Option V) → is_some o ≡ true → (v : V) × (o ≡ Some v)
    placed_value None e = absurd (true≢false (sym e))
    placed_value (Some v) e = (v, refl)

    -- IF THE KEY AT THE UPPER END is not less than the key at the lower end, the members between the two gaps are a walk between these ends
    module _ {E : Type 0} (n : E → Node) {t : Table E} {root : Option Place} {s : List Place} (h : Represents n t root s) (placed : ArePlaced objects s) {f g : Place → Bool} (rises : Rises f) (falls : Rises g)
        {low high : Option Place} (low_is : low ≡ first (gap_in f h.tree).back) (high_is : high ≡ last (gap_in g h.tree).front) where
      pub walks_up : runs_up cmp (key_of adapter) objects low high ≡ true → (w : List Place) × IsWalk n t root low high w × ArePlaced objects w
      walks_up runs = by (meet f g h.tree) where
        x : Ends low high
        x = ends low high runs

        low_passes : f x.i ≡ true
        low_passes = (gap_border f h.tree).passes x.i (sym low_is ∙ x.low_is)

        high_fails : g x.j ≡ false
        high_fails = (gap_border g h.tree).fails x.j (sym high_is ∙ x.high_is)

        parts : (a w b : List Place) → ArePlaced objects (a ++ (w ++ b)) → ArePlaced objects w
        parts [] [] b all = tt
        parts [] (y ∷ w) b all = (all.0, parts [] w b all.1)
        parts (y ∷ a) w b all = parts a w b all.1

        by : IsBefore (gap_in f h.tree) (gap_in g h.tree) ⊎ Crosses f g (in_order h.tree) → (w : List Place) × IsWalk n t root low high w × ArePlaced objects w
        by (inl k) = walk k.w k.fronts k.backs where
          walk : (w : List Place) → (gap_in g h.tree).front ≡ (gap_in f h.tree).front ++ w → (gap_in f h.tree).back ≡ w ++ (gap_in g h.tree).back → (w : List Place) × IsWalk n t root low high w × ArePlaced objects w
          walk [] fronts backs =
              let high_low : f x.j ≡ false = (gap_border f h.tree).fails x.j (sym (ap last (fronts ∙ append-nil (gap_in f h.tree).front)) ∙ sym high_is ∙ x.high_is) in
              absurd (x.up (rises.less x.j x.i x.v x.u x.last_is x.first_is high_low low_passes))
          walk (y ∷ w) fronts backs =
              let order : s ≡ (gap_in f h.tree).front ++ (y ∷ w ++ (gap_in g h.tree).back) = sym h.held.order ∙ sym (gap_join f h.tree) ∙ ap (λ z. (gap_in f h.tree).front ++ z) backs in (
                y ∷ w,
                record {
                  front = (gap_in f h.tree).front;
                  back = (gap_in g h.tree).back;
                  shown = subst (Represents n t root) order h;
                  starts = low_is ∙ ap first backs;
                  ends = high_is ∙ ap last fronts ∙ last_or-append None (gap_in f h.tree).front (y ∷ w);
                },
                parts (gap_in f h.tree).front (y ∷ w) (gap_in g h.tree).back (subst (ArePlaced objects) order placed),
              )
        by (inr k) =
            let m = placed_value (object_at objects k.m) (placed_there objects k.front k.m k.back (subst (ArePlaced objects) (sym (k.same ∙ h.held.order)) placed)) in
            absurd (x.up (total.trans _ _ _ (falls.less x.j k.m x.v m.0 x.last_is m.1 high_fails k.passes) (rises.less k.m x.i m.0 x.u m.1 x.first_is k.fails low_passes)))

-- the members of a walk are the segment of the sequence between the walk's two ends
pub segment_is : {E : Type 0} (n : E → Node) {t : Table E} → ((q : Place) → (n (t.entry q)).linked ≡ true → IsCovered t q) → {root low high : Option Place} {s w : List Place} → Represents n t root s
    → IsWalk n t root low high w → IsSegment s low high (between low high (members n t root))
segment_is n {t} law {root} {low} {high} {s} {w} h x =
    let same : x.front ++ (w ++ x.back) ≡ s = sym (members_represented t law root (x.front ++ (w ++ x.back)) x.shown) ∙ members_represented t law root s h in
    subst (IsSegment s low high) (sym (walk_members n t law x)) (record { front = x.front; back = x.back; same = same; starts = x.starts; ends = x.ends })
