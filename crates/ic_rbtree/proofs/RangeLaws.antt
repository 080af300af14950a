-- Laws for callers: in a sorted sequence, a range consists of the members that a filter by both bounds keeps.
use Rattle.std.proofs.Common.{◌≡◌, ◌⊎◌, Bool, true, false, ◌&&◌, Option, Some, None, IsSome, List, [], ◌∷◌, ◌++◌, map, refl, sym, ap, ◌∙◌, subst, append-nil, inl, inr, true≢false, option_map, Ordering, Less, Equal, Greater}
use Rattle.std.proofs.lemmas.Bool.{not-true, not-false}
use Rattle.std.specs.Cmp.{IsTotalOrder, tied_itself}
use Rattle.std.specs.List.{AllByRecursion, filter}
use Rattle.std.specs.Ordering.{is_gt, is_ge, ordering_reverse}
use Rattle.ic_link_ops.specs.Prelude.{Place, Objects, object_at, first, last, IsDistinct, ArePlaced, values_at}
use Rattle.ic_link_ops.proofs.Prelude.{none_not, some_same, last_or-append, all_front, all_back, all_map}
use Rattle.ic_rbtree.specs.declared.keys.key_adapter.Bound.{Bound}
use Rattle.ic_rbtree.specs.Prelude.{IsSorted, answer_at, compared, order_of, meets_lower, meets_upper, is_beyond, between}
use Rattle.ic_rbtree.specs.Ranges.{not_less, runs_up, IsSegment, IsRange}
use Rattle.ic_rbtree.proofs.KeyLaws.{keys_more, value_there, none_less, sorted_tail, Cuts, cons_head, one_border, filter_fail, filter_front, last_all}
use Rattle.ic_rbtree.proofs.Ranges.{Rises, ends}
use Rattle.ic_rbtree.proofs.Walking.{between_ends}

-- if a sequence is cut at two gaps, one gap is before the other, or both are equal
prefixes : (f b g c : List Place) → f ++ b ≡ g ++ c
    → ((x : Place) × (u : List Place) × (g ≡ f ++ x ∷ u) × (b ≡ x ∷ u ++ c)) ⊎ ((v : List Place) × (f ≡ g ++ v) × (c ≡ v ++ b))
prefixes [] b [] c e = inr ([], refl, sym e)
prefixes [] b (x ∷ u) c e = inl (x, u, refl, e)
prefixes (a ∷ f) b [] c e = inr (a ∷ f, refl, sym e)
prefixes (a ∷ f) b (p ∷ g) c e =
    let k = cons_head a p (f ++ b) (g ++ c) e in
    elim (prefixes f b g c k.1) [
      | inl r ↦ inl (r.0, r.1, sym (ap (λ z. z ∷ g) k.0) ∙ ap (λ z. a ∷ z) r.2, r.3)
      | inr r ↦ inr (r.0, ap (λ z. a ∷ z) r.1 ∙ ap (λ z. z ∷ g ++ r.0) k.0, r.2)
    ]

-- members that fail the test f also fail the test that requires f and g
fails_left : (f g : Place → Bool) (s : List Place) → AllByRecursion (λ p. f p ≡ false) s → AllByRecursion (λ p. (f p && g p) ≡ false) s
fails_left f g s h = all_map (λ p e. ap (λ x. x && g p) e) s h

and_false : (x : Bool) → (x && false) ≡ false
and_false true = refl
and_false false = refl

fails_right : (f g : Place → Bool) (s : List Place) → AllByRecursion (λ p. g p ≡ false) s → AllByRecursion (λ p. (f p && g p) ≡ false) s
fails_right f g s h = all_map (λ p e. ap (λ x. f p && x) e ∙ and_false (f p)) s h

passes_both : (f g : Place → Bool) (s : List Place) → AllByRecursion (λ p. f p ≡ true) s → AllByRecursion (λ p. g p ≡ true) s → AllByRecursion (λ p. (f p && g p) ≡ true) s
passes_both f g [] hf hg = tt
passes_both f g (p ∷ s) hf hg = (ap (λ x. x && g p) hf.0 ∙ hg.0, passes_both f g s hf.1 hg.1)

-- if only the members of w, in the middle of a sequence, pass the test, the filter keeps exactly w
filter_middle : (test : Place → Bool) (a w b : List Place) → AllByRecursion (λ p. test p ≡ false) a → AllByRecursion (λ p. test p ≡ true) w → AllByRecursion (λ p. test p ≡ false) b → filter test (a ++ (w ++ b)) ≡ w
filter_middle test a w b ha hw hb = filter_fail test a (w ++ b) ha ∙ filter_front test w b hw hb

-- in a sequence of distinct places, w is the only segment from its first member to its last
one_segment : {s : List Place} {low high : Option Place} (a w b v : List Place) → IsDistinct s → a ++ (w ++ b) ≡ s → low ≡ first w → high ≡ last w → IsSegment s low high v → v ≡ w
one_segment {s} {low} {high} a w b v distinct same starts ends x =
    sym (found x.front v x.back x.same x.starts x.ends) ∙ found a w b same starts ends where
      found : (a w b : List Place) → a ++ (w ++ b) ≡ s → low ≡ first w → high ≡ last w → between low high s ≡ w
      found a w b same starts ends =
          ap (between low high) (sym same) ∙ ap (λ o. between o high (a ++ (w ++ b))) starts ∙ ap (λ o. between (first w) o (a ++ (w ++ b))) ends ∙ between_ends a w b (subst IsDistinct (sym same) distinct)

module _ {A V K : Type 0} {cmp : K → K → Ordering} (total : IsTotalOrder cmp) (key_of : A → V → K) (adapter : A) (objects : Objects V) where
  -- if the place `low` passes a test that rises, and the place `high` fails it, the key at `high` is less than the key at `low`
  not_down : {test : Place → Bool} {low high : Option Place} → Rises total key_of adapter objects test → ((q : Place) → low ≡ Some q → test q ≡ true) → ((q : Place) → high ≡ Some q → test q ≡ false)
      → (x : Bool) → runs_up cmp (key_of adapter) objects low high ≡ x → runs_up cmp (key_of adapter) objects low high ≡ false
  not_down rises passes fails false is = is
  not_down {low = low} {high} rises passes fails true is =
      let e = ends total key_of adapter objects low high is in
      absurd (e.up (rises.less e.j e.i e.v e.u e.last_is e.first_is (fails e.j e.high_is) (passes e.i e.low_is)))

  turn_ge : (o : Ordering) → is_gt o ≡ false → is_ge (ordering_reverse o) ≡ true
  turn_ge Less e = refl
  turn_ge Equal e = refl
  turn_ge Greater e = absurd (true≢false e)

  -- in a sorted sequence, the key of a later member is not less than the key of a member before it
  climbs : (a : List Place) (x : Place) (u t : List Place) → ArePlaced objects (a ++ (x ∷ u ++ t)) → IsSorted cmp (map (key_of adapter) (values_at objects (a ++ (x ∷ u ++ t))))
      → runs_up cmp (key_of adapter) objects (Some x) (last (x ∷ u)) ≡ true
  climbs (p ∷ a) x u t placed sorted =
      let v = value_there total (key_of adapter) objects (object_at objects p) placed.0 in
      climbs a x u t placed.1
      (sorted_tail total (key_of adapter) objects (key_of adapter v.0) (map (key_of adapter) (values_at objects (a ++ (x ∷ u ++ t))))
      (subst (IsSorted cmp) (keys_more total (key_of adapter) objects p (a ++ (x ∷ u ++ t)) v.1) sorted))
  climbs [] x u t placed sorted =
      let v = value_there total (key_of adapter) objects (object_at objects x) placed.0 in
      let up = none_less total (key_of adapter) objects (key_of adapter v.0) (u ++ t) placed.1 (subst (IsSorted cmp) (keys_more total (key_of adapter) objects x (u ++ t) v.1) sorted) in
      let own : is_gt (compared (order_of cmp (key_of adapter) (key_of adapter v.0)) objects x) ≡ false =
      ap (λ o. is_gt (answer_at (order_of cmp (key_of adapter) (key_of adapter v.0)) o)) v.1 ∙ ap is_gt (tied_itself total (key_of adapter v.0)) in
      let q = last_all {P = λ p. IsSome (object_at objects p) × (is_gt (compared (order_of cmp (key_of adapter) (key_of adapter v.0)) objects p) ≡ false)} x u t ((placed.0, own), zipped (λ p. IsSome (object_at objects p)) (λ p. is_gt (compared (order_of cmp (key_of adapter) (key_of adapter v.0)) objects p) ≡ false) (u ++ t) placed.1 up) in
      let z = value_there total (key_of adapter) objects (object_at objects q.0) q.2.0 in
      let less : is_gt (cmp (key_of adapter v.0) (key_of adapter z.0)) ≡ false = sym (ap (λ o. is_gt (answer_at (order_of cmp (key_of adapter) (key_of adapter v.0)) o)) z.1) ∙ q.2.1 in
      ap (λ o. runs_up cmp (key_of adapter) objects (Some x) o) q.1
      ∙ ap (λ o. not_less cmp (option_map (key_of adapter) o) (option_map (key_of adapter) (object_at objects q.0))) v.1
      ∙ ap (λ o. not_less cmp (Some (key_of adapter v.0)) (option_map (key_of adapter) o)) z.1
      ∙ ap is_ge (total.antisymm (key_of adapter z.0) (key_of adapter v.0))
      ∙ turn_ge (cmp (key_of adapter v.0) (key_of adapter z.0)) less
    where
      zipped : (P Q : Place → Type 0) (s : List Place) → AllByRecursion P s → AllByRecursion Q s → AllByRecursion (λ p. P p × Q p) s
      zipped P Q [] hp hq = tt
      zipped P Q (p ∷ s) hp hq = ((hp.0, hq.0), zipped P Q s hp.1 hq.1)

  -- A RANGE IS A FILTER: it consists of the members of s that meet both bounds
  pub range_is : {b c : Bound (Place → Ordering)} {s w : List Place} → Rises total key_of adapter objects (meets_lower b) → Cuts (meets_lower b) s → Cuts (is_beyond c) s → IsDistinct s → ArePlaced objects s
      → IsSorted cmp (map (key_of adapter) (values_at objects s)) → IsRange b c (runs_up cmp (key_of adapter) objects) s w → w ≡ filter (λ p. meets_lower b p && meets_upper c p) s
  range_is {b} {c} {s} {w} rises k l distinct placed sorted x = by (prefixes k.front k.back l.front l.back (k.same ∙ sym l.same)) where
    test : Place → Bool
    test p = meets_lower b p && meets_upper c p

    low_is : x.low ≡ first k.back
    low_is = x.lower.before ∙ ap first (one_border (meets_lower b) k.front k.back x.lower.gap.front x.lower.gap.back (k.same ∙ sym x.lower.same) k.fail k.pass x.lower.border.fails x.lower.border.passes).1

    high_is : x.high ≡ last l.front
    high_is = x.upper.after ∙ ap last (one_border (is_beyond c) l.front l.back x.upper.gap.front x.upper.gap.back (l.same ∙ sym x.upper.same) l.fail l.pass x.upper.border.fails x.upper.border.passes).0

    first_one : (P : Place → Type 0) (t : List Place) (q : Place) → AllByRecursion P t → first t ≡ Some q → P q
    first_one P [] q h e = absurd (none_not q e)
    first_one P (p ∷ t) q h e = subst P (some_same e) h.0

    last_one : (P : Place → Type 0) (t : List Place) (q : Place) → AllByRecursion P t → last t ≡ Some q → P q
    last_one P [] q h e = absurd (none_not q e)
    last_one P (p ∷ t) q h e = let r = last_all {P = P} p t [] (subst (λ z. AllByRecursion P (p ∷ z)) (sym (append-nil t)) h) in subst P (some_same (sym r.1 ∙ e)) r.2

    beyond_fails : (t : List Place) → AllByRecursion (λ p. is_beyond c p ≡ true) t → AllByRecursion (λ p. test p ≡ false) t
    beyond_fails t h = fails_right (meets_lower b) (meets_upper c) t (all_map (λ p e. not-true (meets_upper c p) e) t h)

    by : ((y : Place) × (u : List Place) × (l.front ≡ k.front ++ y ∷ u) × (k.back ≡ y ∷ u ++ l.back)) ⊎ ((v : List Place) × (k.front ≡ l.front ++ v) × (l.back ≡ v ++ k.back)) → w ≡ filter test s
    by (inl r) =
        let same : k.front ++ (r.0 ∷ r.1 ++ l.back) ≡ s = ap (λ z. k.front ++ z) (sym r.3) ∙ k.same in
        let starts : x.low ≡ first (r.0 ∷ r.1) = low_is ∙ ap first r.3 in
        let ends_at : x.high ≡ last (r.0 ∷ r.1) = high_is ∙ ap last r.2 ∙ last_or-append None k.front (r.0 ∷ r.1) in
        let runs : runs_up cmp (key_of adapter) objects x.low x.high ≡ true =
        ap (λ o. runs_up cmp (key_of adapter) objects o x.high) starts ∙ ap (λ o. runs_up cmp (key_of adapter) objects (Some r.0) o) ends_at
        ∙ climbs k.front r.0 r.1 l.back (subst (ArePlaced objects) (sym same) placed) (subst (λ z. IsSorted cmp (map (key_of adapter) (values_at objects z))) (sym same) sorted) in
        let low_pass = all_front (λ p. meets_lower b p ≡ true) (r.0 ∷ r.1) l.back (subst (AllByRecursion (λ p. meets_lower b p ≡ true)) r.3 k.pass) in
        let high_pass = all_map (λ p e. not-false (meets_upper c p) e) (r.0 ∷ r.1) (all_back (λ p. is_beyond c p ≡ false) k.front (r.0 ∷ r.1) (subst (AllByRecursion (λ p. is_beyond c p ≡ false)) r.2 l.fail)) in
        one_segment k.front (r.0 ∷ r.1) l.back w distinct same starts ends_at (x.segment runs)
        ∙ sym (ap (filter test) (sym same)
        ∙ filter_middle test k.front (r.0 ∷ r.1) l.back (fails_left (meets_lower b) (meets_upper c) k.front k.fail) (passes_both (meets_lower b) (meets_upper c) (r.0 ∷ r.1) low_pass high_pass) (beyond_fails l.back l.pass))
    by (inr r) =
        let front_fail = all_front (λ p. meets_lower b p ≡ false) l.front r.0 (subst (AllByRecursion (λ p. meets_lower b p ≡ false)) r.1 k.fail) in
        let down = not_down rises (λ q e. first_one (λ p. meets_lower b p ≡ true) k.back q k.pass (sym low_is ∙ e)) (λ q e. last_one (λ p. meets_lower b p ≡ false) l.front q front_fail (sym high_is ∙ e)) (runs_up cmp (key_of adapter) objects x.low x.high) refl in
        x.nothing down
        ∙ sym (ap (filter test) (sym k.same)
        ∙ filter_fail test k.front k.back (fails_left (meets_lower b) (meets_upper c) k.front k.fail)
        ∙ ap (filter test) (sym (append-nil k.back))
        ∙ filter_fail test k.back [] (beyond_fails k.back (all_back (λ p. is_beyond c p ≡ true) r.0 k.back (subst (AllByRecursion (λ p. is_beyond c p ≡ true)) r.2 l.pass))))
