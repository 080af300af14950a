-- Laws for callers: in a sorted sequence, the border of a key or of a bound is the first or the last of the members that a filter keeps.
use Rattle.std.proofs.Common.{◌≡◌, ◌≢◌, Bool, true, false, cond, Option, Some, None, List, [], ◌∷◌, ◌++◌, map, IsSome, refl, sym, ap, ◌∙◌, subst, append_assoc, append-nil, true≢false, Ordering, Less, Equal, Greater}
use Rattle.std.proofs.lemmas.Bool.{not-true, not-false}
use Rattle.std.specs.Cmp.{IsTotalOrder, alike_right, upto}
use Rattle.std.specs.List.{AllByRecursion, filter, cons_option}
use Rattle.std.specs.Ordering.{is_eq, is_lt, is_le, is_gt, ordering_reverse}
use Rattle.ic_link_ops.specs.Prelude.{Place, Objects, object_at, Cut, join, insert, first, last, ArePlaced, values_at}
use Rattle.ic_link_ops.proofs.Prelude.{none_not, all_both, all_map}
use Rattle.ic_rbtree.specs.declared.keys.key_adapter.Bound.{Bound}
use Rattle.ic_rbtree.specs.Prelude.{IsBorder, IsLowerBorder, IsUpperBorder, Finds, IsSorted, IsSortedFor, equal_at, at_most_at, less_at, if_passes, answer_at, compared, order_of, meets_lower, meets_upper, is_beyond}

-- a test cuts the sequence s if all members before some gap fail the test, and all members after this gap pass
pub record Cuts (test : Place → Bool) (s : List Place) : Type 0 where
  pub front : List Place
  pub back : List Place
  pub same : front ++ back ≡ s
  pub fail : AllByRecursion (λ p. test p ≡ false) front
  pub pass : AllByRecursion (λ p. test p ≡ true) back

-- what holds for all members of a sequence holds for the last member of the part at its start
pub last_all : {P : Place → Type 0} (p : Place) (x y : List Place) → AllByRecursion P (p ∷ x ++ y) → (q : Place) × (last (p ∷ x) ≡ Some q) × P q
last_all p [] y h = (p, refl, h.0)
last_all p (z ∷ x) y h = last_all z x y h.1

tail_last : (p : Place) (x : List Place) (q : Place) → last x ≡ Some q → last (p ∷ x) ≡ Some q
tail_last p [] q e = absurd (none_not q e)
tail_last p (z ∷ x) q e = e

pub cons_head : (p q : Place) (s t : List Place) → p ∷ s ≡ q ∷ t → (p ≡ q) × (s ≡ t)
cons_head p q s t e = (ap (λ l. head_or p l) e, ap tail_of e) where
  head_or : Place → List Place → Place
  head_or d [] = d
  head_or d (x ∷ l) = x

  tail_of : List Place → List Place
  tail_of [] = []
  tail_of (x ∷ l) = l

-- THE BORDER of a test that cuts a sequence is the gap where the test cuts
pub one_border : (test : Place → Bool) (f b x y : List Place) → f ++ b ≡ x ++ y → AllByRecursion (λ p. test p ≡ false) f → AllByRecursion (λ p. test p ≡ true) b
    → ((q : Place) → last x ≡ Some q → test q ≡ false) → ((q : Place) → first y ≡ Some q → test q ≡ true) → (x ≡ f) × (y ≡ b)
one_border test [] b [] y e hf hb fails passes = (refl, sym e)
one_border test [] b (p ∷ x) y e hf hb fails passes =
    let k = last_all p x y (subst (AllByRecursion (λ q. test q ≡ true)) e hb) in absurd (true≢false (sym k.2 ∙ fails k.0 k.1))
one_border test (a ∷ f) b [] y e hf hb fails passes = absurd (true≢false (sym (passes a (ap first (sym e))) ∙ hf.0))
one_border test (a ∷ f) b (p ∷ x) y e hf hb fails passes =
    let k = cons_head a p (f ++ b) (x ++ y) e in
    let r = one_border test f b x y k.1 hf.1 hb (λ q last_is. fails q (tail_last p x q last_is)) passes in
    (sym (ap (λ z. z ∷ x) k.0) ∙ ap (λ z. a ∷ z) r.0, r.1)

-- a filter by a test that all members pass keeps all members
pub filter_pass : {X : Type 0} (test : X → Bool) (s : List X) → AllByRecursion (λ p. test p ≡ true) s → filter test s ≡ s
filter_pass test [] h = refl
filter_pass test (p ∷ s) h = ap (λ x. cond x (p ∷ filter test s) (filter test s)) h.0 ∙ ap (λ t. p ∷ t) (filter_pass test s h.1)

pub filter_fail : {X : Type 0} (test : X → Bool) (s t : List X) → AllByRecursion (λ p. test p ≡ false) s → filter test (s ++ t) ≡ filter test t
filter_fail test [] t h = refl
filter_fail test (p ∷ s) t h = ap (λ x. cond x (p ∷ filter test (s ++ t)) (filter test (s ++ t))) h.0 ∙ filter_fail test s t h.1

pub filter_front : {X : Type 0} (test : X → Bool) (s t : List X) → AllByRecursion (λ p. test p ≡ true) s → AllByRecursion (λ p. test p ≡ false) t → filter test (s ++ t) ≡ s
filter_front test [] t hs ht = ap (filter test) (sym (append-nil t)) ∙ filter_fail test t [] ht
filter_front test (p ∷ s) t hs ht = ap (λ x. cond x (p ∷ filter test (s ++ t)) (filter test (s ++ t))) hs.0 ∙ ap (λ l. p ∷ l) (filter_front test s t hs.1 ht)

-- A LOWER BORDER of a bound that cuts the sequence is the first of the members that meet the bound
pub lower_is : {b : Bound (Place → Ordering)} {s : List Place} {o : Option Place} → Cuts (meets_lower b) s → IsLowerBorder b s o → o ≡ first (filter (meets_lower b) s)
lower_is {b} {s} {o} k x =
    let r = one_border (meets_lower b) k.front k.back x.gap.front x.gap.back (k.same ∙ sym x.same) k.fail k.pass x.border.fails x.border.passes in
    x.before ∙ ap first r.1 ∙ sym (ap first (ap (filter (meets_lower b)) (sym k.same) ∙ filter_fail (meets_lower b) k.front k.back k.fail ∙ filter_pass (meets_lower b) k.back k.pass))

-- an upper border of a bound that cuts the sequence is the last of the members that meet the bound
pub upper_is : {b : Bound (Place → Ordering)} {s : List Place} {o : Option Place} → Cuts (is_beyond b) s → IsUpperBorder b s o → o ≡ last (filter (meets_upper b) s)
upper_is {b} {s} {o} k x =
    let r = one_border (is_beyond b) k.front k.back x.gap.front x.gap.back (k.same ∙ sym x.same) k.fail k.pass x.border.fails x.border.passes in
    x.after ∙ ap last r.0 ∙ sym (ap last (ap (filter (meets_upper b)) (sym k.same)
    ∙ filter_front (meets_upper b) k.front k.back (all_map (λ p h. not-false (meets_upper b p) h) k.front k.fail) (all_map (λ p h. not-true (meets_upper b p) h) k.back k.pass)))

-- a sequence that is sorted for the searched key is cut by two tests: whether the key is at most the member, and whether the key is less than the member
module _ {at : Place → Ordering} {s : List Place} (sorted : IsSortedFor at s) where
  abbrev pub cuts_at_most : Cuts (at_most_at at) s
  cuts_at_most = record {
    front = sorted.smaller;
    back = sorted.equal ++ sorted.larger;
    same = sorted.same;
    fail = all_map (λ p h. ap is_le h) sorted.smaller sorted.is_greater;
    pass = all_both (λ p. at_most_at at p ≡ true) sorted.equal sorted.larger (all_map (λ p h. ap is_le h) sorted.equal sorted.is_equal) (all_map (λ p h. ap is_le h) sorted.larger sorted.is_less);
  }

  abbrev pub cuts_less : Cuts (less_at at) s
  cuts_less = record {
    front = sorted.smaller ++ sorted.equal;
    back = sorted.larger;
    same = append_assoc sorted.smaller sorted.equal sorted.larger ∙ sorted.same;
    fail = all_both (λ p. less_at at p ≡ false) sorted.smaller sorted.equal (all_map (λ p h. ap is_lt h) sorted.smaller sorted.is_greater) (all_map (λ p h. ap is_lt h) sorted.equal sorted.is_equal);
    pass = all_map (λ p h. ap is_lt h) sorted.larger sorted.is_less;
  }

  -- THE SEARCH FINDS the first member that is equal to the searched key
  pub found_is : {o : Option Place} → Finds at s o → o ≡ first (filter (equal_at at) s)
  found_is x =
      let k = cuts_at_most in
      let r = one_border (at_most_at at) k.front k.back x.gap.front x.gap.back (k.same ∙ sym x.same) k.fail k.pass x.border.fails x.border.passes in
      x.answer ∙ ap (λ t. if_passes (equal_at at) (first t)) r.1 ∙ by sorted.equal sorted.larger sorted.is_equal sorted.is_less
      ∙ sym (ap first (ap (filter (equal_at at)) (sym sorted.same) ∙ filter_fail (equal_at at) sorted.smaller (sorted.equal ++ sorted.larger) (all_map (λ p h. ap is_eq h) sorted.smaller sorted.is_greater)
      ∙ filter_front (equal_at at) sorted.equal sorted.larger (all_map (λ p h. ap is_eq h) sorted.equal sorted.is_equal) (all_map (λ p h. ap is_eq h) sorted.larger sorted.is_less)))
    where
      by : (equal larger : List Place) → AllByRecursion (λ p. at p ≡ Equal) equal → AllByRecursion (λ p. at p ≡ Less) larger → if_passes (equal_at at) (first (equal ++ larger)) ≡ first equal
      by [] [] he hl = refl
      by [] (p ∷ larger) he hl = ap (λ o. cond (is_eq o) (Some p) None) hl.0
      by (p ∷ equal) larger he hl = ap (λ o. cond (is_eq o) (Some p) None) he.0

-- A SEQUENCE SORTED by its members' keys is sorted for every searched key
module _ {V K : Type 0} {cmp : K → K → Ordering} (total : IsTotalOrder cmp) (key_of : V → K) (objects : Objects V) where
  pub keys_more : (p : Place) (s : List Place) {v : V} → object_at objects p ≡ Some v → map key_of (values_at objects (p ∷ s)) ≡ key_of v ∷ map key_of (values_at objects s)
  keys_more p s is = ap (λ o. map key_of (cons_option o (values_at objects s))) is

  pub value_there : (o : Option V) → IsSome o → (v : V) × (o ≡ Some v)
  value_there None e = absurd (true≢false (sym e))
  value_there (Some v) e = (v, refl)

  not_greater : (o : Ordering) → o ≢ Greater → is_gt o ≡ false
  not_greater Less h = refl
  not_greater Equal h = refl
  not_greater Greater h = absurd (h refl)

  -- if the key l is not less than the key k, and an object's key is not less than l, the object's key is not less than k
  follows : (k l : K) → is_gt (cmp k l) ≡ false → (o : Option V) → is_gt (answer_at (order_of cmp key_of l) o) ≡ false → is_gt (answer_at (order_of cmp key_of k) o) ≡ false
  follows k l h None e = refl
  follows k l h (Some v) e = upto total k l (key_of v) h e

  pub none_less : (k : K) (s : List Place) → ArePlaced objects s → IsSorted cmp (k ∷ map key_of (values_at objects s)) → AllByRecursion (λ p. is_gt (compared (order_of cmp key_of k) objects p) ≡ false) s
  none_less k [] placed sorted = tt
  none_less k (p ∷ s) placed sorted =
      let v = value_there (object_at objects p) placed.0 in
      let all : IsSorted cmp (k ∷ key_of v.0 ∷ map key_of (values_at objects s)) = subst (λ l. IsSorted cmp (k ∷ l)) (keys_more p s v.1) sorted in
      let here : is_gt (cmp k (key_of v.0)) ≡ false = not_greater (cmp k (key_of v.0)) all.0 in (
        ap (λ o. is_gt (answer_at (order_of cmp key_of k) o)) v.1 ∙ here,
        all_map (λ q h. follows k (key_of v.0) here (object_at objects q) h) s (none_less (key_of v.0) s placed.1 all.1),
      )

  -- if the key k is less than the key l, and an object's key is not less than l, then k is less than the object's key
  less_on : (k l : K) → cmp k l ≡ Less → (o : Option V) → is_gt (answer_at (order_of cmp key_of l) o) ≡ false → answer_at (order_of cmp key_of k) o ≡ Less
  less_on k l h None e = refl
  less_on k l h (Some v) e = by (cmp l (key_of v)) refl e where
    by : (r : Ordering) → cmp l (key_of v) ≡ r → is_gt r ≡ false → cmp k (key_of v) ≡ Less
    by Less is e = total.trans k l (key_of v) h is
    by Equal is e = sym (alike_right total l (key_of v) k is) ∙ h
    by Greater is e = absurd (true≢false e)

  level_on : (k l : K) → cmp k l ≡ Equal → (o : Option V) → is_gt (answer_at (order_of cmp key_of l) o) ≡ false → is_gt (answer_at (order_of cmp key_of k) o) ≡ false
  level_on k l h None e = refl
  level_on k l h (Some v) e = ap is_gt (total.congr k l (key_of v) h) ∙ e

  pub sorted_tail : (l : K) (keys : List K) → IsSorted cmp (l ∷ keys) → IsSorted cmp keys
  sorted_tail l [] h = tt
  sorted_tail l (m ∷ keys) h = h.1

  pub sorted_for : (k : K) (s : List Place) → ArePlaced objects s → IsSorted cmp (map key_of (values_at objects s)) → IsSortedFor (compared (order_of cmp key_of k) objects) s
  sorted_for k [] placed sorted = record { smaller = []; equal = []; larger = []; same = refl; is_greater = tt; is_equal = tt; is_less = tt }
  sorted_for k (p ∷ s) placed sorted =
      let v = value_there (object_at objects p) placed.0 in
      let all : IsSorted cmp (key_of v.0 ∷ map key_of (values_at objects s)) = subst (IsSorted cmp) (keys_more p s v.1) sorted in
      by (cmp k (key_of v.0)) (ap (answer_at (order_of cmp key_of k)) v.1) refl (none_less (key_of v.0) s placed.1 all) (sorted_for k s placed.1 (sorted_tail (key_of v.0) (map key_of (values_at objects s)) all))
    where
      by : {l : K} (r : Ordering) → compared (order_of cmp key_of k) objects p ≡ cmp k l → cmp k l ≡ r → AllByRecursion (λ q. is_gt (compared (order_of cmp key_of l) objects q) ≡ false) s
          → IsSortedFor (compared (order_of cmp key_of k) objects) s → IsSortedFor (compared (order_of cmp key_of k) objects) (p ∷ s)
      by Greater here is rest x = record {
        smaller = p ∷ x.smaller;
        equal = x.equal;
        larger = x.larger;
        same = ap (λ t. p ∷ t) x.same;
        is_greater = (here ∙ is, x.is_greater);
        is_equal = x.is_equal;
        is_less = x.is_less;
      }
      by {l} Less here is rest x = record {
        smaller = [];
        equal = [];
        larger = p ∷ s;
        same = refl;
        is_greater = tt;
        is_equal = tt;
        is_less = (here ∙ is, all_map (λ q h. less_on k l is (object_at objects q) h) s rest);
      }
      by {l} Equal here is rest x = level x.smaller x.equal x.larger x.same x.is_greater x.is_equal x.is_less (all_map (λ q h. level_on k l is (object_at objects q) h) s rest) where
        level : (smaller equal larger : List Place) → smaller ++ (equal ++ larger) ≡ s → AllByRecursion (λ q. compared (order_of cmp key_of k) objects q ≡ Greater) smaller
            → AllByRecursion (λ q. compared (order_of cmp key_of k) objects q ≡ Equal) equal → AllByRecursion (λ q. compared (order_of cmp key_of k) objects q ≡ Less) larger
            → AllByRecursion (λ q. is_gt (compared (order_of cmp key_of k) objects q) ≡ false) s → IsSortedFor (compared (order_of cmp key_of k) objects) (p ∷ s)
        level [] equal larger same hs he hl none = record {
          smaller = [];
          equal = p ∷ equal;
          larger = larger;
          same = ap (λ t. p ∷ t) same;
          is_greater = tt;
          is_equal = (here ∙ is, he);
          is_less = hl;
        }
        level (q ∷ smaller) equal larger same hs he hl none =
            let first_not = subst (AllByRecursion (λ z. is_gt (compared (order_of cmp key_of k) objects z) ≡ false)) (sym same) none in absurd (true≢false (sym (ap is_gt hs.0) ∙ first_not.0))

  -- AN INSERT IN ORDER keeps a sorted sequence sorted: a key that is not greater than the first key can be put before it
  two : (k l : K) (q : Place) (s : List Place) {v : V} → object_at objects q ≡ Some v → key_of v ≡ l → cmp k l ≢ Greater → IsSorted cmp (map key_of (values_at objects (q ∷ s))) → IsSorted cmp (k ∷ map key_of (values_at objects (q ∷ s)))
  two k l q s {v} is same h sorted =
      subst (λ t. IsSorted cmp (k ∷ t)) (sym (keys_more q s is)) (subst (λ z. cmp k z ≢ Greater) (sym same) h, subst (IsSorted cmp) (keys_more q s is) sorted)

  less_not_greater : (o : Ordering) → is_lt o ≡ true → o ≢ Greater
  less_not_greater o e g = true≢false (sym e ∙ ap is_lt g)

  turned_not_greater : (k l : K) → is_lt (cmp k l) ≡ false → cmp l k ≢ Greater
  turned_not_greater k l e g = true≢false (sym (ap is_lt (total.antisymm k l ∙ ap ordering_reverse g)) ∙ e)

  module _ (p : Place) {v : V} (is : object_at objects p ≡ Some v) where
    stays : (front back : List Place) → ArePlaced objects (front ++ back) → IsSorted cmp (map key_of (values_at objects (front ++ back)))
        → ((q : Place) → last front ≡ Some q → less_at (compared (order_of cmp key_of (key_of v)) objects) q ≡ false) → ((q : Place) → first back ≡ Some q → less_at (compared (order_of cmp key_of (key_of v)) objects) q ≡ true)
        → IsSorted cmp (map key_of (values_at objects (front ++ p ∷ back)))
    stays [] [] placed sorted fails passes = subst (IsSorted cmp) (sym (keys_more p [] is)) tt
    stays [] (q ∷ back) placed sorted fails passes =
        let u = value_there (object_at objects q) placed.0 in
        let less : is_lt (cmp (key_of v) (key_of u.0)) ≡ true = sym (ap (λ o. is_lt (answer_at (order_of cmp key_of (key_of v)) o)) u.1) ∙ passes q refl in
        subst (IsSorted cmp) (sym (keys_more p (q ∷ back) is)) (two (key_of v) (key_of u.0) q back u.1 refl (less_not_greater (cmp (key_of v) (key_of u.0)) less) sorted)
    stays (q ∷ []) back placed sorted fails passes =
        let u = value_there (object_at objects q) placed.0 in
        let less : is_lt (cmp (key_of v) (key_of u.0)) ≡ false = sym (ap (λ o. is_lt (answer_at (order_of cmp key_of (key_of v)) o)) u.1) ∙ fails q refl in
        let tail = sorted_tail (key_of u.0) (map key_of (values_at objects back)) (subst (IsSorted cmp) (keys_more q back u.1) sorted) in
        subst (IsSorted cmp) (sym (keys_more q (p ∷ back) u.1))
        (two (key_of u.0) (key_of v) p back is refl (turned_not_greater (key_of v) (key_of u.0) less) (stays [] back placed.1 tail (λ z e. absurd (none_not z e)) passes))
    stays (q ∷ r ∷ front) back placed sorted fails passes =
        let u = value_there (object_at objects q) placed.0 in
        let w = value_there (object_at objects r) placed.1.0 in
        let all : IsSorted cmp (key_of u.0 ∷ map key_of (values_at objects (r ∷ front ++ back))) = subst (IsSorted cmp) (keys_more q (r ∷ front ++ back) u.1) sorted in
        let both : IsSorted cmp (key_of u.0 ∷ key_of w.0 ∷ map key_of (values_at objects (front ++ back))) = subst (λ t. IsSorted cmp (key_of u.0 ∷ t)) (keys_more r (front ++ back) w.1) all in
        subst (IsSorted cmp) (sym (keys_more q (r ∷ front ++ p ∷ back) u.1))
        (two (key_of u.0) (key_of w.0) r (front ++ p ∷ back) w.1 refl both.0
        (stays (r ∷ front) back placed.1 (sorted_tail (key_of u.0) (map key_of (values_at objects (r ∷ front ++ back))) all) (λ z e. fails z e) passes))

    pub stays_sorted : (gap : Cut) → ArePlaced objects (join gap) → IsSorted cmp (map key_of (values_at objects (join gap))) → IsBorder (less_at (compared (order_of cmp key_of (key_of v)) objects)) gap
        → IsSorted cmp (map key_of (values_at objects (insert gap p)))
    stays_sorted gap placed sorted border = stays gap.front gap.back placed sorted border.fails border.passes
