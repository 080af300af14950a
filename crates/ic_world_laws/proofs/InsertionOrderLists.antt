-- Sorted lists whose members with equal keys are in the order of insertion stay so when a member is inserted in order, or removed.
use Rattle.std.proofs.Common.{◌≡◌, ◌≢◌, ◌↔◌, inl, inr, Bool, true, false, not, cond, List, [], ◌∷◌, ◌++◌, map, Option, Some, None, IsSome, refl, sym, ap, ◌∙◌, subst, append-nil, true≢false, eq-eqb, ne_eqb, is_eq, is_lt, is_gt, Ordering, Less, Equal, Greater}
use Rattle.std.proofs.lemmas.List.{map-append}
use Rattle.std.proofs.lemmas.List.Elements.{filter-append, filter_map-append}
use Rattle.std.specs.Cmp.{IsTotalOrder, upto, alike_right, tied_itself}
use Rattle.std.specs.List.{AllByRecursion, filter, cons_option}
use Rattle.ic_link_ops.specs.Prelude.{Place, index_of, Objects, object_at, Cut, join, insert, IsAbsent, IsMember, IsDistinct, ArePlaced, values_at}
use Rattle.ic_link_ops.proofs.Prelude.{same_index, same_or_not, all_back, all_map, absent_left, absent_right, absent_both, absent_with, absent_without, distinct_middle}
use Rattle.ic_rbtree.specs.Prelude.{IsBorder, IsSorted, equal_at, less_at, answer_at, compared, order_of}
use Rattle.ic_rbtree.proofs.KeyLaws.{cuts_less, one_border, sorted_for, keys_more, stays_sorted, value_there}
use Rattle.ic_world.specs.Family.{same_place}
use Rattle.ic_world_laws.specs.InsertionOrder.{without}

-- ---- lists from which a place is removed
same_itself : (p : Place) → same_place p p ≡ true
same_itself p = eq-eqb (index_of p) (index_of p) refl

other_place : (q p : Place) → q ≢ p → same_place q p ≡ false
other_place q p n = ne_eqb (index_of q) (index_of p) (λ e. n (same_index q p e))

without_absent : (p : Place) (s : List Place) → IsAbsent p s → without p s ≡ s
without_absent p [] out = refl
without_absent p (x ∷ s) out =
    ap (λ b. cond (not b) (x ∷ without p s) (without p s)) (other_place x p (λ e. out.0 (sym e))) ∙ ap (λ (t : List Place). x ∷ t) (without_absent p s out.1)

without_middle : (front back : List Place) (p : Place) → IsAbsent p (front ++ back) → without p (front ++ p ∷ back) ≡ front ++ back
without_middle [] back p out = ap (λ b. cond (not b) (p ∷ without p back) (without p back)) (same_itself p) ∙ without_absent p back out
without_middle (x ∷ front) back p out =
    ap (λ b. cond (not b) (x ∷ without p (front ++ p ∷ back)) (without p (front ++ p ∷ back))) (other_place x p (λ e. out.0 (sym e)))
    ∙ ap (λ (t : List Place). x ∷ t) (without_middle front back p out.1)

-- p is absent from `without p s`. Each other place is absent from `without p s` exactly if it is absent from s
out_of_without : (p : Place) (s : List Place) → IsAbsent p (without p s)
out_of_without p [] = tt
out_of_without p (x ∷ s) = by (same_place x p) refl (out_of_without p s) where
  by : (b : Bool) → same_place x p ≡ b → IsAbsent p (without p s) → IsAbsent p (cond (not b) (x ∷ without p s) (without p s))
  by true e rest = rest
  by false e rest = ((λ same. true≢false (sym (same_itself p) ∙ ap (λ z. same_place z p) same ∙ e)), rest)

still_out : (p q : Place) (s : List Place) → IsAbsent q s → IsAbsent q (without p s)
still_out p q [] out = tt
still_out p q (x ∷ s) out = by (same_place x p) (still_out p q s out.1) where
  by : (b : Bool) → IsAbsent q (without p s) → IsAbsent q (cond (not b) (x ∷ without p s) (without p s))
  by true rest = rest
  by false rest = (out.0, rest)

was_out : (p q : Place) (s : List Place) → q ≢ p → IsAbsent q (without p s) → IsAbsent q s
was_out p q [] n out = tt
was_out p q (x ∷ s) n out = by (same_place x p) refl out (was_out p q s n) where
  by : (b : Bool) → same_place x p ≡ b → IsAbsent q (cond (not b) (x ∷ without p s) (without p s)) → (IsAbsent q (without p s) → IsAbsent q s) → (q ≢ x) × IsAbsent q s
  by true e out rest = ((λ same. true≢false (sym e ∙ ap (λ z. same_place z p) (sym same) ∙ other_place q p n)), rest out)
  by false e out rest = (out.0, rest out.1)

-- two filters, one after the other, leave the same list in either order
filter_turned : {X : Type 0} (f g : X → Bool) (s : List X) → filter f (filter g s) ≡ filter g (filter f s)
filter_turned f g [] = refl
filter_turned {X} f g (x ∷ s) = by (f x) (g x) refl refl (filter_turned f g s) where
  by : (a b : Bool) → f x ≡ a → g x ≡ b → filter f (filter g s) ≡ filter g (filter f s) → filter f (cond (g x) (x ∷ filter g s) (filter g s)) ≡ filter g (cond (f x) (x ∷ filter f s) (filter f s))
  by true true p q rest = simp (p, q) (ap (λ (t : List X). x ∷ t) rest)
  by true false p q rest = simp (p, q) rest
  by false true p q rest = simp (p, q) rest
  by false false p q rest = simp (p, q) rest

filter_none : {X : Type 0} (f : X → Bool) (s : List X) → AllByRecursion (λ x. f x ≡ false) s → filter f s ≡ []
filter_none f [] h = refl
filter_none f (x ∷ s) h = ap (λ b. cond b (x ∷ filter f s) (filter f s)) h.0 ∙ filter_none f s h.1

-- two tests that agree at each member of s filter the same members
pub filter_alike : (f g : Place → Bool) (s : List Place) → ((q : Place) → IsMember q s → f q ≡ g q) → filter f s ≡ filter g s
filter_alike f g [] same = refl
filter_alike f g (x ∷ s) same =
    ap (λ b. cond b (x ∷ filter f s) (filter f s)) (same x (λ out. out.0 refl)) ∙ ap (λ (t : List Place). cond (g x) (x ∷ t) t) (filter_alike f g s (λ q there. same q (λ out. there out.1)))

-- ---- a sorted list of keys stays sorted if one key is removed
module _ {K : Type 0} {cmp : K → K → Ordering} (total : IsTotalOrder cmp) where
  not_gt : (o : Ordering) → o ≢ Greater → is_gt o ≡ false
  not_gt Less h = refl
  not_gt Equal h = refl
  not_gt Greater h = absurd (h refl)

  is_not_gt : (o : Ordering) → is_gt o ≡ false → o ≢ Greater
  is_not_gt o h e = true≢false (sym (ap is_gt e) ∙ h)

  sorted_without : (xs : List K) (k : K) (ys : List K) → IsSorted cmp (xs ++ k ∷ ys) → IsSorted cmp (xs ++ ys)
  sorted_without [] k [] h = tt
  sorted_without [] k (b ∷ ys) h = h.1
  sorted_without (a ∷ []) k [] h = tt
  sorted_without (a ∷ []) k (b ∷ ys) h = (is_not_gt (cmp a b) (upto total a k b (not_gt (cmp a k) h.0) (not_gt (cmp k b) h.1.0)), h.1.1)
  sorted_without (a ∷ b ∷ xs) k ys h = (h.0, sorted_without (b ∷ xs) k ys h.1)

-- ---- lists that are sorted by keys, with equal keys in the order of insertion
module _ {V K : Type 0} {cmp : K → K → Ordering} (total : IsTotalOrder cmp) (key_of : V → K) (objects : Objects V) where
  abbrev pub has : K → Place → Bool
  has key = equal_at (compared (order_of cmp key_of key) objects)

  abbrev pub IsSortedAt : List Place → Type 0
  IsSortedAt s = IsSorted cmp (map key_of (values_at objects s))

  abbrev pub InOrder : List Place → List Place → Type 0
  InOrder e s = IsSortedAt s × ((p : Place) → IsAbsent p s ↔ IsAbsent p e) × ((key : K) → filter (has key) s ≡ filter (has key) e)

  pub nothing_in_order : InOrder [] []
  nothing_in_order = (tt, (λ p. ((λ h. h), (λ h. h))), (λ key. refl))

  -- if `key` is equal to `own`, an object whose key is greater than `own` has no key equal to `key`
  greater_not : (key own : K) → is_eq (cmp key own) ≡ true → (o : Option V) → is_lt (answer_at (order_of cmp key_of own) o) ≡ true → is_eq (answer_at (order_of cmp key_of key) o) ≡ false
  greater_not key own same None less = refl
  greater_not key own same (Some v) less = ap is_eq (total.congr key own (key_of v) (level (cmp key own) same)) ∙ apart (cmp own (key_of v)) less where
    level : (o : Ordering) → is_eq o ≡ true → o ≡ Equal
    level Less h = absurd (true≢false (sym h))
    level Equal h = refl
    level Greater h = absurd (true≢false (sym h))

    apart : (o : Ordering) → is_lt o ≡ true → is_eq o ≡ false
    apart Less h = refl
    apart Equal h = absurd (true≢false (sym h))
    apart Greater h = absurd (true≢false (sym h))

  -- ONE MEMBER IS INSERTED IN ORDER: the list stays sorted, and members with equal keys stay in the order of insertion
  module _ (p : Place) {v : V} (is : object_at objects p ≡ Some v) (gap : Cut) (e : List Place) (placed : ArePlaced objects (join gap))
      (border : IsBorder (less_at (compared (order_of cmp key_of (key_of v)) objects)) gap) (ordered : InOrder e (join gap)) where
    abbrev at : Place → Ordering
    at = compared (order_of cmp key_of (key_of v)) objects

    all_greater : AllByRecursion (λ q. less_at at q ≡ true) gap.back
    all_greater =
        let c = cuts_less (sorted_for total key_of objects (key_of v) (join gap) placed ordered.0) in
        let r = one_border (less_at at) c.front c.back gap.front gap.back c.same c.fail c.pass border.fails border.passes in
        subst (AllByRecursion (λ q. less_at at q ≡ true)) (sym r.1) c.pass

    put_alike : (key : K) (b : Bool) → has key p ≡ b → filter (has key) (gap.front ++ p ∷ gap.back) ≡ filter (has key) (e ++ p ∷ [])
    put_alike key b is_b =
        filter-append (has key) gap.front (p ∷ gap.back)
        ∙ by b is_b
        ∙ sym (filter-append (has key) e (p ∷ []))
      where
        whole : filter (has key) gap.front ++ filter (has key) gap.back ≡ filter (has key) e
        whole = sym (filter-append (has key) gap.front gap.back) ∙ ordered.2 key

        by : (b : Bool) → has key p ≡ b → filter (has key) gap.front ++ cond (has key p) (p ∷ filter (has key) gap.back) (filter (has key) gap.back) ≡ filter (has key) e ++ cond (has key p) (p ∷ []) []
        by false n =
            ap (λ x. filter (has key) gap.front ++ cond x (p ∷ filter (has key) gap.back) (filter (has key) gap.back)) n
            ∙ whole ∙ sym (append-nil (filter (has key) e))
            ∙ sym (ap (λ x. filter (has key) e ++ cond x (p ∷ []) []) n)
        by true y =
            let equal : is_eq (cmp key (key_of v)) ≡ true = sym (ap (λ o. is_eq (answer_at (order_of cmp key_of key) o)) is) ∙ y in
            let none : filter (has key) gap.back ≡ [] = filter_none (has key) gap.back (all_map (λ q less. greater_not key (key_of v) equal (object_at objects q) less) gap.back all_greater) in
            let front : filter (has key) gap.front ≡ filter (has key) e = sym (append-nil (filter (has key) gap.front)) ∙ ap (λ t. filter (has key) gap.front ++ t) (sym none) ∙ whole in
            ap (λ x. filter (has key) gap.front ++ cond x (p ∷ filter (has key) gap.back) (filter (has key) gap.back)) y
            ∙ ap (λ t. filter (has key) gap.front ++ p ∷ t) none
            ∙ ap (λ t. t ++ p ∷ []) front
            ∙ sym (ap (λ x. filter (has key) e ++ cond x (p ∷ []) []) y)

    pub put_in_order : InOrder (e ++ p ∷ []) (insert gap p)
    put_in_order = (
      stays_sorted total key_of objects p is gap placed ordered.0 border,
      (λ q. (
        (λ out. absent_both q e (p ∷ []) ((ordered.1 q).0 (absent_without gap.front gap.back p q out)) ((absent_right q gap.front (p ∷ gap.back) out).0, tt)),
        (λ out. absent_with gap.front gap.back p q (absent_right q e (p ∷ []) out).0 ((ordered.1 q).1 (absent_left q e (p ∷ []) out))),
      )),
      (λ key. put_alike key (has key p) refl),
    )

  -- ONE MEMBER IS REMOVED: the list stays sorted, and members with equal keys stay in the order of insertion
  pub taken_in_order : (front : List Place) (p : Place) (back : List Place) (e : List Place) → ArePlaced objects (front ++ p ∷ back) → IsDistinct (front ++ p ∷ back) → InOrder e (front ++ p ∷ back)
      → InOrder (without p e) (front ++ back)
  taken_in_order front p back e placed distinct ordered = (
    sorted,
    (λ q. elim (same_or_not q p) [
      | inl same ↦ (
        (λ _. subst (λ z. IsAbsent z (without p e)) (sym same) (out_of_without p e)),
        (λ _. subst (λ z. IsAbsent z (front ++ back)) (sym same) away),
      )
      | inr n ↦ (
        (λ out. still_out p q e ((ordered.1 q).0 (absent_with front back p q n out))),
        (λ out. absent_without front back p q ((ordered.1 q).1 (was_out p q e n out))),
      )
    ]),
    (λ key.
        ap (filter (has key)) (sym (without_middle front back p away))
        ∙ filter_turned (has key) (λ q. not (same_place q p)) (front ++ p ∷ back)
        ∙ ap (without p) (ordered.2 key)
        ∙ filter_turned (λ q. not (same_place q p)) (has key) e),
  )
    where
      away : IsAbsent p (front ++ back)
      away = distinct_middle front back p distinct

      there : (v : V) × (object_at objects p ≡ Some v)
      there = value_there total key_of objects (object_at objects p) (all_back (λ q. IsSome (object_at objects q)) front (p ∷ back) placed).0

      split : (s t : List Place) → map key_of (values_at objects (s ++ t)) ≡ map key_of (values_at objects s) ++ map key_of (values_at objects t)
      split s t = ap (map key_of) (filter_map-append (object_at objects) s t) ∙ map-append key_of (values_at objects s) (values_at objects t)

      sorted : IsSortedAt (front ++ back)
      sorted = subst (IsSorted cmp) (sym (split front back)) (sorted_without total (map key_of (values_at objects front)) (key_of there.0) (map key_of (values_at objects back))
          (subst (IsSorted cmp) (split front (p ∷ back) ∙ ap (λ t. map key_of (values_at objects front) ++ t) (keys_more total key_of objects p back there.1)) ordered.0))

-- two values have equal keys, or there is no value at either place
abbrev pub HaveEqualKeys : {V K : Type 0} → (K → K → Ordering) → (V → K) → Option V → Option V → Type 0
HaveEqualKeys cmp key_of None None = Unit {0}
HaveEqualKeys cmp key_of (Some v) (Some w) = cmp (key_of v) (key_of w) ≡ Equal
HaveEqualKeys cmp key_of _ _ = ⊥

-- two lists of keys are equally long, and their keys are equal one by one
abbrev AreEqual : {K : Type 0} → (K → K → Ordering) → List K → List K → Type 0
AreEqual cmp [] [] = Unit {0}
AreEqual cmp (k ∷ ks) (l ∷ ls) = (cmp k l ≡ Equal) × AreEqual cmp ks ls
AreEqual cmp _ _ = ⊥

-- IF THE OBJECTS CHANGE, but each member has a key equal to its old key, a list in order stays in order
module _ {V K : Type 0} {cmp : K → K → Ordering} (total : IsTotalOrder cmp) (key_of : V → K) where
  pub equal_keys_itself : (o : Option V) → HaveEqualKeys cmp key_of o o
  equal_keys_itself None = tt
  equal_keys_itself (Some v) = tied_itself total (key_of v)

  equal_answers : (key : K) (a b : Option V) → HaveEqualKeys cmp key_of a b → answer_at (order_of cmp key_of key) a ≡ answer_at (order_of cmp key_of key) b
  equal_answers key None None h = refl
  equal_answers key (Some v) (Some w) h = alike_right total (key_of v) (key_of w) key h
  equal_answers key None (Some w) h = absurd h
  equal_answers key (Some v) None h = absurd h

  sorted_equal : (ks ls : List K) → AreEqual cmp ks ls → IsSorted cmp ls → IsSorted cmp ks
  sorted_equal [] ls h sorted = tt
  sorted_equal (k ∷ []) ls h sorted = tt
  sorted_equal (k ∷ m ∷ ks) (l ∷ n ∷ ls) h sorted =
      ((λ greater. sorted.0 (sym (total.congr k l n h.0) ∙ sym (alike_right total m n k h.1.0) ∙ greater)), sorted_equal (m ∷ ks) (n ∷ ls) h.1 sorted.1)
  sorted_equal (k ∷ m ∷ ks) (l ∷ []) h sorted = absurd h.1
  sorted_equal (k ∷ m ∷ ks) [] h sorted = absurd h

  keys_equal : (old new : Objects V) (s : List Place) → ((q : Place) → IsMember q s → HaveEqualKeys cmp key_of (object_at new q) (object_at old q)) → AreEqual cmp (map key_of (values_at new s)) (map key_of (values_at old s))
  keys_equal old new [] same = tt
  keys_equal old new (x ∷ s) same = by (object_at new x) (object_at old x) (same x (λ out. out.0 refl)) (keys_equal old new s (λ q there. same q (λ out. there out.1))) where
    by : (a b : Option V) → HaveEqualKeys cmp key_of a b → AreEqual cmp (map key_of (values_at new s)) (map key_of (values_at old s)) → AreEqual cmp (map key_of (cons_option a (values_at new s))) (map key_of (cons_option b (values_at old s)))
    by None None h rest = rest
    by (Some v) (Some w) h rest = (h, rest)
    by None (Some w) h rest = absurd h
    by (Some v) None h rest = absurd h

  pub equal_in_order : (old new : Objects V) (e s : List Place) → ((q : Place) → IsMember q s → HaveEqualKeys cmp key_of (object_at new q) (object_at old q)) → InOrder total key_of old e s → InOrder total key_of new e s
  equal_in_order old new e s same ordered = (
    sorted_equal (map key_of (values_at new s)) (map key_of (values_at old s)) (keys_equal old new s same) ordered.0,
    ordered.1,
    (λ key.
        let test = λ (q : Place) (h : HaveEqualKeys cmp key_of (object_at new q) (object_at old q)). ap is_eq (equal_answers key (object_at new q) (object_at old q) h) in
        filter_alike (has total key_of new key) (has total key_of old key) s (λ q there. test q (same q there))
        ∙ ordered.2 key
        ∙ sym (filter_alike (has total key_of new key) (has total key_of old key) e (λ q there. test q (same q (λ out. there ((ordered.1 q).0 out)))))),
  )

  -- if the objects change, but each member has its old value, a list in order stays in order
  pub same_in_order : (old new : Objects V) (e s : List Place) → ((q : Place) → IsMember q s → object_at new q ≡ object_at old q) → InOrder total key_of old e s → InOrder total key_of new e s
  same_in_order old new e s same = equal_in_order old new e s (λ q there. subst (λ o. HaveEqualKeys cmp key_of o (object_at old q)) (sym (same q there)) (equal_keys_itself (object_at old q)))
