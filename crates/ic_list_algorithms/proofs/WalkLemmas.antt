-- These lemmas are about a walk over a list from its front, and about what the walk has found after each member.
use Rattle.std.proofs.Common.{◌≡◌, ◌+◌, ◌-◌, ◌<◌, ◌≤◌, ℕ, zero, suc, Bool, true, false, not, ◌&&◌, Option, Some, None, List, [], ◌∷◌, ◌++◌, drop, length, length-append, append_assoc, append-nil, refl, sym, ◌∙◌, ap, subst, arith, take, IsTrue, ◌↔◌}
use Rattle.std.specs.List.{AllByRecursion}
use Rattle.std.specs.Cmp.{IsStrictWeakOrder}
use Rattle.ic_link_ops.specs.Prelude.{Place, Objects, object_at, IsDistinct, first, last, Table, IsCovered, walked}
use Rattle.ic_link_ops.specs.Chains.{ListHead, IsChain, RepresentsChain}
use Rattle.ic_link_ops.proofs.Prelude.{all_map, all_both, distinct_right, first_is, last_of_push, nothing_first, stretch_through}
use Rattle.ic_list_algorithms.specs.Ordered.{IsOrdered}
use Rattle.ic_list_algorithms.specs.Walks.{test_at, HoldsNowhere, comes_after, ordered_from, are_neighbors_ordered}

-- a fact about each member of a list of places holds for a member p in the middle. `last_holds` says this of the last member of the front
pub middle_holds : (P : Place → Type 0) (front back : List Place) {p : Place} → AllByRecursion P (front ++ p ∷ back) → P p
middle_holds P [] back h = h.0
middle_holds P (x ∷ front) back h = middle_holds P front back h.1

pub last_holds : (P : Place → Type 0) (front back : List Place) {q : Place} → last front ≡ Some q → AllByRecursion P (front ++ back) → P q
last_holds P [] back e h = absurd (cc)
last_holds P (x ∷ []) back {q} e h = let same : x ≡ q = cc in subst P same h.0
last_holds P (x ∷ y ∷ front) back e h = last_holds P (y ∷ front) back e h.1

module _ {E : Type 0} (between : E → Option Place → Option Place → Type 0) where
  -- the walk has come to `current`: it has passed the members `done` of s, and the members `rest` from `current` on are left. `prev` is the last passed member
  pub record WalksTo (t : Table E) (s : List Place) (prev current : Option Place) : Type 0 where
    pub done : List Place
    pub rest : List Place
    pub parts : s ≡ done ++ rest
    pub chain : IsChain between t.entry (last done) rest None
    pub at : current ≡ first rest
    pub keeps : prev ≡ last done

module _ {E : Type 0} {between : E → Option Place → Option Place → Type 0} where
  -- at first the walk is on the first member, has passed no members, and all members of s are left
  pub walk_begins : {W : Type 0} {kept : Option Place → W} {t : Table E} {list : ListHead W} {s : List Place} {current : Option Place} → RepresentsChain between kept t list s
      → current ≡ list.head → (k : WalksTo between t s None current) × (k.done ≡ []) × (k.rest ≡ s)
  walk_begins {s = s} shown on = (record { done = []; rest = s; parts = refl; chain = shown.chain; at = on ∙ shown.head; keeps = refl }, refl, refl)

  -- at the end, when `current` is none, no members are left, and the walk has passed all members of s
  pub walk_ends : {t : Table E} {s : List Place} {prev current : Option Place} (k : WalksTo between t s prev current) → current ≡ None → (k.rest ≡ []) × (k.done ≡ s)
  walk_ends {s = s} k over =
      let none : k.rest ≡ [] = nothing_first k.rest (sym over ∙ k.at) in
      (none, sym (k.parts ∙ ap (λ (l : List Place). k.done ++ l) none ∙ append-nil k.done))

  -- if the walk is on the member p, p is the first of the members that are left, and s is the passed members, then p and then the others
  pub walk_at : {t : Table E} {s : List Place} {prev current : Option Place} {p : Place} (k : WalksTo between t s prev current) → current ≡ Some p
      → (k.rest ≡ p ∷ drop 1 k.rest) × (s ≡ k.done ++ p ∷ drop 1 k.rest)
  walk_at k on = let is = first_is k.rest (sym on ∙ k.at) in (is, k.parts ∙ ap (λ (l : List Place). k.done ++ l) is)

  -- the entry of the member p that the walk is on is between the last passed member and the next member
  pub walk_between : {t : Table E} {s : List Place} {prev current : Option Place} {p : Place} (k : WalksTo between t s prev current) → current ≡ Some p
      → between (t.entry p) (last k.done) (first (drop 1 k.rest))
  walk_between {t} {p = p} k on = (subst (λ (l : List Place). IsChain between t.entry (last k.done) l None) (walk_at k on).0 k.chain).0

  -- a fact about each member of s holds for the member p that the walk is on. `walk_held` says this of the member before p
  pub walk_holds : (P : Place → Type 0) {t : Table E} {s : List Place} {prev current : Option Place} {p : Place} (k : WalksTo between t s prev current) → current ≡ Some p
      → AllByRecursion P s → P p
  walk_holds P {p = p} k on all = middle_holds P k.done (drop 1 k.rest) (subst (AllByRecursion P) (walk_at k on).1 all)

  pub walk_held : (P : Place → Type 0) {t : Table E} {s : List Place} {prev current : Option Place} {q : Place} (k : WalksTo between t s prev current) → prev ≡ Some q
      → AllByRecursion P s → P q
  walk_held P k on all = last_holds P k.done k.rest (sym k.keeps ∙ on) (subst (AllByRecursion P) k.parts all)

  -- `leads`: the law that an entry, with the place before it, names the place after it
  module _ (step : E → Option Place → Option Place) (leads : (e : E) (b a : Option Place) → between e b a → step e b ≡ a) where
    -- one step moves the walk from the member p to the next member. Then p is passed, and the members after p are left
    pub walk_goes : {t : Table E} {s : List Place} {prev current next : Option Place} {p : Place} (k : WalksTo between t s prev current) → current ≡ Some p
        → next ≡ step (t.entry p) prev → (m : WalksTo between t s (Some p) next) × (k.rest ≡ p ∷ m.rest) × (m.done ≡ k.done ++ p ∷ [])
    walk_goes {t} {s} {p = p} k on read =
        let at = walk_at k on in
        let chain : IsChain between t.entry (last k.done) (p ∷ drop 1 k.rest) None = subst (λ (l : List Place). IsChain between t.entry (last k.done) l None) at.0 k.chain in (
          record {
            done = k.done ++ p ∷ [];
            rest = drop 1 k.rest;
            parts = at.1 ∙ sym (append_assoc k.done (p ∷ []) (drop 1 k.rest));
            chain = rw (last_of_push k.done p) chain.1;
            at = read ∙ ap (step (t.entry p)) k.keeps ∙ leads _ _ _ chain.0;
            keeps = sym (last_of_push k.done p);
          },
          at.0,
          refl,
        )

    -- the number of places to which the entries lead from `current` on is the number of members that are left
    walk_left : (t : Table E) → ((q : Place) (b a : Option Place) → between (t.entry q) b a → IsCovered t q) → {s : List Place} → IsDistinct s
        → {prev current : Option Place} (k : WalksTo between t s prev current) → length (walked step t prev current None) ≡ length k.rest
    walk_left t covered distinct {prev} {current} k =
        ap length (rw k.keeps (stretch_through step leads t covered {b = last k.done} {from = current} {to = last k.rest}
        (record { distinct = distinct_right k.done k.rest (subst IsDistinct k.parts distinct); chain = k.chain; starts = k.at; ends = refl })))

    -- each step leaves one member less
    pub walk_fewer : (t : Table E) → ((q : Place) (b a : Option Place) → between (t.entry q) b a → IsCovered t q) → {s : List Place} → IsDistinct s
        → {prev current next : Option Place} {p : Place} (k : WalksTo between t s prev current) → current ≡ Some p → next ≡ step (t.entry p) prev
        → length (walked step t (Some p) next None) < length (walked step t prev current None)
    walk_fewer t covered distinct k on read =
        let m = walk_goes k on read in
        omega (arith, walk_left t covered distinct k, walk_left t covered distinct m.0, ap length m.1)

-- if n members were passed before a step, n + 1 members are passed after the step (`one_more`). If `left` more members must be passed before a step, `left` - 1
-- must be passed after it (`one_left`)
pub one_more : (done : List Place) (p : Place) {n : ℕ} {more : List Place} → n ≡ length done → more ≡ done ++ p ∷ [] → n + 1 ≡ length more
one_more done p e m = omega (arith, e, ap length m, length-append done (p ∷ []))

pub one_left : (done : List Place) (p : Place) {n left : ℕ} {more : List Place} → n ≡ length done + left → more ≡ done ++ p ∷ [] → 1 ≤ left → n ≡ length more + (left - 1)
one_left done p e m some = omega (arith, e, some, ap length m, length-append done (p ∷ []))

-- dropping the n passed members from all members leaves `rest`. `take_passed` says that the first n members are the passed members
pub drop_passed : (done rest : List Place) (n : ℕ) → n ≡ length done → drop n (done ++ rest) ≡ rest
drop_passed [] rest n e = rw e refl
drop_passed (x ∷ done) rest n e = rw e (drop_passed done rest (length done) refl)

pub take_passed : (done rest : List Place) (n : ℕ) → n ≡ length done → take n (done ++ rest) ≡ done
take_passed [] rest n e = rw e refl
take_passed (x ∷ done) rest n e = rw e (ap (λ (l : List Place). x ∷ l) (take_passed done rest (length done) refl))

nothing_dropped : (n : ℕ) → drop {A = Place} n [] ≡ []
nothing_dropped zero = refl
nothing_dropped (suc n) = refl

pub drop_beyond : (s : List Place) (n : ℕ) → length s ≤ n → drop n s ≡ []
drop_beyond [] n h = nothing_dropped n
drop_beyond (x ∷ s) zero h = absurd (omega (arith, h))
drop_beyond (x ∷ s) (suc n) h = drop_beyond s n (omega (arith, h))

nothing_taken : (n : ℕ) → take {A = Place} n [] ≡ []
nothing_taken zero = refl
nothing_taken (suc n) = refl

pub take_beyond : (s : List Place) (n : ℕ) → length s ≤ n → take n s ≡ s
take_beyond [] n h = nothing_taken n
take_beyond (x ∷ s) zero h = absurd (omega (arith, h))
take_beyond (x ∷ s) (suc n) h = ap (λ (l : List Place). x ∷ l) (take_beyond s n (omega (arith, h)))

module _ {E : Type 0} {between : E → Option Place → Option Place → Type 0} {t : Table E} {s : List Place} {prev current : Option Place} {n : ℕ} (k : WalksTo between t s prev current) where
  -- the member at position n is `current`, if the walk has passed n members
  pub nth_here : n ≡ length k.done → current ≡ first (drop n s)
  nth_here e = k.at ∙ ap first (sym (ap (drop n) k.parts ∙ drop_passed k.done k.rest n e))

  pub nth_is : {p : Place} → current ≡ Some p → n ≡ length k.done → Some p ≡ first (drop n s)
  nth_is on e = sym on ∙ nth_here e

  -- the member right before the gap after the first n members is `prev`, if the walk has passed n members
  pub gap_here : n ≡ length k.done → prev ≡ last (take n s)
  gap_here e = k.keeps ∙ ap last (sym (ap (take n) k.parts ∙ take_passed k.done k.rest n e))

  -- the list has at most n members, if the walk has passed all members and did not come to the member at position n
  pub all_few : (left : ℕ) → current ≡ None → n ≡ length k.done + left → length s ≤ n
  all_few left over e = omega (arith, e, ap length (walk_ends k over).1)

  pub nth_beyond : current ≡ None → length s ≤ n → None ≡ first (drop n s)
  nth_beyond over few = ap first (sym (drop_beyond s n few))

  pub gap_beyond : current ≡ None → length s ≤ n → prev ≡ last (take n s)
  gap_beyond over few = k.keeps ∙ ap last ((walk_ends k over).1 ∙ sym (take_beyond s n few))

module _ (holds : Place → Bool) where
  -- if the test holds for no member of `done`, and not for p, it holds for no member of `done` followed by p
  pub nowhere_more : (done : List Place) {more : List Place} {p : Place} → HoldsNowhere holds done → holds p ≡ false → more ≡ done ++ p ∷ [] → HoldsNowhere holds more
  nowhere_more done {p = p} h here is = subst (HoldsNowhere holds) (sym is) (all_both (λ x. holds x ≡ false) done (p ∷ []) h (here, tt))

  -- if the test holds for no member of `done`, which is all of s, it holds for no member of s
  pub nowhere_all : {done s : List Place} → done ≡ s → HoldsNowhere holds done → HoldsNowhere holds s
  nowhere_all same h = subst (HoldsNowhere holds) same h

-- the test of a place p with an object v returns what the test of v returns
pub test_there : {V : Type 0} (holds : V → Bool) (objects : Objects V) (p : Place) {v : V} {b : Bool} → object_at objects p ≡ Some v → holds v ≡ b → test_at holds objects p ≡ b
test_there holds objects p is e = rw is e

module _ {X : Type 0} (lt : X → X → Bool) {answer : Bool} (prev : Option X) {rest : List X} (so_far : answer ≡ ordered_from lt prev rest) where
  -- if the next member p may come after `prev`, `answer` is whether the members after p are in order. If p may not come after `prev`, `answer` is false
  -- (`order_breaks`)
  pub order_goes : {p : X} {r : List X} → rest ≡ p ∷ r → comes_after lt prev p ≡ true → answer ≡ ordered_from lt (Some p) r
  order_goes is after = let whole = rw is at so_far in rw after at whole

  pub order_breaks : {p : X} {r : List X} → rest ≡ p ∷ r → comes_after lt prev p ≡ false → false ≡ answer
  order_breaks is after = let whole = rw is at so_far in sym (rw after at whole)

  -- at the end, when no members are left, `answer` is true
  pub order_ends : rest ≡ [] → true ≡ answer
  order_ends none = sym (rw none at so_far)

module _ {X : Type 0} (lt : X → X → Bool) where
  -- if the test is a strict weak order, and no member goes before the member right before it, no member goes before an earlier member
  module _ (order : IsStrictWeakOrder lt) where
    from_neighbors : (p : X) (s : List X) → ordered_from lt (Some p) s ≡ true → AllByRecursion (λ y. lt y p ≡ false) s × IsOrdered lt s
    from_neighbors p [] e = (tt, tt)
    from_neighbors p (x ∷ s) e = by (lt x p) refl (λ rest. from_neighbors x s rest) where
      by : (b : Bool) → lt x p ≡ b → (ordered_from lt (Some x) s ≡ true → AllByRecursion (λ y. lt y x ≡ false) s × IsOrdered lt s)
          → AllByRecursion (λ y. lt y p ≡ false) (x ∷ s) × IsOrdered lt (x ∷ s)
      by true less after =
          let both : (not (lt x p) && ordered_from lt (Some x) s) ≡ true = e in
          let never : false ≡ true = rw less at both in absurd (cc)
      by false less after =
          let both : (not (lt x p) && ordered_from lt (Some x) s) ≡ true = e in
          let k = after (rw less at both) in
          ((less, all_map (λ y h. order.chain y x p h less) s k.0), (k.0, k.1))

    to_neighbors : (prev : Option X) (s : List X) → AllByRecursion (λ y. comes_after lt prev y ≡ true) s → IsOrdered lt s → ordered_from lt prev s ≡ true
    to_neighbors prev [] h k = refl
    to_neighbors prev (x ∷ s) h k = rw (h.0, to_neighbors (Some x) s (all_map (λ y e. rw e refl) s k.0) k.1) refl

    pub in_order : (s : List X) → are_neighbors_ordered lt s ≡ true → IsOrdered lt s
    in_order [] e = tt
    in_order (x ∷ s) e = from_neighbors x s e

    all_first : (s : List X) → AllByRecursion (λ y. comes_after lt None y ≡ true) s
    all_first [] = tt
    all_first (x ∷ s) = (refl, all_first s)

    pub tells_order : {r : Bool} (s : List X) → r ≡ are_neighbors_ordered lt s → IsTrue r ↔ IsOrdered lt s
    tells_order {r} s is = ((λ yes. in_order s (sym is ∙ yes)), (λ k. is ∙ to_neighbors None s (all_first s) k))
