-- Lemmas about circles of places: a circle can be read from each of its places, a place can be removed or inserted, and two different circles share
-- no place.
use Rattle.std.proofs.Common.{◌≡◌, ◌≢◌, Option, Some, None, IsSome, List, [], ◌∷◌, ◌++◌, Bool, true, false, refl, sym, subst, ◌∙◌, ap, append-nil, ◌⊎◌, inl, inr, eqb, eqb-true, eq-eqb}
use Rattle.ic_link_ops.specs.Prelude.{Place, same_word, IsAbsent, IsMember, IsDisjoint, first_or, last_or, first, last, but_last, Table, LinksAlso, ChangesOnly, Ends}
use Rattle.ic_unsafe_ref.proofs.PlaceLemmas.{same_or_not}
use Rattle.ic_link_ops.specs.Turns.{TurnsAfter, TurnsBefore}
use Rattle.ic_link_ops.specs.LinkedList.{Neighbors, neighbors_at, IsBetween, IsChain}
use Rattle.ic_link_ops.specs.LinkedList as doubly
use Rattle.ic_link_ops.proofs.SequenceLemmas.{IsOutside, last_outside, split_last, absent_both, member_split, absent_turned, last_or-append, distinct_disjoint, distinct_left, distinct_right, distinct_splice, disjoint_sym, last_not, first_not, none_not, some_same}
use Rattle.ic_link_ops.proofs.Chains.{chain_kept, chain_cut, chain_glue, chain_last, chain_first, chain_absent, chain_beside, last_between}
use Rattle.ic_link_ops.proofs.DoublyLists.{between_linked}
use Rattle.ic_ring.specs.Rings.{IsCircle}

-- Lemmas about places outside a chain. `next_out` and `prev_out` say that a place q is not in the chain s, if the next or the previous place of q is not in s
outside_tail : (a : Option Place) (x : Place) (s : List Place) → IsOutside a (x ∷ s) → IsOutside a s
outside_tail None x s out = tt
outside_tail (Some q) x s out = out.1

first_out : (s : List Place) (a e : Option Place) → a ≢ e → IsOutside a s → first_or s e ≢ a
first_out [] a e other out h = other (sym h)
first_out (x ∷ s) None e other out h = none_not x (sym h)
first_out (x ∷ s) (Some q) e other out h = out.0 (sym (some_same h))

last_is_some : (x : Place) (s : List Place) → IsSome (last_or (Some x) s)
last_is_some x [] = refl
last_is_some x (y ∷ s) = last_is_some y s

module _ {E : Type 0} (n : E → Neighbors) (t : Place → E) where
  next_out : (b e : Option Place) (s : List Place) (a : Option Place) {q : Place} → IsChain n t b s e → a ≢ e → IsOutside a s
      → (n (t q)).next ≡ a → IsAbsent q s
  next_out b e [] a c other out leads = tt
  next_out b e (x ∷ s) a {q} c other out leads = (
    (λ (same : q ≡ x). first_out s a e other (outside_tail a x s out) (sym c.0.next ∙ ap (λ z. (n (t z)).next) (sym same) ∙ leads)),
    next_out (Some x) e s a c.1 other (outside_tail a x s out) leads,
  )

  prev_out : (b e : Option Place) (s : List Place) (p : Place) {q : Place} → IsChain n t b s e → b ≢ Some p → IsAbsent p s
      → (n (t q)).prev ≡ Some p → IsAbsent q s
  prev_out b e [] p c other out leads = tt
  prev_out b e (x ∷ s) p {q} c other out leads = (
    (λ (same : q ≡ x). other (sym c.0.prev ∙ ap (λ z. (n (t z)).prev) (sym same) ∙ leads)),
    prev_out (Some x) e s p c.1 (λ h. out.0 (sym (some_same h))) out.1 leads,
  )

-- a place q is either not in the sequence s, or a member of it
pub in_or_out : (q : Place) (s : List Place) → IsAbsent q s ⊎ IsMember q s
in_or_out q [] = inl tt
in_or_out q (x ∷ s) = elim (same_or_not q x) [
  | inl e ↦ inr (λ out. out.0 e)
  | inr other ↦ elim (in_or_out q s) [
    | inl out ↦ inl (other, out)
    | inr member ↦ inr (λ out. member out.1)
  ]
]

-- if the words of the places p and q are equal by the test, p and q are the same place
pub tested_same : (p q : Place) → eqb p.word q.word ≡ true → p ≡ q
tested_same p q e = same_word p q (eqb-true p.word q.word e)

pub tested_other : (p q : Place) → eqb p.word q.word ≡ false → p ≢ q
tested_other p q e same = let k : eqb p.word q.word ≡ true = eq-eqb _ _ (ap (λ (r : Place). r.word) same) in cc

-- a place q that was linked is still linked after the place p was also linked
pub stays_linked : {E : Type 0} {linked : E → Bool} {old new : Table E} {p : Place} (q : Place) → LinksAlso linked old new p → linked (old.entry q) ≡ true
    → linked (new.entry q) ≡ true
stays_linked {linked = linked} {old} {new} {p} q links was = elim (same_or_not q p) [
  | inl e ↦ rw e links.is
  | inr other ↦ links.others q other ∙ was
]

module _ {E : Type 0} (n : E → Neighbors) where
  -- if the next place of p is set to the place that it was before, each entry names the same neighbors as before
  pub next_stays : {old new : Table E} {p : Place} {to : Option Place} → ChangesOnly old new p → neighbors_at n new p ≡ record (neighbors_at n old p) { next = to }
      → (neighbors_at n old p).next ≡ to → (q : Place) → neighbors_at n new q ≡ neighbors_at n old q
  next_stays {old} {new} frame set is q = elim (same_or_not q _) [
    | inl e ↦ subst (λ z. neighbors_at n new z ≡ neighbors_at n old z) (sym e) (set ∙ rw (← is) refl)
    | inr other ↦ ap n (frame.others q other)
  ]

  pub prev_stays : {old new : Table E} {p : Place} {to : Option Place} → ChangesOnly old new p → neighbors_at n new p ≡ record (neighbors_at n old p) { prev = to }
      → (neighbors_at n old p).prev ≡ to → (q : Place) → neighbors_at n new q ≡ neighbors_at n old q
  prev_stays {old} {new} frame set is q = elim (same_or_not q _) [
    | inl e ↦ subst (λ z. neighbors_at n new z ≡ neighbors_at n old z) (sym e) (set ∙ rw (← is) refl)
    | inr other ↦ ap n (frame.others q other)
  ]

module _ {E : Type 0} {n : E → Neighbors} where
  -- A CIRCLE CAN BE READ from each of its places: if s followed by u is a circle, u followed by s is a circle
  pub rotated : {t : Place → E} (s u : List Place) → IsCircle n t (s ++ u) → IsCircle n t (u ++ s)
  rotated {t} [] u c = rw append-nil c
  rotated {t} (x ∷ s) [] c = rw append-nil at c
  rotated {t} (x ∷ s) (y ∷ u) c =
      let e : last (x ∷ s ++ y ∷ u) ≡ last (y ∷ u) = last_or-append None (x ∷ s) (y ∷ u) in
      let k : last (y ∷ u ++ x ∷ s) ≡ last (x ∷ s) = last_or-append None (y ∷ u) (x ∷ s) in
      let cut = chain_cut (IsBetween n) t (last (x ∷ s ++ y ∷ u)) (x ∷ s) (y ∷ u) (Some x) c.chain in
      let front : IsChain n t (last (y ∷ u)) (x ∷ s) (Some y) = rw (← e) cut.0 in
      let back : IsChain n t (last (y ∷ u ++ x ∷ s)) (y ∷ u) (Some x) = rw k cut.1 in
      record {
        distinct = distinct_splice [] (y ∷ u) (x ∷ s) (distinct_left (x ∷ s) (y ∷ u) c.distinct) (distinct_right (x ∷ s) (y ∷ u) c.distinct)
            (disjoint_sym (x ∷ s) (y ∷ u) (distinct_disjoint (x ∷ s) (y ∷ u) c.distinct));
        chain = chain_glue (IsBetween n) t (last (y ∷ u ++ x ∷ s)) (y ∷ u) (x ∷ s) (Some y) back front;
      }

  -- the ring with the given head can be read from the member p: p comes first, then `back`, the head and `front`
  pub seen_from : {t : Place → E} {head : Place} (front : List Place) (p : Place) (back : List Place)
      → IsCircle n t (head ∷ (front ++ p ∷ back)) → IsCircle n t (p ∷ (back ++ head ∷ front))
  seen_from {t} {head} front p back c = rotated (head ∷ front) (p ∷ back) c

  -- a circle r can be read from each of its members p, and the read circle has no places that are not in r
  pub seen_at : {t : Place → E} {p : Place} {r : List Place} → IsCircle n t r → IsMember p r
      → (s : List Place) × IsCircle n t (p ∷ s) × ((q : Place) → IsAbsent q r → IsAbsent q (p ∷ s))
  seen_at {t} {p} {r} c member =
      let m = member_split p r member in
      (m.1 ++ m.0, rotated m.0 (p ∷ m.1) (subst (IsCircle n t) m.2 c), λ q out. absent_turned q (p ∷ m.1) m.0 (subst (IsAbsent q) m.2 out))

  -- if b is the place after x in a ring, then x is the place before b
  pub facing : {t : Place → E} (x : Place) (s : List Place) {b : Place} → IsCircle n t (x ∷ s) → (n (t x)).next ≡ Some b → (n (t b)).prev ≡ Some x
  facing {t} x [] c e = subst (λ z. (n (t z)).prev ≡ Some x) (some_same (sym c.chain.0.next ∙ e)) c.chain.0.prev
  facing {t} x (y ∷ s) c e = subst (λ z. (n (t z)).prev ≡ Some x) (some_same (sym c.chain.0.next ∙ e)) c.chain.1.0.prev

  -- a circle stays a circle, if the entries of its places stay as they were
  pub circle_kept : {t0 t1 : Place → E} {r : List Place} → IsCircle n t0 r → ((q : Place) → (IsAbsent q r → ⊥) → t1 q ≡ t0 q) → IsCircle n t1 r
  circle_kept {t0} {t1} {r} c same = record { distinct = c.distinct; chain = chain_kept (IsBetween n) t0 t1 (last r) r (first r) same c.chain }

  -- p leaves the circle, if its two neighbors are made neighbors of each other
  pub circle_closed : {t0 t1 t2 : Place → E} (p : Place) (r : List Place) → IsCircle n t0 (p ∷ r)
      → TurnsAfter (IsBetween n) t0 t1 (last r) (Some p) (first r) → TurnsBefore (IsBetween n) t1 t2 (first r) (Some p) (last r) → IsCircle n t2 r
  circle_closed {t0} {t1} {t2} p r c after before = record {
    distinct = c.distinct.1;
    chain = chain_first (IsBetween n) t1 t2 (Some p) (last r) r (first r) before c.distinct.1
        (chain_last (IsBetween n) t0 t1 (Some p) r (Some p) (first r) after c.distinct.1 c.chain.1);
  }

  -- a stretch `out` of places leaves the circle, if the place before it and the place after it are made neighbors of each other
  pub circle_bypassed : {t0 t1 t2 : Place → E} (out r : List Place) → IsCircle n t0 (out ++ r)
      → TurnsAfter (IsBetween n) t0 t1 (last r) (first (out ++ r)) (first r)
      → TurnsBefore (IsBetween n) t1 t2 (first r) (last_or (last (out ++ r)) out) (last r) → IsCircle n t2 r
  circle_bypassed {t0} {t1} {t2} out r c after before =
      let b = IsBetween n in
      let distinct = distinct_right out r c.distinct in
      let cut = chain_cut b t0 (last (out ++ r)) out r (first (out ++ r)) c.chain in
      record {
        distinct = distinct;
        chain = chain_first b t1 t2 (last_or (last (out ++ r)) out) (last r) r (first r) before distinct
            (chain_last b t0 t1 (last_or (last (out ++ r)) out) r (first (out ++ r)) (first r) after distinct cut.1);
      }

  -- p is inserted between the last and the first place of the circle r, if the entry of p already names these two places, and they are made neighbors of p
  pub circle_filled : {t0 t1 t2 : Place → E} (p : Place) (r : List Place) {b : Place} → Some b ≡ first r → IsCircle n t0 r → IsAbsent p r
      → IsBetween n (t0 p) (last r) (first r)
      → TurnsAfter (IsBetween n) t0 t1 (last r) (first r) (Some p) → TurnsBefore (IsBetween n) t1 t2 (first r) (last r) (Some p)
      → IsCircle n t2 (p ∷ r)
  circle_filled p [] {b} e c out stands after before = absurd (none_not b (sym e))
  circle_filled {t0} {t1} {t2} p (x ∷ r) e c out stands after before =
      let kept : t2 p ≡ t0 p = before.others p (λ e. out.0 (sym (some_same e))) ∙ after.others p (last_not None (x ∷ r) p (none_not p) out) in
      record {
        distinct = (out, c.distinct);
        chain = (
          rw kept stands,
          chain_first (IsBetween n) t1 t2 (last (x ∷ r)) (Some p) (x ∷ r) (Some p) before c.distinct
              (chain_last (IsBetween n) t0 t1 (last (x ∷ r)) (x ∷ r) (Some x) (Some p) after c.distinct c.chain),
        );
      }

  -- if the last places of two circles exchange their next places, the two circles become one circle
  pub circles_joined : {t0 t1 t2 t3 t4 : Place → E} (x : Place) (r : List Place) (y : Place) (u : List Place) → IsCircle n t0 (x ∷ r) → IsCircle n t0 (y ∷ u)
      → IsDisjoint (x ∷ r) (y ∷ u)
      → TurnsAfter (IsBetween n) t0 t1 (last (x ∷ r)) (Some x) (Some y) → TurnsBefore (IsBetween n) t1 t2 (Some y) (last (y ∷ u)) (last (x ∷ r))
      → TurnsAfter (IsBetween n) t2 t3 (last (y ∷ u)) (Some y) (Some x) → TurnsBefore (IsBetween n) t3 t4 (Some x) (last (x ∷ r)) (last (y ∷ u))
      → IsCircle n t4 (x ∷ r ++ y ∷ u)
  circles_joined {t0} {t1} {t2} {t3} {t4} x r y u c k apart turn1 turn2 turn3 turn4 =
      let b = IsBetween n in
      let a = x ∷ r in
      let e = y ∷ u in
      let back = disjoint_sym a e apart in
      let r1 = chain_last b t0 t1 (last a) a (Some x) (Some y) turn1 c.distinct c.chain in
      let r2 = chain_beside b t1 t2 (Some y) (last a) a (Some y) back.0 turn2.others r1 in
      let r3 = chain_beside b t2 t3 (last e) (last a) a (Some y) (last_outside None e a tt back) turn3.others r2 in
      let r4 = chain_first b t3 t4 (last a) (last e) a (Some y) turn4 c.distinct r3 in
      let u1 = chain_beside b t0 t1 (last a) (last e) e (Some y) (last_outside None a e tt apart) turn1.others k.chain in
      let u2 = chain_first b t1 t2 (last e) (last a) e (Some y) turn2 k.distinct u1 in
      let u3 = chain_last b t2 t3 (last a) e (Some y) (Some x) turn3 k.distinct u2 in
      let u4 = chain_beside b t3 t4 (Some x) (last a) e (Some x) apart.0 turn4.others u3 in
      let ends : last (x ∷ r ++ y ∷ u) ≡ last e = last_or-append None a e in
      let front : IsChain n t4 (last (x ∷ r ++ y ∷ u)) a (Some y) = rw ends r4 in
      record {
        distinct = distinct_splice [] a e k.distinct c.distinct apart;
        chain = chain_glue b t4 (last (x ∷ r ++ y ∷ u)) a e (Some x) front u4;
      }

  -- if the last places of two parts of a circle exchange their next places, the circle becomes two circles
  pub circle_cut : {t0 t1 t2 t3 t4 : Place → E} (x : Place) (r : List Place) (y : Place) (u : List Place) → IsCircle n t0 (x ∷ r ++ y ∷ u)
      → TurnsAfter (IsBetween n) t0 t1 (last (x ∷ r)) (Some y) (Some x) → TurnsBefore (IsBetween n) t1 t2 (Some x) (last (y ∷ u)) (last (x ∷ r))
      → TurnsAfter (IsBetween n) t2 t3 (last (y ∷ u)) (Some x) (Some y) → TurnsBefore (IsBetween n) t3 t4 (Some y) (last (x ∷ r)) (last (y ∷ u))
      → IsCircle n t4 (x ∷ r) × IsCircle n t4 (y ∷ u)
  circle_cut {t0} {t1} {t2} {t3} {t4} x r y u c turn1 turn2 turn3 turn4 =
      let b = IsBetween n in
      let a = x ∷ r in
      let e = y ∷ u in
      let apart = distinct_disjoint a e c.distinct in
      let back = disjoint_sym a e apart in
      let d_a = distinct_left a e c.distinct in
      let d_e = distinct_right a e c.distinct in
      let ends : last (x ∷ r ++ y ∷ u) ≡ last e = last_or-append None a e in
      let cut = chain_cut b t0 (last (x ∷ r ++ y ∷ u)) a e (Some x) c.chain in
      let r0 : IsChain n t0 (last e) a (Some y) = rw (← ends) cut.0 in
      let r1 = chain_last b t0 t1 (last e) a (Some y) (Some x) turn1 d_a r0 in
      let r2 = chain_first b t1 t2 (last e) (last a) a (Some x) turn2 d_a r1 in
      let r3 = chain_beside b t2 t3 (last e) (last a) a (Some x) (last_outside None e a tt back) turn3.others r2 in
      let r4 = chain_beside b t3 t4 (Some y) (last a) a (Some x) back.0 turn4.others r3 in
      let u1 = chain_beside b t0 t1 (last a) (last a) e (Some x) (last_outside None a e tt apart) turn1.others cut.1 in
      let u2 = chain_beside b t1 t2 (Some x) (last a) e (Some x) apart.0 turn2.others u1 in
      let u3 = chain_last b t2 t3 (last a) e (Some x) (Some y) turn3 d_e u2 in
      let u4 = chain_first b t3 t4 (last a) (last e) e (Some y) turn4 d_e u3 in
      (record { distinct = d_a; chain = r4 }, record { distinct = d_e; chain = u4 })

  -- if a place p is not in a circle r, no place whose next place is p is in r. `after_apart` says the same of places whose previous place is p
  pub before_apart : {t : Place → E} (r : List Place) (p : Place) {q : Place} → IsCircle n t r → IsAbsent p r → (n (t q)).next ≡ Some p → IsAbsent q r
  before_apart {t} r p c out leads = next_out n t (last r) (first r) r (Some p) c.chain (λ e. first_not r None p (none_not p) out (sym e)) out leads

  pub after_apart : {t : Place → E} (r : List Place) (p : Place) {q : Place} → IsCircle n t r → IsAbsent p r → (n (t q)).prev ≡ Some p → IsAbsent q r
  after_apart {t} r p c out leads = prev_out n t (last r) (first r) r p c.chain (last_not None r p (none_not p) out) out leads

  -- a chain s shares no place with a circle r, if the place after the end of the chain is not in r
  pub chain_apart : {t : Place → E} (r : List Place) (b : Option Place) (s : List Place) (a : Option Place) → IsCircle n t r → first r ≢ a → IsOutside a r
      → IsChain n t b s a → IsDisjoint s r
  chain_apart r b [] a c other out k = tt
  chain_apart {t} r b (x ∷ s) a c other out k =
      let rest = chain_apart r (Some x) s a c other out k.1 in (
        elim s as (λ s. IsChain n t (Some x) s a → IsBetween n (t x) b (first_or s a) → IsDisjoint s r → IsAbsent x r) [
          | [] ↦ λ _ stands _. next_out n t (last r) (first r) r a c.chain (λ e. other (sym e)) out stands.next
          | y ∷ s ↦ λ _ stands apart. before_apart r y c apart.0 stands.next
        ] k.1 k.0 rest,
        rest,
      )

  -- two circles share no place, if a place p is in one of them and not in the other
  pub circles_apart : {t : Place → E} (r : List Place) (p : Place) (s : List Place) → IsCircle n t r → IsCircle n t (p ∷ s) → IsAbsent p r → IsDisjoint (p ∷ s) r
  circles_apart r p s c k out = (out, chain_apart r (Some p) s (Some p) c (λ e. first_not r None p (none_not p) out e) out k.chain.1)

  -- if h is not in one circle that begins with g, then no circle that begins with g shares a place with the circle of h
  pub apart_too : {t : Place → E} (h : Place) (s : List Place) (g : Place) (u v : List Place) → IsCircle n t (h ∷ s) → IsCircle n t (g ∷ u) → IsAbsent h (g ∷ u)
      → IsCircle n t (g ∷ v) → IsDisjoint (h ∷ s) (g ∷ v)
  apart_too h s g u v c k out other =
      let out_g = (disjoint_sym (h ∷ s) (g ∷ u) (circles_apart (g ∷ u) h s k c out)).0 in
      disjoint_sym (g ∷ v) (h ∷ s) (circles_apart (h ∷ s) g v c other out_g)

  -- a list shares no place with any circle
  pub list_apart : {t : Table E} {list : Ends} {s : List Place} (p : Place) (r : List Place) → IsCircle n t.entry (p ∷ r) → doubly.Represents n t list s → IsDisjoint s (p ∷ r)
  list_apart {s = s} p r c shown = chain_apart (p ∷ r) None s None c (λ e. none_not p (sym e)) tt shown.chain

  -- a circle stays a circle, if only the entry of a place p that is not in it changes. `circle_untouched` says the same of three such places
  pub circle_beside : {t0 t1 : Place → E} {r : List Place} (p : Place) → IsCircle n t0 r → IsAbsent p r → ((q : Place) → q ≢ p → t1 q ≡ t0 q) → IsCircle n t1 r
  circle_beside p c out same = circle_kept c (λ q member. same q (λ e. member (rw e out)))

  pub circle_untouched : {t0 t1 : Place → E} (r : List Place) (x y z : Place) → IsCircle n t0 r → IsAbsent x r → IsAbsent y r → IsAbsent z r
      → ((q : Place) → q ≢ x → q ≢ y → q ≢ z → t1 q ≡ t0 q) → IsCircle n t1 r
  circle_untouched r x y z c out_x out_y out_z same =
      circle_kept c (λ q member. same q (λ e. member (rw e out_x)) (λ e. member (rw e out_y)) (λ e. member (rw e out_z)))

  -- THE NEIGHBORS of a place p in a circle: p has a next and a previous place, both are in the circle, and their entries name p
  pub next_some : {t : Place → E} {p : Place} (s : List Place) → IsCircle n t (p ∷ s) → IsSome ((n (t p)).next)
  next_some [] c = rw c.chain.0.next refl
  next_some (x ∷ s) c = rw c.chain.0.next refl

  pub prev_some : {t : Place → E} {p : Place} (s : List Place) → IsCircle n t (p ∷ s) → IsSome ((n (t p)).prev)
  prev_some {t} {p} s c = rw c.chain.0.prev (last_is_some p s)

  pub prev_stands : {t : Place → E} {p b : Place} (s : List Place) → IsCircle n t (p ∷ s) → (n (t p)).prev ≡ Some b
      → ((n (t b)).linked ≡ true) × ((n (t b)).next ≡ Some p)
  prev_stands {t} {p} {b} s c leads =
      let stands = last_between (IsBetween n) t (last (p ∷ s)) (p ∷ s) (Some p) c.chain (sym leads ∙ c.chain.0.prev) in
      (stands.linked, stands.next)

  pub next_stands : {t : Place → E} {p b : Place} (s : List Place) → IsCircle n t (p ∷ s) → (n (t p)).next ≡ Some b
      → ((n (t b)).linked ≡ true) × ((n (t b)).prev ≡ Some p)
  next_stands {t} {p} {b} [] c leads =
      let e : p ≡ b = some_same (sym c.chain.0.next ∙ leads) in rw (← e) (c.chain.0.linked, c.chain.0.prev)
  next_stands {t} {p} {b} (x ∷ s) c leads =
      let e : x ≡ b = some_same (sym c.chain.0.next ∙ leads) in rw (← e) (c.chain.1.0.linked, c.chain.1.0.prev)

  pub next_in_ring : {t : Place → E} {p b : Place} (s : List Place) → IsCircle n t (p ∷ s) → (n (t p)).next ≡ Some b
      → (u : List Place) × IsCircle n t (b ∷ u)
  next_in_ring {t} {p} {b} [] c leads = let e : p ≡ b = some_same (sym c.chain.0.next ∙ leads) in rw (← e) ([], c)
  next_in_ring {t} {p} {b} (x ∷ s) c leads = let e : x ≡ b = some_same (sym c.chain.0.next ∙ leads) in rw (← e) (s ++ p ∷ [], rotated (p ∷ []) (x ∷ s) c)

  pub prev_in_ring : {t : Place → E} {p b : Place} (s : List Place) → IsCircle n t (p ∷ s) → (n (t p)).prev ≡ Some b
      → (u : List Place) × IsCircle n t (b ∷ u)
  prev_in_ring {t} {p} {b} s c leads =
      let e : p ∷ s ≡ but_last (p ∷ s) ++ b ∷ [] = split_last (p ∷ s) (sym c.chain.0.prev ∙ leads) in
      (but_last (p ∷ s), rotated (but_last (p ∷ s)) (b ∷ []) (subst (IsCircle n t) e c))

  -- a place q that is not in the circle of p is not the previous place of p. `next_not` says the same of the next place
  pub prev_not : {t : Place → E} {p b q : Place} (s : List Place) → IsCircle n t (p ∷ s) → (n (t p)).prev ≡ Some b → IsAbsent q (p ∷ s) → q ≢ b
  prev_not {p = p} {q = q} s c leads out e = last_not None (p ∷ s) q (none_not q) out (sym c.chain.0.prev ∙ leads ∙ ap Some (sym e))

  pub next_not : {t : Place → E} {p a q : Place} (s : List Place) → IsCircle n t (p ∷ s) → (n (t p)).next ≡ Some a → IsAbsent q (p ∷ s) → q ≢ a
  next_not {p = p} {q = q} s c leads out e =
      first_not s (Some p) q (λ k. out.0 (sym (some_same k))) out.1 (sym c.chain.0.next ∙ leads ∙ ap Some (sym e))

  pub ring_frame : {t0 t1 : Place → E} {p b a : Place} (s : List Place) → IsCircle n t0 (p ∷ s) → (n (t0 p)).prev ≡ Some b → (n (t0 p)).next ≡ Some a
      → ((q : Place) → q ≢ b → q ≢ p → q ≢ a → t1 q ≡ t0 q) → (q : Place) → IsAbsent q (p ∷ s) → t1 q ≡ t0 q
  ring_frame s c prev next same q out = same q (prev_not s c prev out) out.0 (next_not s c next out)

  -- A PLACE p LEAVES its circle, also if p is its only place. `closes`: the other places r are a circle after b and a, the neighbors of p, were made
  -- neighbors of each other
  pub circle_taken : {t0 t1 : Place → E} {p b a : Place} → (n (t0 p)).prev ≡ Some b → (n (t0 p)).next ≡ Some a
      → ((r : List Place) → IsCircle n t0 (p ∷ r) → Some b ≡ last r → Some a ≡ first r → IsCircle n t1 r)
      → (r : List Place) → IsCircle n t0 (p ∷ r) → IsCircle n t1 r
  circle_taken prev next closes [] c = record { distinct = tt; chain = tt }
  circle_taken prev next closes (x ∷ r) c = closes (x ∷ r) c (sym prev ∙ c.chain.0.prev) (sym next ∙ c.chain.0.next)

  -- A PLACE p IS INSERTED AFTER the place `at`. `puts`: p followed by the circle of b is a circle, if p was inserted before b, the next place of `at`
  pub circle_after : {t0 t1 : Place → E} {p at b : Place} (s : List Place) → IsCircle n t0 (at ∷ s) → (n (t0 at)).next ≡ Some b
      → ((u : List Place) → IsCircle n t0 (b ∷ u) → IsCircle n t1 (p ∷ b ∷ u)) → IsCircle n t1 (at ∷ p ∷ s)
  circle_after {t0} {t1} {p} {at} {b} [] c leads puts =
      let e : b ≡ at = some_same (sym leads ∙ c.chain.0.next) in rotated (p ∷ []) (at ∷ []) (rw e at (puts [] (rw e c)))
  circle_after {t0} {t1} {p} {at} {b} (x ∷ s) c leads puts =
      let e : b ≡ x = some_same (sym leads ∙ c.chain.0.next) in
      rotated (p ∷ x ∷ s) (at ∷ []) (rw e at (puts (s ++ at ∷ []) (rw e (rotated (at ∷ []) (x ∷ s) c))))

  -- a place p that was not in the circle of the place `at` is inserted after `at`. `puts`: p followed by the circle of b is a circle, if p was inserted
  -- before b, the next place of `at`
  pub circle_after_free : {t0 t1 : Place → E} {p at b : Place} (s : List Place) → IsCircle n t0 (at ∷ s) → (n (t0 at)).next ≡ Some b → IsAbsent p (at ∷ s)
      → ((u : List Place) → IsCircle n t0 (b ∷ u) → IsAbsent p (b ∷ u) → IsCircle n t1 (p ∷ b ∷ u)) → IsCircle n t1 (at ∷ p ∷ s)
  circle_after_free {t0} {t1} {p} {at} {b} [] c leads out puts =
      let e : b ≡ at = some_same (sym leads ∙ c.chain.0.next) in rotated (p ∷ []) (at ∷ []) (rw e at (puts [] (rw e c) (rw e out)))
  circle_after_free {t0} {t1} {p} {at} {b} (x ∷ s) c leads out puts =
      let e : b ≡ x = some_same (sym leads ∙ c.chain.0.next) in
      rotated (p ∷ x ∷ s) (at ∷ []) (rw e at (puts (s ++ at ∷ []) (rw e (rotated (at ∷ []) (x ∷ s) c)) (rw e (out.1.0, absent_both p s (at ∷ []) out.1.1 (out.0, tt)))))

  -- THE ENDS of the ring with the head p: if p is its own next place, the ring has no first member. The next three lemmas say which member is the first and
  -- the last, if any
  pub first_none : {t : Place → E} {p b : Place} (s : List Place) → IsCircle n t (p ∷ s) → (n (t p)).next ≡ Some b → b ≡ p → None ≡ first s
  first_none [] c leads e = refl
  first_none (x ∷ s) c leads e = absurd (c.distinct.0.0 (sym e ∙ some_same (sym leads ∙ c.chain.0.next)))

  pub first_some : {t : Place → E} {p b : Place} (s : List Place) → IsCircle n t (p ∷ s) → (n (t p)).next ≡ Some b → b ≢ p → Some b ≡ first s
  first_some [] c leads other = absurd (other (some_same (sym leads ∙ c.chain.0.next)))
  first_some (x ∷ s) c leads other = sym leads ∙ c.chain.0.next

  pub last_none : {t : Place → E} {p b : Place} (s : List Place) → IsCircle n t (p ∷ s) → (n (t p)).prev ≡ Some b → b ≡ p → None ≡ last s
  last_none [] c leads e = refl
  last_none {p = p} (x ∷ s) c leads e =
      absurd (last_not None (x ∷ s) p (none_not p) c.distinct.0 (sym c.chain.0.prev ∙ leads ∙ ap Some e))

  pub last_some : {t : Place → E} {p b : Place} (s : List Place) → IsCircle n t (p ∷ s) → (n (t p)).prev ≡ Some b → b ≢ p → Some b ≡ last s
  last_some [] c leads other = absurd (other (some_same (sym leads ∙ c.chain.0.prev)))
  last_some (x ∷ s) c leads other = sym leads ∙ c.chain.0.prev

  module _ {linked : E → Bool} (alike : (e : E) → (n e).linked ≡ linked e) where
    -- each place of a circle is linked, and the neighbors of a place in a circle are linked. A place that is not linked is in no circle
    pub head_linked : {t : Place → E} {p : Place} {s : List Place} → IsCircle n t (p ∷ s) → linked (t p) ≡ true
    head_linked c = sym (alike _) ∙ c.chain.0.linked

    pub prev_linked : {t : Place → E} {p b : Place} (s : List Place) → IsCircle n t (p ∷ s) → (n (t p)).prev ≡ Some b → linked (t b) ≡ true
    prev_linked s c leads = sym (alike _) ∙ (prev_stands s c leads).0

    pub next_linked : {t : Place → E} {p b : Place} (s : List Place) → IsCircle n t (p ∷ s) → (n (t p)).next ≡ Some b → linked (t b) ≡ true
    next_linked s c leads = sym (alike _) ∙ (next_stands s c leads).0

    pub free_outside : {t : Place → E} {p : Place} {r : List Place} → IsCircle n t r → linked (t p) ≡ false → IsAbsent p r
    free_outside {t} {p} {r} c free = chain_absent (IsBetween n) linked (between_linked alike) t (last r) r (first r) p c.chain free
