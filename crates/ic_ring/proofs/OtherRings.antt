-- Lemmas about what stays as it was if a ring changes: the other rings, and all lists. Other lemmas are about a ring from which a moved object was removed.
use Rattle.std.proofs.Common.{◌≡◌, ◌≢◌, List, [], ◌∷◌, ◌++◌, Bool, false, inl, inr, subst, sym}
use Rattle.ic_link_ops.specs.Prelude.{Place, IsAbsent, IsDisjoint, first, last, Table, Neighbors, IsBetween}
use Rattle.ic_link_ops.proofs.Prelude.{absent_without, member_split, distinct_middle, disjoint_cons, disjoint_both, disjoint_sym, disjoint_nothing, chain_frame}
use Rattle.ic_link_ops.proofs.RepresentedLists.{represents_frame, free_absent}
use Rattle.ic_link_ops.proofs.DoublyLists.{between_linked}
use Rattle.ic_ring.specs.Rings.{IsCircle, RepresentsBeside, OthersStay}
use Rattle.ic_ring.proofs.Circles.{in_or_out, rotated, seen_from, circles_apart, list_apart, free_outside}

module _ {E : Type 0} {n : E → Neighbors} where
  -- a circle stays a circle, if only entries of the places `touched` are changed, and no place of the circle is one of these places
  pub circle_stays : {t0 t1 : Place → E} (r touched : List Place) → IsCircle n t0 r → IsDisjoint r touched → ((q : Place) → IsAbsent q touched → t1 q ≡ t0 q)
      → IsCircle n t1 r
  circle_stays {t0} {t1} r touched c apart same = record {
    distinct = c.distinct;
    chain = chain_frame (IsBetween n) t0 t1 (last r) r (first r) touched apart same c.chain;
  }

  -- THE OTHERS STAY: if only entries of one ring are changed, all other rings and all lists stay as they were
  pub others_stay : {old new : Table E} (p : Place) (s : List Place) → IsCircle n old.entry (p ∷ s) → ((q : Place) → IsAbsent q (p ∷ s) → new.entry q ≡ old.entry q)
      → OthersStay n old new (p ∷ [])
  others_stay p s c same = record {
    rings = λ r circle out. circle_stays r (p ∷ s) circle (disjoint_sym (p ∷ s) r (circles_apart r p s circle c out.0)) same;
    lists = λ list t shown. represents_frame (p ∷ s) shown (list_apart p s c shown) same;
  }

  -- THE OTHERS STAY: if only entries of two rings are changed, all other rings and all lists stay as they were
  pub others_stay_two : {old new : Table E} (p : Place) (s : List Place) (q : Place) (u : List Place) → IsCircle n old.entry (p ∷ s) → IsCircle n old.entry (q ∷ u)
      → ((x : Place) → IsAbsent x ((p ∷ s) ++ (q ∷ u)) → new.entry x ≡ old.entry x) → OthersStay n old new (p ∷ q ∷ [])
  others_stay_two p s q u c k same =
      let both = (p ∷ s) ++ (q ∷ u) in record {
        rings = λ r circle out.
            let apart = disjoint_both (p ∷ s) (q ∷ u) r (circles_apart r p s circle c out.0) (circles_apart r q u circle k out.1.0) in
            circle_stays r both circle (disjoint_sym both r apart) same;
        lists = λ list t shown.
            let apart = disjoint_both (p ∷ s) (q ∷ u) t (disjoint_sym t (p ∷ s) (list_apart p s c shown)) (disjoint_sym t (q ∷ u) (list_apart q u k shown)) in
            represents_frame both shown (disjoint_sym both t apart) same;
      }

  -- THE OTHERS STAY if the table does not change
  pub others_same : {old new : Table E} (places : List Place) → new ≡ old → OthersStay n old new places
  others_same {old} {new} places e = rw e (record { rings = λ r c out. c; lists = λ list s shown. shown })

  -- THE OTHERS STAY after two steps if they stay after each step
  pub others_then : {old mid new : Table E} {places : List Place} → OthersStay n old mid places → OthersStay n mid new places → OthersStay n old new places
  others_then a b = record { rings = λ r c out. b.rings r (a.rings r c out) out; lists = λ list s shown. b.lists list s (a.lists list s shown) }

  -- if all rings without the place q stay as they were, and each ring without p is also without q, then all rings without p stay as they were
  pub others_from : {old new : Table E} {p q : Place} → ((r : List Place) → IsCircle n old.entry r → IsAbsent p r → IsAbsent q r)
      → OthersStay n old new (q ∷ []) → OthersStay n old new (p ∷ [])
  others_from too k = record { rings = λ r c out. k.rings r c (too r c out.0, tt); lists = k.lists }

  -- after p was removed from its ring, which may be this ring or another one, the head and the members s are a circle without p
  pub beside_represented : {old new : Table E} (p : Place) (head : Place) (s : List Place) → RepresentsBeside n old p head s
      → ((r : List Place) → IsCircle n old.entry (p ∷ r) → IsCircle n new.entry r) → OthersStay n old new (p ∷ [])
      → IsCircle n new.entry (head ∷ s) × IsAbsent p (head ∷ s)
  beside_represented p head s (inl k) taken others = (others.rings (head ∷ s) k.0 (k.1, tt), k.1)
  beside_represented {new = new} p head s (inr k) taken others =
      let there = taken (k.1 ++ head ∷ k.0) (seen_from k.0 p k.1 k.2) in (
        subst (λ s. IsCircle n new.entry (head ∷ s)) (sym k.3) (rotated k.1 (head ∷ k.0) there),
        subst (λ s. IsAbsent p (head ∷ s)) (sym k.3) (distinct_middle (head ∷ k.0) k.1 p k.2.distinct),
      )

  -- the ring of h stays a ring and gets no new places, if p is removed, which is a member of this ring or a place of another ring
  pub ring_left : {old new : Table E} {p h : Place} (s : List Place) → IsCircle n old.entry (h ∷ s) → h ≢ p
      → ((r : List Place) → IsCircle n old.entry (p ∷ r) → IsCircle n new.entry r) → OthersStay n old new (p ∷ [])
      → (u : List Place) × IsCircle n new.entry (h ∷ u) × ((q : Place) → IsAbsent q (h ∷ s) → IsAbsent q (h ∷ u))
  ring_left {old} {new} {p} {h} s c other taken others = elim (in_or_out p s) [
    | inl out ↦ (s, others.rings (h ∷ s) c (((λ e. other (sym e)), out), tt), λ q k. k)
    | inr member ↦
        let m = member_split p s member in
        let seen : IsCircle n old.entry (p ∷ (m.1 ++ h ∷ m.0)) = seen_from m.0 p m.1 (rw (← m.2) c) in (
          m.0 ++ m.1,
          rotated m.1 (h ∷ m.0) (taken (m.1 ++ h ∷ m.0) seen),
          λ q k. (k.0, absent_without m.0 m.1 p q (subst (IsAbsent q) m.2 k.1)),
        )
  ]

  module _ {linked : E → Bool} (alike : (e : E) → (n e).linked ≡ linked e) where
    -- THE OTHERS STAY: all other rings and all lists stay as they were, if only entries of one ring and the entry of an unlinked place are changed
    pub others_stay_beside : {old new : Table E} (x : Place) (p : Place) (s : List Place) → linked (old.entry x) ≡ false → IsCircle n old.entry (p ∷ s)
        → ((q : Place) → IsAbsent q (x ∷ p ∷ s) → new.entry q ≡ old.entry q) → OthersStay n old new (p ∷ [])
    others_stay_beside x p s free c same = record {
      rings = λ r circle out.
          circle_stays r (x ∷ p ∷ s) circle
          (disjoint_cons x r (p ∷ s) (free_outside alike circle free) (disjoint_sym (p ∷ s) r (circles_apart r p s circle c out.0))) same;
      lists = λ list t shown.
          represents_frame (x ∷ p ∷ s) shown (disjoint_cons x t (p ∷ s) (free_absent (between_linked alike) shown free) (list_apart p s c shown)) same;
    }

    -- THE OTHERS STAY: if only the entry of a place that was not linked is changed, all rings and all lists stay as they were
    pub others_stay_new : {old new : Table E} (x : Place) → linked (old.entry x) ≡ false → ((q : Place) → q ≢ x → new.entry q ≡ old.entry q) → OthersStay n old new []
    others_stay_new x free same = record {
      rings = λ r circle out. circle_stays r (x ∷ []) circle (disjoint_cons x r [] (free_outside alike circle free) (disjoint_nothing r)) (λ q out. same q out.0);
      lists = λ list t shown. represents_frame (x ∷ []) shown (disjoint_cons x t [] (free_absent (between_linked alike) shown free) (disjoint_nothing t)) (λ q out. same q out.0);
    }
