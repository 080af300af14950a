-- Lemmas on rings after a call of a test: they say which members a ring has, and that there is an object at each member.
use Rattle.std.proofs.Common.{◌≡◌, ◌≢◌, ◌<◌, true, Option, Some, None, List, [], ◌∷◌, ◌++◌, Result, Ok, Err, OnOk, OnErr, OnSome, drop, refl, sym, ap, ◌∙◌, subst, append_assoc, append-nil}
use Rattle.ic_link_ops.specs.Prelude.{Place, index_of, Objects, is_placed, Cut, join, IsAbsent, IsDisjoint, first, first_or, last, last_or, but_last, Table, Extent, IsCovered, ArePlaced, RepresentsPlaced}
use Rattle.ic_link_ops.specs.LinkedList.{Neighbors, IsChain}
use Rattle.ic_link_ops.proofs.SequenceLemmas.{first_is, split_last, disjoint_sym, disjoint_right, absent_right, absent_swap, absent_turned, last_of_push, some_same, none_not}
use Rattle.ic_ring.specs.Rings.{IsCircle, Represents, InRing, OthersStay}
use Rattle.ic_ring.specs.RingCursors.{IsOn, IsBefore}
use Rattle.ic_ring.proofs.Circles.{circles_apart, seen_from, rotated}
use Rattle.structure_tests.specs.TwoRings.{TwoRings}

-- `Goal` holds for each result of a call that may refuse an object, if it holds for an accepted call and for a refused call
pub either_way : {A X P Q Goal : Type 0} (r : Result A X) → OnOk r P → OnErr r Q → (P → Goal) → (Q → Goal) → Goal
either_way (Ok a) holds refused accepts refuses = accepts holds
either_way (Err e) holds refused accepts refuses = refuses refused

module _ {E : Type 0} (n : E → Neighbors) (t : Table E) where
  -- if `p` is the first member of a ring, then the members of the ring are `p` and the sequence without its first place
  pub first_of : {h p : Place} (s : List Place) → Represents n t h s → Some p ≡ first s → Represents n t h (p ∷ drop 1 s)
  first_of {h} s shown is = subst (Represents n t h) (first_is s is) shown

  pub first_in_ring : {h p : Place} (s : List Place) → Represents n t h s → Some p ≡ first s → InRing n t p
  first_in_ring {h} {p} s shown is = (drop 1 s ++ h ∷ [], seen_from [] p (drop 1 s) (first_of s shown is))

  -- if `p` is the last member of a ring, then the members of the ring are the sequence without its last place, and then `p`
  pub last_of : {h p : Place} (s : List Place) → Represents n t h s → Some p ≡ last s → Represents n t h (but_last s ++ p ∷ [])
  last_of {h} s shown is = subst (Represents n t h) (split_last s (sym is)) shown

  pub last_in_ring : {h p : Place} (s : List Place) → Represents n t h s → Some p ≡ last s → InRing n t p
  last_in_ring {h} {p} s shown is = ([] ++ h ∷ but_last s, seen_from (but_last s) p [] (last_of s shown is))

  -- if the head of a first ring is not in a second ring, then the head of the second ring is not in the first ring
  pub heads_apart : {h k : Place} (s u : List Place) → Represents n t h s → Represents n t k u → IsAbsent h (k ∷ u) → IsAbsent k (h ∷ s)
  heads_apart {h} {k} s u c d out = (disjoint_sym (h ∷ s) (k ∷ u) (circles_apart (k ∷ u) h s d c out)).0

  -- if there is an object at each of the eight covered places, then there is an object at each place of a ring
  module _ (covered : (q : Place) → (n (t.entry q)).linked ≡ true → IsCovered t q) {T : Type 0} (o : Objects T) (all : (q : Place) → index_of q < 8 → is_placed o q ≡ true)
      (covers : t.extent.places ≡ 8) where
    chain_placed : (b a : Option Place) (s : List Place) → IsChain n t.entry b s a → ArePlaced o s
    chain_placed b a [] k = tt
    chain_placed b a (x ∷ s) k = (all x (subst (λ places. index_of x < places) covers (covered x k.0.linked)), chain_placed (Some x) a s k.1)

    pub ring_placed : (h : Place) → InRing n t h → RepresentsPlaced (Represents n t h) o
    ring_placed h (s, shown) = record { members = s; shown = shown; placed = (chain_placed (last (h ∷ s)) (first (h ∷ s)) (h ∷ s) shown.chain).1 }

  -- the last member of a ring is not its head
  pub last_other : {h p : Place} (s : List Place) → Represents n t h (s ++ p ∷ []) → h ≢ p
  last_other {h} {p} s shown = (absent_right h s (p ∷ []) shown.distinct.0).0

  -- the first member of the second ring is not in the first ring
  pub member_apart : {h k p : Place} (s u : List Place) → Represents n t h s → Represents n t k (p ∷ u) → IsAbsent h (k ∷ p ∷ u) → IsAbsent p (h ∷ s)
  member_apart {h} {k} {p} s u c d out = (disjoint_sym (h ∷ s) (k ∷ p ∷ u) (circles_apart (k ∷ p ∷ u) h s d c out)).1.0

  -- AFTER THE SUCCESSORS OF TWO HEADS ARE EXCHANGED, the table represents one ring with the first head. This ring has all places of both rings
  pub joined_heads : (new : Table E) {h k : Place} (s u : List Place) → Represents n t h s → Represents n t k u → IsAbsent h (k ∷ u)
      → ((r v : List Place) → IsCircle n t.entry r → IsCircle n t.entry v → IsDisjoint r v → Some h ≡ last r → Some k ≡ last v → IsCircle n new.entry (r ++ v))
      → InRing n new h
  joined_heads new {h} {k} s u c d out joins =
      let r = s ++ h ∷ [] in
      let v = u ++ k ∷ [] in
      let apart = circles_apart (k ∷ u) h s d c out in
      let one = absent_swap (h ∷ s) (k ∷ u) apart v (λ q o. absent_turned q u (k ∷ []) o) in
      let two = absent_swap v (h ∷ s) (disjoint_sym (h ∷ s) v one) r (λ q o. absent_turned q s (h ∷ []) o) in
      let whole = joins r v (rotated (h ∷ []) s c) (rotated (k ∷ []) u d) (disjoint_sym v r two) (sym (last_of_push s h)) (sym (last_of_push u k)) in
      (v ++ s, rotated s (h ∷ v) (rw (append_assoc s (h ∷ []) v) at whole))

-- `p ∷ drop 1 s` is the same sequence as `s`, because `p` is the first place of `s`. So if `q` is not in a ring with the members `s`, then it is not in the
-- ring written with `p ∷ drop 1 s`
pub first_absent : {q h p : Place} (s : List Place) → Some p ≡ first s → IsAbsent q (h ∷ s) → IsAbsent q (h ∷ p ∷ drop 1 s)
first_absent {q} {h} s is out = subst (λ s. IsAbsent q (h ∷ s)) (first_is s is) out

-- if a call does not change the extent of a table that covers eight places, then the table still covers eight places
pub places_of : {old new : Extent} → new ≡ old → old.places ≡ 8 → new.places ≡ 8
places_of same covers = ap (λ (e : Extent). e.places) same ∙ covers

-- if `P` holds when the result `r` is `Ok`, and `Q` also holds then, then `P × Q` holds when `r` is `Ok`
pub both_ways : {A X : Type 0} (P Q : Type 0) (r : Result A X) → OnOk r P → OnOk r Q → OnOk r (P × Q)
both_ways P Q (Ok a) p q = (p, q)
both_ways P Q (Err e) p q = tt

-- a cursor at the first member of a ring returns this member. If the ring is empty, the cursor is at the head and returns none
pub on_first : (head h : Place) → h ≡ head → (s : List Place) {at : Place} (r : Option Place) → IsOn h at r → Some at ≡ first_or s (Some head) → IsAbsent head s → r ≡ first s
on_first head h e [] None on is out = refl
on_first head h e [] (Some p) on is out = absurd (on.1 (some_same is ∙ sym e))
on_first head h e (x ∷ s) None on is out = absurd (out.0 (sym e ∙ sym on ∙ some_same is))
on_first head h e (x ∷ s) (Some p) on is out = ap Some on.0 ∙ is

-- `OnSome r P` says that `P` holds if the option `r` is `Some`. So if `r` is `Some`, then `P` holds
pub holds_there : {P : Type 0} (r : Option Place) {x : Place} → r ≡ Some x → OnSome r P → P
holds_there None e holds = absurd (none_not _ e)
holds_there (Some y) e holds = holds

module _ {E : Type 0} (n : E → Neighbors) where
  -- an edit of the first ring changes only rings that have one of `places`. If the second ring has none of `places`, then the table still represents two
  -- rings that share no place
  pub kept : (old new : Table E) {h k : Place} (places : List Place) (two : TwoRings n old h k) → new.extent ≡ old.extent → InRing n new h → OthersStay n old new places
      → IsDisjoint places (k ∷ two.apart.0) → TwoRings n new h k
  kept old new places two extent ring others out = record { covers = places_of extent two.covers; shown = ring; apart = (two.apart.0, others.rings _ two.apart.1 out, two.apart.2) }

  -- neither the first nor the last member of the first ring is in the second ring
  pub first_outside : (t : Table E) {h k p : Place} (s : List Place) (two : TwoRings n t h k) → Represents n t h (p ∷ s) → IsAbsent p (k ∷ two.apart.0)
  first_outside t {h} {k} {p} s two shown = (circles_apart (k ∷ two.apart.0) h (p ∷ s) two.apart.1 shown two.apart.2).1.0

  pub last_outside : (t : Table E) {h k p : Place} (s : List Place) (two : TwoRings n t h k) → Represents n t h (s ++ p ∷ []) → IsAbsent p (k ∷ two.apart.0)
  last_outside t {h} {k} {p} s two shown =
      let u = k ∷ two.apart.0 in
      let apart = (circles_apart u h (s ++ p ∷ []) two.apart.1 shown two.apart.2).1 in
      (disjoint_sym u (p ∷ []) (disjoint_right u s (p ∷ []) (disjoint_sym (s ++ p ∷ []) u apart))).0

  -- after a cursor has edited the first ring without changing its head, the table still represents two rings that share no place
  pub kept_by : (old new : Table E) {h k before after : Place} (s : List Place) → before ≡ h → after ≡ h → TwoRings n old h k → new.extent ≡ old.extent → Represents n new after s
      → OthersStay n old new (before ∷ []) → TwoRings n new h k
  kept_by old new {h} {k} {before} {after} s e f two extent shown others =
      kept old new (before ∷ []) two extent (s, subst (λ h. Represents n new h s) f shown) others (subst (λ p. IsAbsent p (k ∷ two.apart.0)) (sym e) two.apart.2, tt)

  -- after an edit of both rings, the table represents two rings that share no place if the first head is not in the second ring
  pub both_represented : (new : Table E) {h k after : Place} (s u : List Place) → after ≡ h → new.extent.places ≡ 8 → Represents n new after s → Represents n new k u → IsAbsent h (k ∷ u) → TwoRings n new h k
  both_represented new s u e covers shown other out = record { covers = covers; shown = (s, subst (λ h. Represents n new h s) e shown); apart = (u, other, out) }

-- a cursor is on the last place of `front`, or on the head `h` if `front` is empty. Then the sequence `front ++ back` has a gap before the cursor
pub gap_before : (h : Place) {at : Place} (front back : List Place) → Some at ≡ last_or (Some h) front → (gap : Cut) × (join gap ≡ front ++ back) × IsBefore h gap at
gap_before h [] back e = (record { front = back; back = [] }, append-nil back, e)
gap_before h {at} (x ∷ s) back e =
    (record { front = but_last (x ∷ s); back = at ∷ back }, (sym (append_assoc (but_last (x ∷ s)) (at ∷ []) back) ∙ ap (λ f. f ++ back) (sym (split_last (x ∷ s) (sym e)))), refl)
