-- This file proves facts about chains. A chain can be cut, and chains can be joined. The neighbors at the ends of a chain can be
-- changed. A chain stays if the entries of its members stay.
use Rattle.std.proofs.Common.{◌≡◌, ◌≢◌, Option, Some, None, List, [], ◌∷◌, ◌++◌, reverse, Bool, true, false, refl, sym, ap}
use Rattle.ic_link_ops.specs.Base.{Place, IsAbsent, IsDistinct, IsDisjoint, first_or, last_or, first, last, but_last}
use Rattle.ic_link_ops.specs.Chains.{IsChain}
use Rattle.ic_link_ops.specs.Turns.{TurnsAfter, TurnsBefore}
use Rattle.ic_link_ops.proofs.SequenceLemmas.{IsOutside, first_or-append, absent_left, absent_right, distinct_disjoint, distinct_left, distinct_right, distinct_middle, distinct_remove, last_outside, first_outside, last_not, none_not, some_same, disjoint_left, disjoint_right, disjoint_sym, reverse_cons, last_of_reverse}

module _ {E : Type 0} (between : E → Option Place → Option Place → Type 0) where
  -- A chain stays if no entry of its members changes.
  pub chain_kept : (old new : Place → E) (b : Option Place) (s : List Place) (a : Option Place)
      → ((q : Place) → (IsAbsent q s → ⊥) → new q ≡ old q) → IsChain between old b s a → IsChain between new b s a
  chain_kept old new b [] a same c = tt
  chain_kept old new b (x ∷ s) a same c =
      (rw (same x (λ h. h.0 refl)) c.0, chain_kept old new (Some x) s a (λ q h. same q (λ k. h k.1)) c.1)

  -- A chain stays if only the entry at the place `at` changes and this place is not a member of the chain.
  pub chain_beside : (old new : Place → E) (at b : Option Place) (s : List Place) (a : Option Place)
      → IsOutside at s → ((q : Place) → at ≢ Some q → new q ≡ old q) → IsChain between old b s a → IsChain between new b s a
  chain_beside old new at b s a out same c = chain_kept old new b s a (λ q member. same q (λ e. member (rw e at out))) c

  -- A chain s stays if only entries at members of t change and s and t share no member.
  pub chain_frame : (old new : Place → E) (b : Option Place) (s : List Place) (a : Option Place) (t : List Place)
      → IsDisjoint s t → ((q : Place) → IsAbsent q t → new q ≡ old q) → IsChain between old b s a → IsChain between new b s a
  chain_frame old new b [] a t apart same c = tt
  chain_frame old new b (x ∷ s) a t apart same c = (rw (same x apart.0) c.0, chain_frame old new (Some x) s a t apart.1 same c.1)

  -- If the sequence s followed by r is a chain, both s and r are chains.
  pub chain_cut : (t : Place → E) (b : Option Place) (s r : List Place) (a : Option Place)
      → IsChain between t b (s ++ r) a → IsChain between t b s (first_or r a) × IsChain between t (last_or b s) r a
  chain_cut t b [] r a c = (tt, c)
  chain_cut t b (x ∷ s) r a c = let k = chain_cut t (Some x) s r a c.1 in ((rw (← first_or-append s r a) c.0, k.0), k.1)

  -- Let s and r be chains. If r begins after the last place of s, and s ends before the first place of r, the sequence of s
  -- followed by r is a chain.
  pub chain_glue : (t : Place → E) (b : Option Place) (s r : List Place) (a : Option Place)
      → IsChain between t b s (first_or r a) → IsChain between t (last_or b s) r a → IsChain between t b (s ++ r) a
  chain_glue t b [] r a c k = k
  chain_glue t b (x ∷ s) r a c k = (rw (first_or-append s r a) c.0, chain_glue t (Some x) s r a c.1 k)

  -- If the place after the last member of the chain s changes from a to a', s is a chain with a' after it.
  pub chain_last : (old new : Place → E) (b : Option Place) (s : List Place) (a a' : Option Place)
      → TurnsAfter between old new (last s) a a' → IsDistinct s → IsChain between old b s a → IsChain between new b s a'
  chain_last old new b [] a a' turn d c = tt
  chain_last old new b (x ∷ []) a a' turn d c = (turn.turned x b refl c.0, tt)
  chain_last old new b (x ∷ y ∷ s) a a' turn d c = (
    rw (turn.others x (last_not (Some y) s x (λ e. d.0.0 (sym (some_same e))) d.0.1)) c.0,
    chain_last old new (Some x) (y ∷ s) a a' turn d.1 c.1,
  )

  -- If the place before the first member of the chain s changes from b to b', s is a chain with b' before it.
  pub chain_first : (old new : Place → E) (b b' : Option Place) (s : List Place) (a : Option Place)
      → TurnsBefore between old new (first s) b b' → IsDistinct s → IsChain between old b s a → IsChain between new b' s a
  chain_first old new b b' [] a turn d c = tt
  chain_first old new b b' (x ∷ s) a turn d c =
      (turn.turned x (first_or s a) refl c.0, chain_beside old new (Some x) (Some x) s a d.0 turn.others c.1)

  -- First the place after the last member of s changes to x, and then the place before the first member of r changes to y. Then s
  -- is a chain with x after it, and r is a chain with y before it.
  pub chain_parts : (t0 t1 t2 : Place → E) (s r : List Place) (f g x y : Option Place) → IsDistinct (s ++ r)
      → TurnsAfter between t0 t1 (last s) f x → TurnsBefore between t1 t2 (first r) g y
      → IsChain between t0 None s f → IsChain between t0 g r None → IsChain between t2 None s x × IsChain between t2 y r None
  chain_parts t0 t1 t2 s r f g x y d after before c k =
      let apart = distinct_disjoint s r d in (
        chain_beside t1 t2 (first r) None s x (first_outside s r apart) before.others (chain_last t0 t1 None s f x after (distinct_left s r d) c),
        chain_first t1 t2 g y r None before (distinct_right s r d) (chain_beside t0 t1 (last s) g r None (last_outside None s r tt apart) after.others k),
      )

  -- If the place p is inserted between the chains s and r, the sequence of s, p and r is one chain.
  pub chain_filled : (t0 t1 t2 t3 : Place → E) (s : List Place) (p : Place) (r : List Place) (f g : Option Place) → IsDistinct (s ++ p ∷ r)
      → TurnsAfter between t0 t1 (last s) f (Some p) → TurnsBefore between t1 t2 (first r) g (Some p)
      → between (t3 p) (last s) (first r) → ((q : Place) → q ≢ p → t3 q ≡ t2 q)
      → IsChain between t0 None s f → IsChain between t0 g r None → IsChain between t3 None (s ++ p ∷ r) None
  chain_filled t0 t1 t2 t3 s p r f g d after before stands same c k =
      let out = distinct_middle s r p d in
      let others : (q : Place) → Some p ≢ Some q → t3 q ≡ t2 q = λ q n. same q (λ e. n (ap Some (sym e))) in
      let parts = chain_parts t0 t1 t2 s r f g (Some p) (Some p) (distinct_remove s r p d) after before c k in
      chain_glue t3 None s (p ∷ r) None (chain_beside t2 t3 (Some p) None s (Some p) (absent_left p s r out) others parts.0)
      (stands, chain_beside t2 t3 (Some p) (Some p) r None (absent_right p s r out) others parts.1)

  -- If a second chain is inserted at a gap of a first chain, the whole sequence is a chain. First the entries on both sides of
  -- the gap are changed, and then the entries of the second chain's first and last member.
  pub chain_spliced : (t0 t1 t2 t3 t4 : Place → E) (s : List Place) (x : Place) (mid r : List Place)
      → IsDistinct (s ++ r) → IsDistinct (x ∷ mid) → IsDisjoint (x ∷ mid) (s ++ r)
      → TurnsAfter between t0 t1 (last s) (first r) (Some x) → TurnsBefore between t1 t2 (first r) (last s) (last (x ∷ mid))
      → TurnsBefore between t2 t3 (Some x) None (last s) → TurnsAfter between t3 t4 (last (x ∷ mid)) None (first r)
      → IsChain between t0 None (s ++ r) None → IsChain between t0 None (x ∷ mid) None → IsChain between t4 None (s ++ (x ∷ mid ++ r)) None
  chain_spliced t0 t1 t2 t3 t4 s x mid r d e apart turn1 turn2 turn3 turn4 c k =
      let m = x ∷ mid in
      let m_s = disjoint_left m s r apart in
      let m_r = disjoint_right m s r apart in
      let s_m = disjoint_sym m s m_s in
      let cut = chain_cut t0 None s r None c in
      let parts = chain_parts t0 t1 t2 s r (first r) (last s) (Some x) (last m) d turn1 turn2 cut.0 cut.1 in
      let m1 = chain_beside t0 t1 (last s) None m None (last_outside None s m tt s_m) turn1.others k in
      let m2 = chain_beside t1 t2 (first r) None m None (first_outside m r m_r) turn2.others m1 in
      let m3 = chain_first t2 t3 None (last s) m None turn3 e m2 in
      let m4 = chain_last t3 t4 (last s) m None (first r) turn4 e m3 in
      let s3 = chain_beside t2 t3 (Some x) None s (Some x) m_s.0 turn3.others parts.0 in
      let s4 = chain_beside t3 t4 (last m) None s (Some x) (last_outside None m s tt m_s) turn4.others s3 in
      let r3 = chain_beside t2 t3 (Some x) (last m) r None m_r.0 turn3.others parts.1 in
      let r4 = chain_beside t3 t4 (last m) (last m) r None (last_outside None m r tt m_r) turn4.others r3 in
      chain_glue t4 None s (m ++ r) None s4 (chain_glue t4 (last s) m r None m4 r4)

  -- The entry of the last member of a chain names the places before and after this member (`last_between`), and so does the entry
  -- of the first member (`first_between`).
  pub last_between : (t : Place → E) (b : Option Place) (s : List Place) (a : Option Place) {q : Place}
      → IsChain between t b s a → Some q ≡ last s → between (t q) (last_or b (but_last s)) a
  last_between t b [] a {q} c e = absurd (none_not q (sym e))
  last_between t b (x ∷ []) a c e = rw (some_same e) c.0
  last_between t b (x ∷ y ∷ s) a c e = last_between t (Some x) (y ∷ s) a c.1 e

  pub first_between : (t : Place → E) (b : Option Place) (x : Place) (s : List Place) (a : Option Place) {q : Place}
      → IsChain between t b (x ∷ s) a → q ≡ x → between (t q) b (first_or s a)
  first_between t b x s a c e = rw e c.0

  -- A chain for the relation `between` is also a chain for every relation that `between` implies.
  pub chain_weakened : (weaker : E → Option Place → Option Place → Type 0) → ((e : E) (b a : Option Place) → between e b a → weaker e b a)
      → (t : Place → E) (b : Option Place) (s : List Place) (a : Option Place) → IsChain between t b s a → IsChain weaker t b s a
  chain_weakened weaker weaken t b [] a c = tt
  chain_weakened weaker weaken t b (x ∷ s) a c = (weaken (t x) b (first_or s a) c.0, chain_weakened weaker weaken t (Some x) s a c.1)

  -- If an entry and the place before determine the place after, two chains that begin with the same place are equal.
  pub chain_one : ((e : E) (a b c : Option Place) → between e a b → between e a c → b ≡ c)
      → (t : Place → E) (b : Option Place) (s r : List Place) → first s ≡ first r → IsChain between t b s None → IsChain between t b r None → s ≡ r
  chain_one one t b [] [] e c k = refl
  chain_one one t b [] (y ∷ r) e c k = absurd (none_not y e)
  chain_one one t b (x ∷ s) [] e c k = absurd (none_not x (sym e))
  chain_one one t b (x ∷ s) (y ∷ r) e c k =
      let same : y ≡ x = some_same (sym e) in
      let k' = rw same at k in
      rw same (ap (λ (l : List Place). x ∷ l) (chain_one one t (Some x) s r (one (t x) b (first s) (first r) c.0 k'.0) c.1 k'.1))

  module _ (linked : E → Bool) (law : (e : E) (b a : Option Place) → between e b a → linked e ≡ true) where
    -- A place that is not linked is no member of a chain of linked places.
    pub chain_absent : (t : Place → E) (b : Option Place) (s : List Place) (a : Option Place) (p : Place)
        → IsChain between t b s a → linked (t p) ≡ false → IsAbsent p s
    chain_absent t b [] a p c free = tt
    chain_absent t b (x ∷ s) a p c free =
        ((λ e. let k : linked (t p) ≡ true = rw e (law (t x) b (first_or s a) c.0) in cc), chain_absent t (Some x) s a p c.1 free)

-- In the mirrored relation of neighbors, the place before and the place after are exchanged.
abbrev pub mirrored : {E : Type 0} → (E → Option Place → Option Place → Type 0) → E → Option Place → Option Place → Type 0
mirrored between e b a = between e a b

module _ {E : Type 0} (between : E → Option Place → Option Place → Type 0) where
  -- A chain in reverse order is a chain for the mirrored relation.
  pub chain_mirrored : (t : Place → E) (b : Option Place) (s : List Place) (a : Option Place)
      → IsChain between t b s a → IsChain (mirrored between) t a (reverse s) b
  chain_mirrored t b [] a c = tt
  chain_mirrored t b (x ∷ s) a c =
      rw (reverse_cons x s) (chain_glue (mirrored between) t a (reverse s) (x ∷ []) b (chain_mirrored t (Some x) s a c.1) (rw (last_of_reverse a s) c.0, tt))

  -- If the relation of neighbors is symmetric, the chain in reverse order is a chain for the same relation.
  pub chain_reversed : ((e : E) (b a : Option Place) → between e b a → between e a b)
      → (t : Place → E) (b : Option Place) (s : List Place) (a : Option Place) → IsChain between t b s a → IsChain between t a (reverse s) b
  chain_reversed turn t b s a c =
      chain_weakened (mirrored between) between (λ e x y. turn e y x) t a (reverse s) b (chain_mirrored t b s a c)
