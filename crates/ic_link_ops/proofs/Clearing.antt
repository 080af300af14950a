-- This file is about a walk that unlinks the members of a list one after the other, from the front. The facts in this file hold
-- for every kind of list.
use Rattle.std.proofs.Common.{◌≡◌, ◌≢◌, ◌<◌, Option, Some, None, List, [], ◌∷◌, ◌++◌, drop, length, refl, sym, ◌∙◌, ap, subst, arith, append_assoc, append-nil}
use Rattle.ic_link_ops.specs.Base.{Place, IsAbsent, IsDistinct, first, last, Table, IsCovered}
use Rattle.ic_link_ops.specs.Chains.{IsChain}
use Rattle.ic_link_ops.specs.Walk.{walked}
use Rattle.ic_link_ops.proofs.SequenceLemmas.{absent_right, distinct_middle, distinct_right, last_or-append, none_not, first_is}
use Rattle.ic_link_ops.proofs.Chains.{chain_beside}
use Rattle.ic_link_ops.proofs.Walks.{walk_blind, stretch_through}

module _ {E : Type 0} (between : E → Option Place → Option Place → Type 0) where
  -- The walk has come to `current`. The members of s before `current` are in `done`, and the members from `current` on are in
  -- `rest`. The members in `rest` are still a chain.
  pub record Releases (old new : Table E) (s : List Place) (current : Option Place) : Type 0 where
    pub done : List Place
    pub rest : List Place
    pub parts : s ≡ done ++ rest
    pub chain : IsChain between new.entry (last done) rest None
    pub at : current ≡ first rest
    pub others : (q : Place) → IsAbsent q s → new.entry q ≡ old.entry q

module _ {E : Type 0} {between : E → Option Place → Option Place → Type 0} where
  -- Before the first step no member is in `done`.
  unfoldable pub releases_none : {t : Table E} {s : List Place} {current : Option Place} → IsChain between t.entry None s None → current ≡ first s
      → Releases between t t s current
  releases_none {t} {s} {current} chain starts = record {
    done = [];
    rest = s;
    parts = refl;
    chain = chain;
    at = starts;
    others = λ q out. refl;
  }

  -- The members that are left begin with the current member p.
  rest_is : {old new : Table E} {s : List Place} {p : Place} (k : Releases between old new s (Some p)) → k.rest ≡ p ∷ drop 1 k.rest
  rest_is k = first_is k.rest k.at

  -- The entry of the current member p names the neighbors of p in the list.
  pub next_between : {old new : Table E} {s : List Place} {p : Place} (k : Releases between old new s (Some p))
      → between (new.entry p) (last k.done) (first (drop 1 k.rest))
  next_between {new = new} {p = p} k = let P : List Place → Type 0 = λ l. IsChain between new.entry (last k.done) l None in (subst P (rest_is k) k.chain).0

  -- One step unlinks the current member p. Then p is the last member in `done`, and the member after p is the current member.
  pub releases_more : {old new new' : Table E} {s : List Place} {p : Place} {current : Option Place} → IsDistinct s
      → (k : Releases between old new s (Some p)) → ((q : Place) → q ≢ p → new'.entry q ≡ new.entry q)
      → current ≡ first (drop 1 k.rest) → (k' : Releases between old new' s current) × (k.rest ≡ p ∷ k'.rest) × (k'.done ≡ k.done ++ p ∷ [])
  releases_more {old} {new} {new'} {s} {p} {current} d k same next =
      let r = drop 1 k.rest in
      let parts : s ≡ k.done ++ p ∷ r = k.parts ∙ ap (λ (l : List Place). k.done ++ l) (rest_is k) in
      let P : List Place → Type 0 = λ l. IsChain between new.entry (last k.done) l None in
      let chain : P (p ∷ r) = subst P (rest_is k) k.chain in
      let out = distinct_middle k.done r p (subst IsDistinct parts d) in (
        record {
          done = k.done ++ p ∷ [];
          rest = r;
          parts = parts ∙ sym (append_assoc k.done (p ∷ []) r);
          chain = rw (last_or-append None k.done (p ∷ []))
              (chain_beside between new.entry new'.entry (Some p) (Some p) r None (absent_right p k.done r out) (λ q e. same q (λ h. e (ap Some (sym h)))) chain.1);
          at = next;
          others = λ q h. same q (absent_right q k.done (p ∷ r) (subst (IsAbsent q) parts h)).0 ∙ k.others q h;
        },
        rest_is k,
        refl,
      )

  -- If no current member is left, all members of s are in `done`.
  pub releases_all : {old new : Table E} {s : List Place} {current : Option Place} (k : Releases between old new s current) → current ≡ None → k.done ≡ s
  releases_all {s = s} k over = whole k.rest k.parts (sym k.at ∙ over) where
    whole : (rest : List Place) → s ≡ k.done ++ rest → first rest ≡ None → k.done ≡ s
    whole [] parts none = sym (parts ∙ append-nil k.done)
    whole (x ∷ rest) parts none = absurd (none_not x (sym none))

  -- A walk from the current member on reaches exactly the members that are left. `step e before` is the place after the place of
  -- the entry e.
  pub releases_left : (step : E → Option Place → Option Place) → ((e : E) (before after : Option Place) → between e before after → step e before ≡ after)
      → {old new : Table E} {s : List Place} {current : Option Place} → ((q : Place) (b a : Option Place) → between (new.entry q) b a → IsCovered new q)
      → IsDistinct s → (k : Releases between old new s current) → walked step new (last k.done) current None ≡ k.rest
  releases_left step law {new = new} {current = current} covered d k =
      stretch_through step law new covered {b = last k.done} {from = current} {to = last k.rest}
      (record { distinct = distinct_right k.done k.rest (subst IsDistinct k.parts d); chain = k.chain; starts = k.at; ends = refl })

  -- A walk from the current member on reaches exactly the members that are left. The walk does not need to know the place before
  -- a member, because an entry alone determines the place after.
  pub releases_left_blind : (next : E → Option Place) → ((e : E) (before after : Option Place) → between e before after → next e ≡ after)
      → {old new : Table E} {s : List Place} {current : Option Place} → ((q : Place) (b a : Option Place) → between (new.entry q) b a → IsCovered new q)
      → IsDistinct s → (k : Releases between old new s current) → walked (λ e before. next e) new None current None ≡ k.rest
  releases_left_blind next law {new = new} {current = current} covered d k =
      walk_blind next new.entry new.extent.places None (last k.done) current None ∙ releases_left (λ e before. next e) law covered d k

-- After each step `rest` has one member fewer.
pub releases_fewer : {p : Place} {rest rest' was is : List Place} → was ≡ rest → is ≡ rest' → rest ≡ p ∷ rest' → length is < length was
releases_fewer was is more = omega (arith, ap length was, ap length is, ap length more)
