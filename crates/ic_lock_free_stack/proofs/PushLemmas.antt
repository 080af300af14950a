-- Lemmas about a holder that tries to push a chain: what stays the same from try to try, and why the tries come to an end.
use Rattle.std.proofs.Common.{length, ◌≡◌, ◌≢◌, ℕ, ◌+◌, ◌<◌, ◌≤◌, ◌||◌, false, true, true≢false, Some, List, [], ◌∷◌, drop, refl, sym, ap, ◌∙◌, subst, arith}
use Rattle.std.proofs.lemmas.Option.{same_Some}
use Rattle.ic_unsafe_ref.specs.declared.place.Place.{Place}
use Rattle.ic_unsafe_ref.specs.Places.{index_of}
use Rattle.ic_lock_free_stack.specs.Prelude.{first, last, same, is_in, IsOnce, holds, known_of, knows, AreKnownTo, forgets, noted}
use Rattle.ic_lock_free_stack.specs.declared.held.Known.{Known}
use Rattle.ic_lock_free_stack.specs.declared.held.Account.{Account}
use Rattle.ic_lock_free_stack.specs.declared.stacks.Stacks.{Stacks}
use Rattle.ic_lock_free_stack.specs.declared.stacks.Holder.{Holder}
use Rattle.ic_lock_free_stack.specs.declared.stacks.Chain.{Chain}
use Rattle.ic_lock_free_stack.specs.Plays.{only, Misses}
use Rattle.ic_lock_free_stack.specs.Holders.{places_of, IsSeatOf, account_of, record_of, AreKnown, AreKnownBut, HasChain, IsReady}
use Rattle.ic_lock_free_stack.proofs.MomentLemmas.{one_place, same_place, by_test, in_rest}
use Rattle.ic_lock_free_stack.proofs.WordLemmas.{known_mine, known_other, knowledge_left, forgets_long}

-- between two tries: the holder has seen the head `head`, at a count of steps on heads that is no less than the number of tries
pub record IsTrying {A : Type 0} (stacks : Stacks A) (old now : Holder) (k : ℕ) (p : Place) (head tries : ℕ) : Type 0 where
  pub known : List Known
  pub looked : ℕ
  pub table : IsSeatOf stacks now.seat
  pub hand : now.seat.me.0 ≡ only stacks.table.shared.key (noted (account_of old) known k head looked)
  pub beside : (q : Place) → same q p ≡ false → known_of known q ≡ known_of (account_of old).known q
  pub longer : length (account_of old).known ≤ length known
  pub some : head ≢ 0
  pub counted : tries ≤ looked
  pub few : looked < 18446744073709551615

-- the last place of a list is in the list, and the first place comes before all others
pub last_in : (s : List Place) (p : Place) → last s ≡ Some p → is_in p s ≡ true
last_in [] p e = absurd (cc e)
last_in (q ∷ []) p e = rw (ap (same p) (same_Some q p e) ∙ same_place p) refl
last_in (q ∷ r ∷ s) p e = in_rest q p (r ∷ s) (last_in (r ∷ s) p e)

pub from_first : (s : List Place) (p : Place) → first s ≡ Some p → s ≡ p ∷ drop 1 s
from_first [] p e = absurd (cc e)
from_first (q ∷ s) p e = ap (λ r. r ∷ s) (same_Some q p e)

-- if one place is in a list and another is not, the two places are different
apart_from : (q p : Place) (s : List Place) → is_in q s ≡ false → is_in p s ≡ true → same q p ≡ false
apart_from q p s out member = by_test (λ b. same q p ≡ b → b ≡ false) (same q p)
    (λ _ e. absurd (true≢false (sym member ∙ (ap (λ r. is_in r s) (sym (one_place q p e)) ∙ out)))) (λ _ _. refl) refl

-- after the word `head` was written to the last place of a chain, the known word of each place names the next place, and the known word of the last place is
-- `head`
known_to : (ks known : List Known) (s : List Place) (p : Place) (head : ℕ) → ((q : Place) → same q p ≡ false → known_of known q ≡ known_of ks q)
    → IsOnce s → AreKnownBut ks s → last s ≡ Some p → AreKnownTo (knows p head ∷ known) s head
known_to ks known [] p head beside once but ends = tt
known_to ks known (q ∷ []) p head beside once but ends = (ap (known_of (knows p head ∷ known)) (same_Some q p ends) ∙ known_mine known p head, tt)
known_to ks known (q ∷ r ∷ s) p head beside once but ends =
    let ne : same q p ≡ false = apart_from q p (r ∷ s) once.0 (last_in (r ∷ s) p ends) in
    (known_other known p q head ne ∙ (beside q ne ∙ but.0), known_to ks known (r ∷ s) p head beside once.1 but.1 ends)

-- if the known word of each place of a list names the next place, the known word of each place except the last does
known_but : (ks : List Known) (s : List Place) → AreKnown ks s → AreKnownBut ks s
known_but ks [] known = tt
known_but ks (p ∷ []) known = tt
known_but ks (p ∷ q ∷ s) known = (known.0, known_but ks (q ∷ s) known.1)

pub chain_ready : {A : Type 0} (stacks : Stacks A) (h : Holder) (chain : Chain) (front back : Place) (s : List Place) → HasChain stacks h chain s → chain.first ≡ Some front → last s ≡ Some back
    → IsReady stacks h front back s
chain_ready stacks h chain front back s was starts ends = record {
  starts = sym was.starts ∙ starts;
  ends = ends;
  once = was.once;
  linked = known_but (account_of h).known s was.linked;
  inside = was.inside;
  held = was.held;
}

-- a single place that its holder holds is ready for a push
pub one_ready : {A : Type 0} (stacks : Stacks A) (h : Holder) (p : Place) → index_of p < places_of stacks → holds p (record_of h) ≡ true → IsReady stacks h p p (p ∷ [])
one_ready stacks h p low held = record {
  starts = refl;
  ends = refl;
  once = (refl, tt);
  linked = tt;
  inside = λ q e. subst (λ r. index_of r < places_of stacks) (sym (only_one q e)) low;
  held = λ q e. ap (λ r. holds r (record_of h)) (only_one q e) ∙ held;
}
  where
    only_one : (q : Place) → is_in q (p ∷ []) ≡ true → q ≡ p
    only_one q = by_test (λ b. same q p ≡ b → (b || false) ≡ true → q ≡ p) (same q p) (λ _ e _. one_place q p e) (λ _ _ f. absurd (true≢false (sym f))) refl

module _ {A : Type 0} (stacks : Stacks A) (old now : Holder) (k : ℕ) (p : Place) (head tries : ℕ) (was : IsTrying stacks old now k p head tries) where
  -- `ready` is the account of the holder between the store of a link and the compare-exchange of the head. What is known after a push follows from this account
  abbrev pub ready : Account
  ready = noted (account_of old) (knows p head ∷ was.known) k head was.looked

  module _ (s : List Place) (front : Place) (chain : IsReady stacks old front p s) where
    pub ready_known : AreKnownTo ready.known s head
    ready_known = known_to (account_of old).known was.known s p head was.beside chain.once chain.linked chain.ends

    pub ready_beside : (q : Place) → is_in q s ≡ false → known_of (forgets s ready.known) q ≡ known_of (account_of old).known q
    ready_beside q out =
        let ne : same q p ≡ false = apart_from q p s out (last_in s p chain.ends) in
        knowledge_left s ready.known q out ∙ (known_other was.known p q head ne ∙ was.beside q ne)

    pub ready_longer : length (account_of old).known ≤ length (forgets s ready.known)
    ready_longer = let l = was.longer in let f = forgets_long s ready.known in omega (arith, l, f)

  -- if a try has found another head, the holder can make one more try
  pub tries_more : (new : Holder) (n : ℕ) → IsSeatOf stacks new.seat → Misses stacks.table.shared.key ready k n new.seat.me.0 → IsTrying stacks old new k p n (tries + 1)
  tries_more new n table missed = record {
    known = knows p head ∷ was.known;
    looked = missed.count;
    table = table;
    hand = missed.same;
    beside = λ q ne. known_other was.known p q head ne ∙ was.beside q ne;
    longer = let l = was.longer in omega (arith, l);
    some = missed.some;
    counted = let a = was.counted in let b = missed.later in omega (arith, a, b);
    few = missed.few;
  }
