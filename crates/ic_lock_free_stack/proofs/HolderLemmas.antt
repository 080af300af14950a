-- Lemmas about holders whose seats have one account each, and about the chains of these holders.
use Rattle.std.proofs.Common.{rules, zero, suc, map, ◌≡◌, ◌≢◌, ℕ, ◌+◌, ◌-◌, ◌%◌, ◌<◌, ◌≤◌, ◌||◌, Bool, true, false, true≢false, Option, Some, None, List, [], ◌∷◌, ◌++◌, drop, get_or, refl, sym, ap, ◌∙◌, subst, arith, length, eq-eqb, eqb-true, ◌==◌}
use Rattle.std.specs.Bool.{OnTrue, OnFalse}
use Rattle.std.specs.List.{range_with_len}
use Rattle.std.proofs.lemmas.Option.{same_Some}
use Rattle.ic_unsafe_ref.specs.declared.place.Place.{Place}
use Rattle.ic_unsafe_ref.specs.Places.{index_of, word_of, place_at}
use Rattle.ic_unsafe_ref.specs.PlaceWords.{IsWord}
use Rattle.ic_unsafe_ref.proofs.PlaceLemmas.{word_fits, place_at_word}
use Rattle.ic_lock_free_stack.specs.Prelude.{first, same, is_in, moves, IsOnce, stack_after, brings, holds, on_head, pushes_and_takes, link_to, known_of, knows, knows_all, hand, fresh, made, noted, sees, without_first, only_first}
use Rattle.ic_lock_free_stack.specs.declared.step.Step.{Step}
use Rattle.ic_lock_free_stack.specs.declared.step.Entry.{Entry}
use Rattle.ic_lock_free_stack.specs.declared.step.Step.TheVariants.{Claim, Release, Push, TakeAll}
use Rattle.ic_lock_free_stack.specs.declared.held.Size.{Size}
use Rattle.ic_lock_free_stack.specs.declared.held.Known.{Known}
use Rattle.ic_lock_free_stack.specs.declared.held.Account.{Account}
use Rattle.ic_lock_free_stack.specs.declared.held.HeldAccounts.{HeldAccounts}
use Rattle.ic_lock_free_stack.specs.declared.stacks.Stacks.{Stacks}
use Rattle.ic_lock_free_stack.specs.declared.stacks.Holder.{Holder}
use Rattle.ic_lock_free_stack.specs.declared.stacks.Chain.{Chain}
use Rattle.ic_lock_free_stack.specs.OneHistory.{GoesOn, LooksOn}
use Rattle.ic_lock_free_stack.specs.Plays.{only, Makes, Sees}
use Rattle.ic_lock_free_stack.specs.Holders.{places_of, IsSeatOf, account_of, name_of, record_of, seen_of, Steps, Stays, Looks, IsOf, AreKnown, HasChain, IsNoChain, KeepsChains}
use Rattle.ic_lock_free_stack.proofs.MomentLemmas.{pushes_more, holds_more, one_place, same_place, by_test}
use Rattle.ic_lock_free_stack.proofs.WordLemmas.{known_mine, known_other, known_beside}

-- a link is the word of a place with 1 added, so it is at least 1
pub link_full : (o : Option Place) (n : ℕ) → n ≡ link_to o → 1 ≤ n
link_full o n e = omega (arith, e)

pub link_fits : (o : Option Place) (n : ℕ) → n ≡ link_to o → IsWord (n - 1)
link_fits o n e = subst IsWord (let f : word_of o ≡ n - 1 = omega (arith, e) in f) (word_fits o)

pub link_names : (o : Option Place) (n : ℕ) → n ≡ link_to o → place_at (n - 1) ≡ o
link_names o n e = ap place_at (let f : n - 1 ≡ word_of o = omega (arith, e) in f) ∙ place_at_word o

-- what a step changes in a holder's account: the record gains the step, and `ks` are the known words afterwards
pub record Stepped (old new : Holder) (e : Step) (ks : List Known) : Type 0 where
  pub step : Steps old new e
  pub known : (account_of new).known ≡ ks

module _ {A : Type 0} (stacks : Stacks A) where
  -- a holder whose seat has only the account b was made with the stacks, and b is its account
  module _ (h : Holder) (b : Account) (table : IsSeatOf stacks h.seat) (e : h.seat.me.0 ≡ only stacks.table.shared.key b) where
    pub account_is : account_of h ≡ b
    account_is = ap (λ (v : HeldAccounts). get_or v.accounts 0 (fresh 0)) e

    pub is_of : IsOf stacks h
    is_of = record { table = table; hand = e ∙ ap (only stacks.table.shared.key) (sym account_is) }

  -- if the known words of the places of a list stay, each of these words still names the next place
  known_through : (ks ls : List Known) (s : List Place) → ((p : Place) → is_in p s ≡ true → known_of ls p ≡ known_of ks p) → AreKnown ks s → AreKnown ls s
  known_through ks ls [] through was = tt
  known_through ks ls (p ∷ s) through was = (
    through p (by_test (λ b. same p p ≡ b → (b || is_in p s) ≡ true) (same p p) (λ _ _. refl) (λ _ e. absurd (true≢false (sym (same_place p) ∙ e))) refl) ∙ was.0,
    known_through ks ls s (λ q inside. through q (by_test (λ b. (b || is_in q s) ≡ true) (same q p) (λ _. refl) (λ _. inside))) was.1,
  )

  pub keeps_chains : (old new : Holder) (edited : Place → Bool) → length (account_of old).known ≤ length (account_of new).known
      → ((p : Place) → edited p ≡ false → holds p (record_of old) ≡ true → (known_of (account_of new).known p ≡ known_of (account_of old).known p) × (holds p (record_of new) ≡ true))
      → KeepsChains stacks old new edited
  keeps_chains old new edited longer kept chain s was clean = record {
    starts = was.starts;
    once = was.once;
    linked = known_through (account_of old).known (account_of new).known s (λ p member. (kept p (clean p member) (was.held p member)).0) was.linked;
    known = let k = was.known in omega (arith, k, longer);
    inside = was.inside;
    held = λ p member. (kept p (clean p member) (was.held p member)).1;
  }

  -- if the account of a holder's seat has gained a step, the holder has made this step
  module _ (old new : Holder) (a : Account) (e : Step) (ks : List Known) (table : IsSeatOf stacks new.seat) (makes : Makes stacks.table.shared.key a e ks new.seat.me.0) where
    pub made_is_of : IsOf stacks new
    made_is_of = is_of new (made a e makes.seen ks) table makes.same

    pub stepped : a.name ≡ name_of old → a.steps ≡ record_of old → a.seen ≡ seen_of old → Stepped old new e ks
    stepped name steps seen =
        let is : account_of new ≡ made a e makes.seen ks = account_is new (made a e makes.seen ks) table makes.same in record {
          step = record {
            name = ap (λ (b : Account). b.name) is ∙ name;
            gained = ap (λ (b : Account). b.steps) is ∙ ap (λ l. l ++ e ∷ []) steps;
            spends = ap (λ (b : Account). pushes_and_takes b.steps) is ∙ (pushes_more a.steps e ∙ ap (λ l. pushes_and_takes l + on_head e) steps);
            goes = subst (λ n. GoesOn n (seen_of old) e (seen_of new)) name (subst (λ l. GoesOn a.name l e (seen_of new)) seen (subst (GoesOn a.name a.seen e) (sym (ap (λ (b : Account). b.seen) is)) makes.goes));
          };
          known = ap (λ (b : Account). b.known) is;
        }

  step_keeps : (old new : Holder) (e : Step) (ks : List Known) → Stepped old new e ks → (edited : Place → Bool) → length (account_of old).known ≤ length ks
      → ((p : Place) → edited p ≡ false → holds p (record_of old) ≡ true → (known_of ks p ≡ known_of (account_of old).known p) × (holds p (record_of old ++ e ∷ []) ≡ true))
      → KeepsChains stacks old new edited
  step_keeps old new e ks is edited longer kept = keeps_chains old new edited (subst (λ l. length (account_of old).known ≤ length l) (sym is.known) longer) (λ p clean held.
      let k = kept p clean held in (ap (λ l. known_of l p) is.known ∙ k.0, ap (holds p) is.step.gained ∙ k.1))

  -- a holder still holds each place that it held, after a step that moves places to the holder
  still_held : (es : List Step) (e : Step) (p : Place) → brings e ≡ true → holds p es ≡ true → holds p (es ++ e ∷ []) ≡ true
  still_held es e p b held = holds_more p es e ∙ by_test (λ c. Rattle.std.proofs.Common.cond c (brings e) (holds p es) ≡ true) (moves p e) (λ _. b) (λ _. held)

  module _ (old new : Holder) (p : Place) where
    pub claim_keeps : (got : Bool) → Stepped old new (Claim p got) (account_of old).known → KeepsChains stacks old new (λ q. false)
    claim_keeps got is = step_keeps old new (Claim p got) (account_of old).known is (λ q. false) (omega arith) (λ q _ held. (refl, still_held (record_of old) (Claim p got) q refl held))

    pub release_keeps : Stepped old new (Release p) (knows p 0 ∷ (account_of old).known) → KeepsChains stacks old new (λ q. same q p)
    release_keeps is = step_keeps old new (Release p) (knows p 0 ∷ (account_of old).known) is (λ q. same q p) (omega arith)
        (λ q ne held. (known_other (account_of old).known p q 0 ne, holds_more q (record_of old) (Release p) ∙ rw ne held))

  module _ (old new : Holder) (k : ℕ) (s : List Place) where
    pub push_keeps : (ks : List Known) → Stepped old new (Push k s) ks → length (account_of old).known ≤ length ks → ((q : Place) → is_in q s ≡ false → known_of ks q ≡ known_of (account_of old).known q)
        → KeepsChains stacks old new (λ q. is_in q s)
    push_keeps ks is longer beside = step_keeps old new (Push k s) ks is (λ q. is_in q s) longer (λ q ne held. (beside q ne, holds_more q (record_of old) (Push k s) ∙ rw ne held))

  -- if each chain stays that has no place of the list `p ∷ []`, then each chain stays that does not have the place p
  pub keeps_one : (old new : Holder) (p : Place) → KeepsChains stacks old new (λ q. is_in q (p ∷ [])) → KeepsChains stacks old new (λ q. same q p)
  keeps_one old new p keeps chain s was clean = keeps chain s was (λ q member. rw (clean q member) refl)

  all_long : (t : List Place) (ks : List Known) → length (knows_all t ks) ≡ length t + length ks
  all_long [] ks = omega arith
  all_long (q ∷ t) ks = let r = all_long t ks in omega (arith, r)

  module _ (old new : Holder) (k : ℕ) (s : List Place) (free : (p : Place) → is_in p s ≡ true → holds p (record_of old) ≡ false)
      (is : Stepped old new (TakeAll k s) (knows_all s (account_of old).known)) where
    take_beside : (p : Place) → holds p (record_of old) ≡ true → known_of (knows_all s (account_of old).known) p ≡ known_of (account_of old).known p
    take_beside p held = by_test (λ b. is_in p s ≡ b → known_of (knows_all s (account_of old).known) p ≡ known_of (account_of old).known p) (is_in p s)
        (λ _ e. absurd (true≢false (sym held ∙ free p e))) (λ _ e. known_beside s (account_of old).known p e) refl

    pub take_keeps : KeepsChains stacks old new (λ p. false)
    take_keeps = step_keeps old new (TakeAll k s) (knows_all s (account_of old).known) is (λ p. false) (let l = all_long s (account_of old).known in omega (arith, l)) (λ p _ held. (take_beside p held, still_held (record_of old) (TakeAll k s) p refl held))

    -- after a call has taken the members t of a stack, the known word of each member names the next one
    all_known : (t : List Place) (ks : List Known) → IsOnce t → AreKnown (knows_all t ks) t
    all_known [] ks once = tt
    all_known (q ∷ t) ks once = (
      rw (same_place q) refl,
      known_through (knows_all t ks) (knows_all (q ∷ t) ks) t (λ p member. known_other (knows_all t ks) q p (link_to (first t))
          (by_test (λ b. same p q ≡ b → b ≡ false) (same p q) (λ _ e. absurd (true≢false (sym member ∙ (ap (λ r. is_in r t) (one_place p q e) ∙ once.0)))) (λ _ _. refl) refl)) (all_known t ks once.1),
    )

    pub take_has : (chain : Chain) → IsOnce s → chain.first ≡ first s → ((p : Place) → is_in p s ≡ true → index_of p < places_of stacks) → HasChain stacks new chain s
    take_has chain once starts inside = record {
      starts = starts;
      once = once;
      linked = subst (λ ks. AreKnown ks s) (sym is.known) (all_known s (account_of old).known once);
      known = subst (λ ks. length s ≤ length ks) (sym is.known) (let l = all_long s (account_of old).known in omega (arith, l));
      inside = inside;
      held = λ p member. ap (holds p) is.step.gained ∙ (holds_more p (record_of old) (TakeAll k s) ∙ rw member refl);
    }

-- THE FIRST PLACE OF A CHAIN: s begins with p, and the known word of p names the first of the other places
pub record Next (ks : List Known) (places : ℕ) (s : List Place) (p : Place) : Type 0 where
  pub rest : List Place
  pub is : s ≡ p ∷ rest
  pub known : known_of ks p ≡ link_to (first rest)
  pub inside : index_of p < places

next_of : (ks : List Known) (places : ℕ) (s : List Place) (p : Place) → first s ≡ Some p → AreKnown ks s → ((q : Place) → is_in q s ≡ true → index_of q < places) → Next ks places s p
next_of ks places [] p e linked inside = absurd (cc e)
next_of ks places (q ∷ s) p e linked inside =
    let here : q ≡ p = same_Some q p e in record {
      rest = s;
      is = ap (λ r. r ∷ s) here;
      known = ap (known_of ks) (sym here) ∙ linked.0;
      inside = inside p (rw (ap (same p) here ∙ same_place p) refl);
    }

module _ {A : Type 0} (stacks : Stacks A) (h : Holder) (chain : Chain) (p : Place) where
  pub chain_next : (s : List Place) → HasChain stacks h chain s → chain.first ≡ Some p → Next (account_of h).known (places_of stacks) s p
  chain_next s was e = next_of (account_of h).known (places_of stacks) s p (sym was.starts ∙ e) was.linked was.inside

  pub chain_rest : (s : List Place) → HasChain stacks h chain s → chain.first ≡ Some p → (n : ℕ) → n ≡ known_of (account_of h).known p → (left : Chain) → left.first ≡ place_at (n - 1)
      → HasChain stacks h left (drop 1 s)
  chain_rest s was e n found left is =
      let x = chain_next s was e in
      let all : HasChain stacks h chain (p ∷ x.rest) = subst (HasChain stacks h chain) x.is was in
      let member : (q : Place) → is_in q x.rest ≡ true → is_in q (p ∷ x.rest) ≡ true = λ q m. by_test (λ b. (b || is_in q x.rest) ≡ true) (same q p) (λ _. refl) (λ _. m) in
      subst (λ l. HasChain stacks h left (drop 1 l)) (sym x.is) (record {
        starts = is ∙ link_names (first x.rest) n (found ∙ x.known);
        once = all.once.1;
        linked = all.linked.1;
        known = let k = all.known in omega (arith, k);
        inside = λ q m. all.inside q (member q m);
        held = λ q m. all.held q (member q m);
      })

  pub chain_found : (s : List Place) → HasChain stacks h chain s → chain.first ≡ Some p → (index_of p < places_of stacks) × (holds p (record_of h) ≡ true) × (is_in p (drop 1 s) ≡ false)
  chain_found s was e =
      let x = chain_next s was e in
      let all : HasChain stacks h chain (p ∷ x.rest) = subst (HasChain stacks h chain) x.is was in
      (x.inside, all.held p (rw (same_place p) refl), subst (λ l. is_in p (drop 1 l) ≡ false) (sym x.is) all.once.0)

-- Lemmas about a call that reads a head to find out whether the stack is empty. The holder makes no step, and has then seen the history up to the moment of
-- the read
module _ {A : Type 0} (stacks : Stacks A) (old new : Holder) (k n : ℕ) (table : IsSeatOf stacks new.seat) (answered : Sees stacks.table.shared.key (account_of old) k n new.seat.me.0) where
  sees_is : account_of new ≡ sees answered.order (account_of old)
  sees_is = account_is stacks new (sees answered.order (account_of old)) table answered.same

  pub sees_of : IsOf stacks new
  sees_of = is_of stacks new (sees answered.order (account_of old)) table answered.same

  seen_is : seen_of new ≡ answered.order
  seen_is = ap (λ (b : Account). b.seen) sees_is

  pub sees_looks : Looks old new
  sees_looks = record {
    name = ap (λ (b : Account). b.name) sees_is;
    record_is = ap (λ (b : Account). b.steps) sees_is;
    goes = subst (LooksOn (name_of old) (seen_of old)) (sym seen_is) answered.goes;
  }

  pub sees_keeps : KeepsChains stacks old new (λ p. false)
  sees_keeps = keeps_chains stacks old new (λ p. false) (subst (λ (b : Account). length (account_of old).known ≤ length b.known) (sym sees_is) (omega arith))
      (λ p _ held. (ap (λ (b : Account). known_of b.known p) sees_is, ap (λ (b : Account). holds p b.steps) sees_is ∙ held))

  empty_by : (s : List Place) (b : Bool) → (n ≡ 1 → b ≡ true) → (b ≡ true → n ≡ 1) → n ≡ link_to (first s) → OnTrue b (s ≡ []) × OnFalse b (s ≢ [])
  empty_by [] true there back e = (refl, tt)
  empty_by [] false there back e = absurd (true≢false (sym (there e)))
  empty_by (p ∷ s) true there back e = let f : n ≡ link_to (Some p) = e in let one = back refl in absurd (omega (arith, f, one))
  empty_by (p ∷ s) false there back e = (tt, λ f. cc f)

  pub tells_empty : OnTrue (n == 1) (stack_after (seen_of new) k ≡ []) × OnFalse (n == 1) (stack_after (seen_of new) k ≢ [])
  tells_empty = subst (λ (o : List Entry). OnTrue (n == 1) (stack_after o k ≡ []) × OnFalse (n == 1) (stack_after o k ≢ [])) (sym seen_is)
      (empty_by (stack_after answered.order k) (n == 1) (λ e. eq-eqb n 1 e) (λ e. eqb-true n 1 e) answered.head)

-- if one place is in a list and another is not, the two places are different
pub apart_in : (s : List Place) (p q : Place) → is_in p s ≡ false → is_in q s ≡ true → same q p ≡ false
apart_in s p q out member = by_test (λ b. same q p ≡ b → b ≡ false) (same q p)
    (λ _ e. absurd (true≢false (sym member ∙ (ap (λ r. is_in r s) (one_place q p e) ∙ out)))) (λ _ _. refl) refl

-- two lists that begin with the same place are equal if, in both, the known words name the next places
same_from : (ks : List Known) (s t : List Place) → first s ≡ first t → AreKnown ks s → AreKnown ks t → s ≡ t
same_from ks [] [] e a b = refl
same_from ks [] (q ∷ t) e a b = absurd (cc e)
same_from ks (p ∷ s) [] e a b = absurd (cc e)
same_from ks (p ∷ s) (q ∷ t) e a b =
    let here : p ≡ q = same_Some p q e in
    let n : known_of ks p ≡ link_to (first t) = ap (known_of ks) here ∙ b.0 in
    let rest : s ≡ t = same_from ks s t (sym (link_names (first s) (known_of ks p) a.0) ∙ link_names (first t) (known_of ks p) n) a.1 b.1 in
    λ i. here i ∷ rest i

pub one_sequence : {A : Type 0} (stacks : Stacks A) (h : Holder) (chain : Chain) (s t : List Place) → HasChain stacks h chain s → HasChain stacks h chain t → s ≡ t
one_sequence stacks h chain s t a b = same_from (account_of h).known s t (sym a.starts ∙ b.starts) a.linked b.linked

pub empty_chain : {A : Type 0} (stacks : Stacks A) (h : Holder) (chain : Chain) → IsNoChain chain → HasChain stacks h chain []
empty_chain stacks h chain e = record { starts = e; once = tt; linked = tt; known = omega arith; inside = λ p f. absurd (true≢false (sym f)); held = λ p f. absurd (true≢false (sym f)) }

-- Lemmas about a call that links the place p at the front of a chain
module _ {A : Type 0} (stacks : Stacks A) (old new : Holder) (p : Place) (n : ℕ) (table : IsSeatOf stacks new.seat)
    (e : new.seat.me.0 ≡ only stacks.table.shared.key (noted (account_of old) (knows p n ∷ (account_of old).known) (account_of old).stack (account_of old).saw (account_of old).looked)) where
  abbrev linked_account : Account
  linked_account = noted (account_of old) (knows p n ∷ (account_of old).known) (account_of old).stack (account_of old).saw (account_of old).looked

  linked_is : account_of new ≡ linked_account
  linked_is = account_is stacks new linked_account table e

  pub linked_of : IsOf stacks new
  linked_of = is_of stacks new linked_account table e

  pub linked_stays : Stays old new
  linked_stays = record { name = ap (λ (b : Account). b.name) linked_is; record_is = ap (λ (b : Account). b.steps) linked_is; seen = ap (λ (b : Account). b.seen) linked_is }

  linked_beside : (q : Place) → same q p ≡ false → known_of (account_of new).known q ≡ known_of (account_of old).known q
  linked_beside q ne = ap (λ (b : Account). known_of b.known q) linked_is ∙ known_other (account_of old).known p q n ne

  pub linked_keeps : KeepsChains stacks old new (λ q. same q p)
  linked_keeps = keeps_chains stacks old new (λ q. same q p) (subst (λ (b : Account). length (account_of old).known ≤ length b.known) (sym linked_is) (omega arith))
      (λ q ne held. (linked_beside q ne, ap (holds q) linked_stays.record_is ∙ held))

  pub linked_has : (chain longer : Chain) (s : List Place) → HasChain stacks old chain s → is_in p s ≡ false → index_of p < places_of stacks → holds p (record_of old) ≡ true → n ≡ link_to chain.first → longer.first ≡ Some p
      → HasChain stacks new longer (p ∷ s)
  linked_has chain longer s was out low mine is starts =
      let now : HasChain stacks new chain s = linked_keeps chain s was (λ q member. apart_in s p q out member) in record {
        starts = starts;
        once = (out, was.once);
        linked = (ap (λ (b : Account). known_of b.known p) linked_is ∙ (known_mine (account_of old).known p n ∙ (is ∙ ap link_to was.starts)), now.linked);
        known = subst (λ (b : Account). length (p ∷ s) ≤ length b.known) (sym linked_is) (let k = was.known in omega (arith, k));
        inside = λ q. by_test (λ b. same q p ≡ b → (b || is_in q s) ≡ true → index_of q < places_of stacks) (same q p) (λ _ f _. subst (λ r. index_of r < places_of stacks) (sym (one_place q p f)) low) (λ _ _ m. was.inside q m) refl;
        held = λ q. by_test (λ b. same q p ≡ b → (b || is_in q s) ≡ true → holds q (record_of new) ≡ true) (same q p) (λ _ f _. ap (λ r. holds r (record_of new)) (one_place q p f) ∙ (ap (holds p) linked_stays.record_is ∙ mine)) (λ _ _ m. now.held q m) refl;
      }

-- the known word of the first place of a chain is not 0
pub known_link : (ks : List Known) (places : ℕ) (s : List Place) (p : Place) → Next ks places s p → known_of ks p ≢ 0
known_link ks places s p x e = let k = x.known in absurd (omega (arith, k, e))

-- the first of the new accounts is moved to a new seat, and the others stay with the old seat
module _ (size : Size) (h n m : ℕ) (v : HeldAccounts) (has : v ≡ hand size (map fresh (range_with_len h n))) (is : n ≡ suc m) where
  dealt : v ≡ hand size (fresh h ∷ map fresh (range_with_len (h + 1) m))
  dealt = has ∙ (ap (λ k. hand size (map fresh (range_with_len h k))) is ∙ ap (λ l. hand size (map fresh l)) (range_more h m))
    where
      range_more : (a k : ℕ) → range_with_len a (suc k) ≡ a ∷ range_with_len (a + 1) k
      range_more a k = search rules

  pub dealt_rest : without_first v ≡ hand size (map fresh (range_with_len (h + 1) m))
  dealt_rest = ap without_first dealt

  pub dealt_first : only_first v ≡ hand size (fresh h ∷ [])
  dealt_first = ap only_first dealt

pub map_snoc : {X Y : Type 0} (f : X → Y) (xs : List X) (x : X) → map f (xs ++ x ∷ []) ≡ map f xs ++ f x ∷ []
map_snoc f [] x = refl
map_snoc f (y ∷ ys) x = ap (λ l. f y ∷ l) (map_snoc f ys x)

pub range_snoc : (a n : ℕ) → range_with_len a (n + 1) ≡ range_with_len a n ++ (a + n) ∷ []
range_snoc a zero = search rules
range_snoc a (suc n) =
    let r : range_with_len (a + 1) (n + 1) ≡ range_with_len (a + 1) n ++ ((a + 1) + n) ∷ [] = range_snoc (a + 1) n in
    let e : (a + 1) + n ≡ a + suc n = omega arith in
    let f : suc n + 1 ≡ suc (n + 1) = omega arith in
    ap (range_with_len a) f ∙ ap (λ l. a ∷ l) (r ∙ ap (λ k. range_with_len (a + 1) n ++ k ∷ []) e)

-- if one more holder gets a new account, the names of the holders are the numbers from 0 on, one more than before
pub named_more : (hs new : List Holder) (h : Holder) (n : ℕ) → map name_of hs ≡ range_with_len 0 n → new ≡ hs ++ h ∷ [] → account_of h ≡ fresh n → map name_of new ≡ range_with_len 0 (n + 1)
named_more hs new h n was is fresh_one =
    let e : name_of h ≡ 0 + n = ap (λ (a : Account). a.name) fresh_one ∙ omega arith in
    ap (map name_of) is ∙ (map_snoc name_of hs h ∙ ((λ i. was i ++ e i ∷ []) ∙ sym (range_snoc 0 n)))
