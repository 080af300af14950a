-- Lemmas about the calls of a receiver: which places it has returned after one further call.
use Rattle.std.proofs.Common.{◌≡◌, ℕ, ◌+◌, ◌<◌, Bool, true, false, true≢false, Option, Some, None, List, [], ◌∷◌, ◌++◌, drop, reverse, refl, sym, ap, ◌∙◌, subst, append_assoc, append-nil, eq-eqb, IfSome, IfNone}
use Rattle.std.specs.Bool.{OnTrue, OnFalse}
use Rattle.std.proofs.lemmas.List.{reverse-append}
use Rattle.ic_unsafe_ref.specs.declared.place.Place.{Place}
use Rattle.ic_unsafe_ref.specs.Places.{index_of}
use Rattle.ic_lock_free_stack.specs.declared.step.Step.{Step}
use Rattle.ic_lock_free_stack.specs.declared.step.Step.TheVariants.{Push, TakeAll}
use Rattle.ic_lock_free_stack.specs.declared.stacks.Stacks.{Stacks}
use Rattle.ic_lock_free_stack.specs.declared.stacks.Holder.{Holder}
use Rattle.ic_lock_free_stack.specs.declared.stacks.Chain.{Chain}
use Rattle.ic_lock_free_stack.specs.Prelude.{is_in, holds, on_head, pushes_and_takes, GoesOn, first, last, sent, got, of_record, places_of, name_of, record_of, seen_of, Steps, Stays, IsOf, HasChain}
use Rattle.ic_lock_free_stack.proofs.MomentLemmas.{by_test}
use Rattle.ic_lock_free_stack.proofs.HolderLemmas.{one_sequence}
use Rattle.ic_lock_free_stack.proofs.PushLemmas.{from_first}
use Rattle.stack_uses.specs.declared.mailbox.Receiver.{Receiver}
use Rattle.stack_uses.specs.Mail.{HasReceived, IsOut}
use Rattle.stack_uses.proofs.MailLemmas.{of_more}

-- one further push of `p` adds `p` to the places that a holder has sent. `got_more` says which places one further call that takes all adds to the places
-- that the holder got
pub sent_more : (k : ℕ) (es : List Step) (p : Place) → of_record (sent k) (es ++ Push k (p ∷ []) ∷ []) ≡ of_record (sent k) es ++ p ∷ []
sent_more k es p = of_more (sent k) es (Push k (p ∷ [])) ∙ ap (λ b. of_record (sent k) es ++ Rattle.std.proofs.Common.cond b (p ∷ []) []) (eq-eqb k k refl)

pub got_more : (k : ℕ) (es : List Step) (s : List Place) → of_record (got k) (es ++ TakeAll k s ∷ []) ≡ of_record (got k) es ++ reverse s
got_more k es s = of_more (got k) es (TakeAll k s) ∙ ap (λ b. of_record (got k) es ++ Rattle.std.proofs.Common.cond b (reverse s) []) (eq-eqb k k refl)

pub nothing_more : (f : Step → List Place) (es : List Step) (e : Step) → f e ≡ [] → of_record f (es ++ e ∷ []) ≡ of_record f es
nothing_more f es e none = of_more f es e ∙ (ap (λ l. of_record f es ++ l) none ∙ append-nil (of_record f es))

-- if the first of the places that were not returned yet is `p`, then the returned places and `p`, followed by the others, are all places
pub one_given : (all ps rest : List Place) (p : Place) → all ≡ ps ++ rest → first rest ≡ Some p → all ≡ (ps ++ p ∷ []) ++ drop 1 rest
one_given all ps rest p is e = is ∙ (ap (λ l. ps ++ l) (from_first rest p e) ∙ sym (append_assoc ps (p ∷ []) (drop 1 rest)))

pub none_given : (rest : List Place) → first rest ≡ None → rest ≡ []
none_given [] e = refl
none_given (p ∷ s) e = absurd (cc e)

-- the last place of `s ++ p ∷ []` is `p`. So the last place of a reversed chain is the first place of the chain (`last_turned`)
pub last_snoc : (s : List Place) (p : Place) → last (s ++ p ∷ []) ≡ Some p
last_snoc [] p = refl
last_snoc (q ∷ []) p = refl
last_snoc (q ∷ r ∷ s) p = last_snoc (r ∷ s) p

pub last_turned : (s : List Place) (p : Place) → first s ≡ Some p → last (reverse s) ≡ Some p
last_turned [] p e = absurd (cc e)
last_turned (q ∷ s) p e = ap last (reverse-append (q ∷ []) s) ∙ (last_snoc (reverse s) q ∙ e)

-- A PLACE IS RECEIVED if there is one. Otherwise the receiver has returned the same places as before
module _ {A : Type 0} (stacks : Stacks A) (old : Receiver) (ps : List Place) (was : HasReceived stacks old ps) (h : Holder) (chain : Chain) (same_holder : h ≡ old.holder)
    (left : HasChain stacks h chain (drop 1 was.rest)) where
  abbrev now : Receiver
  now = record { holder = h; mailbox = old.mailbox; opened = chain }

  still_got : of_record (got old.mailbox) (record_of h) ≡ ps ++ was.rest
  still_got = ap (λ (x : Holder). of_record (got old.mailbox) (record_of x)) same_holder ∙ was.got_is

  pub receives : (r : Option Place) → r ≡ first was.rest
      → IfSome r (λ p. (index_of p < places_of stacks) × (holds p (record_of old.holder) ≡ true) × (is_in p (drop 1 was.rest) ≡ false))
      → IfSome r (λ p. HasReceived stacks now (ps ++ p ∷ []) × IsOut stacks now p) × IfNone r (HasReceived stacks now ps)
  receives (Some p) e found = (
    (
      record { made = subst (IsOf stacks) (sym same_holder) was.made; mailbox = was.mailbox; rest = drop 1 was.rest; opened = left; got_is = one_given (of_record (got old.mailbox) (record_of h)) ps was.rest p still_got (sym e) },
      record {
        inside = found.0;
        held = ap (λ (x : Holder). holds p (record_of x)) same_holder ∙ found.1;
        apart = λ s has. subst (λ (l : List Place). is_in p l ≡ false) (one_sequence stacks h chain (drop 1 was.rest) s left has) found.2;
      },
    ),
    tt,
  )
  receives None e found =
      let none : was.rest ≡ [] = none_given was.rest (sym e) in (
        tt,
        record { made = subst (IsOf stacks) (sym same_holder) was.made; mailbox = was.mailbox; rest = drop 1 was.rest; opened = left; got_is = still_got ∙ ap (λ l. ps ++ l) (none ∙ sym (ap (drop 1) none)) },
      )

  pub received : (r : Option Place) → IfSome r (λ p. HasReceived stacks now (ps ++ p ∷ []) × IsOut stacks now p) × IfNone r (HasReceived stacks now ps) → (qs : List Place) × HasReceived stacks now qs
  received (Some p) (has, none) = (ps ++ p ∷ [], has.0)
  received None (has, none) = (ps, none)

  -- if the first of the places that were not returned yet is known to be `p`, then the receiver returns `p`
  pub receives_first : (r : Option Place) (p : Place) → r ≡ first was.rest → Some p ≡ first was.rest
      → IfSome r (λ q. (index_of q < places_of stacks) × (holds q (record_of old.holder) ≡ true) × (is_in q (drop 1 was.rest) ≡ false)) → HasReceived stacks now (ps ++ p ∷ [])
  receives_first r p e is found =
      (receives (Some p) is (subst (λ o. IfSome o (λ q. (index_of q < places_of stacks) × (holds q (record_of old.holder) ≡ true) × (is_in q (drop 1 was.rest) ≡ false))) (e ∙ sym is) found)).0.0

-- if a first call made no step, and a second call made the step `e`, then both calls together made the step `e`
pub after_stays : (a b c : Holder) (e : Step) → Stays a b → Steps b c e → Steps a c e
after_stays a b c e stays steps = record {
  name = steps.name ∙ stays.name;
  gained = steps.gained ∙ ap (λ l. l ++ e ∷ []) stays.record_is;
  goes = subst (λ n. GoesOn n (seen_of a) e (seen_of c)) stays.name (subst (λ l. GoesOn (name_of b) l e (seen_of c)) stays.seen steps.goes);
  spends = steps.spends ∙ ap (λ l. pushes_and_takes l + on_head e) stays.record_is;
}

-- a place that a holder does not hold is in none of the holder's chains
pub not_free : {A : Type 0} (stacks : Stacks A) (h : Holder) (chain : Chain) (s : List Place) (p : Place) → HasChain stacks h chain s → holds p (record_of h) ≡ false → is_in p s ≡ false
not_free stacks h chain s p has none = by_test (λ b. is_in p s ≡ b → b ≡ false) (is_in p s) (λ _ e. absurd (true≢false (sym (has.held p e) ∙ none))) (λ _ _. refl) refl

-- if `X` holds, then it also holds under the condition that a test is true
pub on_true : {X : Type 0} (b : Bool) → X → OnTrue b X
on_true true x = x
on_true false x = tt

pub on_false : {X : Type 0} (b : Bool) → X → OnFalse b X
on_false true x = tt
on_false false x = x

pub map_some : {P Q : Place → Type 0} (r : Option Place) → ((p : Place) → P p → Q p) → IfSome r P → IfSome r Q
map_some (Some p) f x = f p x
map_some None f x = tt
