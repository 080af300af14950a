-- A chain that is reversed, place by place.
use Rattle.std.proofs.Common.{◌≡◌, ◌||◌, true, false, true≢false, Some, None, List, [], ◌∷◌, ◌++◌, reverse, drop, append_assoc, append-nil, refl, sym, ap, ◌∙◌, subst}
use Rattle.std.proofs.lemmas.List.{reverse-append, reverse-reverse}
use Rattle.ic_unsafe_ref.specs.declared.place.Place.{Place}
use Rattle.ic_lock_free_stack.specs.declared.stacks.Stacks.{Stacks}
use Rattle.ic_lock_free_stack.specs.declared.stacks.Holder.{Holder}
use Rattle.ic_lock_free_stack.specs.declared.stacks.Chain.{Chain}
use Rattle.ic_lock_free_stack.specs.Prelude.{first, same, is_in}
use Rattle.ic_lock_free_stack.specs.Holders.{Stays, IsOf, HasChain, IsNoChain, KeepsChains}
use Rattle.ic_lock_free_stack.proofs.MomentLemmas.{by_test, one_place, in_here, in_rest}
use Rattle.ic_lock_free_stack.proofs.HolderLemmas.{apart_in, empty_chain, one_sequence}
use Rattle.ic_lock_free_stack.proofs.PushLemmas.{from_first}

-- the first place of a list is in the list
pub first_in : (l : List Place) (p : Place) → first l ≡ Some p → is_in p l ≡ true
first_in l p e = ap (is_in p) (from_first l p e) ∙ in_here p (drop 1 l)

-- during the reversal: the chain was s, the places after the current position are left, and the places before it are reversed
pub record IsTurning {A : Type 0} (stacks : Stacks A) (old now : Holder) (chain left turned : Chain) (s : List Place) : Type 0 where
  pub was : HasChain stacks old chain s
  pub made : IsOf stacks now
  pub stays : Stays old now
  pub done : List Place
  pub rest : List Place
  pub is : s ≡ reverse done ++ rest
  pub inside : (p : Place) → is_in p rest ≡ true → is_in p s ≡ true
  pub apart : (p : Place) → is_in p rest ≡ true → is_in p done ≡ false
  pub left_is : HasChain stacks now left rest
  pub turned_is : HasChain stacks now turned done
  pub keeps : KeepsChains stacks old now (λ p. is_in p s)

module _ {A : Type 0} (stacks : Stacks A) where
  pub turns_first : (h : Holder) (chain turned : Chain) (s : List Place) → IsOf stacks h → HasChain stacks h chain s → IsNoChain turned → IsTurning stacks h h chain chain turned s
  turns_first h chain turned s made was none = record {
    was = was;
    made = made;
    stays = record { name = refl; record_is = refl; seen = refl };
    done = [];
    rest = s;
    is = refl;
    inside = λ p e. e;
    apart = λ p e. refl;
    left_is = was;
    turned_is = empty_chain stacks h turned none;
    keeps = λ t u has _. has;
  }

  -- after one more place was moved, one more place is reversed
  module _ (old now new : Holder) (chain left turned left' turned' : Chain) (s : List Place) (p : Place) (was : IsTurning stacks old now chain left turned s) (found : Some p ≡ first was.rest)
      (out : is_in p (drop 1 was.rest) ≡ false) (made : IsOf stacks new) (stays : Stays now new)
      (rest_is : HasChain stacks now left' (drop 1 was.rest)) (linked : HasChain stacks new turned' (p ∷ was.done)) (keeps : KeepsChains stacks now new (λ q. same q p)) where
    abbrev rest' : List Place
    rest' = drop 1 was.rest

    split : was.rest ≡ p ∷ rest'
    split = from_first was.rest p (sym found)

    here : is_in p was.rest ≡ true
    here = first_in was.rest p (sym found)

    after : (q : Place) → is_in q rest' ≡ true → is_in q was.rest ≡ true
    after q e = ap (is_in q) split ∙ in_rest p q rest' e

    pub turns_more : IsTurning stacks old new chain left' turned' s
    turns_more = record {
      was = was.was;
      made = made;
      stays = record { name = stays.name ∙ was.stays.name; record_is = stays.record_is ∙ was.stays.record_is; seen = stays.seen ∙ was.stays.seen };
      done = p ∷ was.done;
      rest = rest';
      is = was.is ∙ (ap (λ l. reverse was.done ++ l) split ∙ (sym (append_assoc (reverse was.done) (p ∷ []) rest') ∙ ap (λ l. l ++ rest') (sym (reverse-append (p ∷ []) was.done))));
      inside = λ q e. was.inside q (after q e);
      apart = λ q e. by_test (λ b. same q p ≡ b → (b || is_in q was.done) ≡ false) (same q p)
          (λ _ f. absurd (true≢false (sym e ∙ (ap (λ r. is_in r rest') (one_place q p f) ∙ out)))) (λ _ _. was.apart q (after q e)) refl;
      left_is = keeps left' rest' rest_is (λ q e. apart_in rest' p q out e);
      turned_is = linked;
      keeps = λ t u has clean. keeps t u (was.keeps t u has clean) (λ q member. by_test (λ b. same q p ≡ b → b ≡ false) (same q p)
          (λ _ f. absurd (true≢false (sym (was.inside p here) ∙ (ap (λ r. is_in r s) (sym (one_place q p f)) ∙ clean q member)))) (λ _ _. refl) refl);
    }

  -- if no place is left, the new chain has the places of the old chain in reverse order
  pub turned_round : (old now : Holder) (chain left turned : Chain) (s : List Place) (was : IsTurning stacks old now chain left turned s) → None ≡ first was.rest
      → (t : List Place) → HasChain stacks old chain t → HasChain stacks now turned (reverse t)
  turned_round old now chain left turned s was none t has =
      let empty : was.rest ≡ [] = no_first was.rest none in
      let all : s ≡ reverse was.done = was.is ∙ (ap (λ l. reverse was.done ++ l) empty ∙ append-nil (reverse was.done)) in
      let done : was.done ≡ reverse t = sym (reverse-reverse was.done) ∙ (ap reverse (sym all) ∙ ap reverse (one_sequence stacks old chain s t was.was has)) in
      subst (HasChain stacks now turned) done was.turned_is
    where
      no_first : (l : List Place) → None ≡ first l → l ≡ []
      no_first [] e = refl
      no_first (p ∷ l) e = absurd (cc e)

  pub turned_keeps : (old now : Holder) (chain left turned : Chain) (s : List Place) → IsTurning stacks old now chain left turned s → (t : List Place) → HasChain stacks old chain t → KeepsChains stacks old now (λ p. is_in p t)
  turned_keeps old now chain left turned s was t has = subst (λ (l : List Place). KeepsChains stacks old now (λ p. is_in p l)) (one_sequence stacks old chain s t was.was has) was.keeps
