-- What places a holder holds after one more step.
use Rattle.std.proofs.Common.{◌≡◌, ◌≢◌, ℕ, cond, Bool, true, false, List, [], ◌∷◌, ◌++◌, refl, ap, ◌∙◌}
use Rattle.std.specs.Bool.{OnTrue, OnFalse}
use Rattle.ic_unsafe_ref.specs.declared.place.Place.{Place}
use Rattle.ic_lock_free_stack.specs.declared.step.Step.{Step}
use Rattle.ic_lock_free_stack.specs.declared.step.Step.TheVariants.{Claim, Release, Push, TakeAll}
use Rattle.ic_lock_free_stack.specs.Moments.{same, is_in, moves}
use Rattle.ic_lock_free_stack.specs.Records.{brings, holds, HoldsAlso, GivesUp, GivesUpAll, HoldsAll, HoldsTheSame}
use Rattle.ic_lock_free_stack.proofs.MomentLemmas.{holds_more, one_place, same_place, by_test, in_here}

-- two different places have different indexes
pub differ : (p q : Place) → q ≢ p → same q p ≡ false
differ p q ne = by_test (λ b. same q p ≡ b → b ≡ false) (same q p) (λ _ e. absurd (ne (one_place q p e))) (λ _ _. refl) refl

module _ (es w : List Step) (e : Step) (is : w ≡ es ++ e ∷ []) where
  pub holds_now : (p : Place) → holds p w ≡ cond (moves p e) (brings e) (holds p es)
  holds_now p = ap (holds p) is ∙ holds_more p es e

  pub holds_beside : (p : Place) → moves p e ≡ false → holds p w ≡ holds p es
  holds_beside p ne = holds_now p ∙ ap (λ b. cond b (brings e) (holds p es)) ne

  pub holds_there : (p : Place) → moves p e ≡ true → holds p w ≡ brings e
  holds_there p mv = holds_now p ∙ ap (λ b. cond b (brings e) (holds p es)) mv

pub claim_holds : (es w : List Step) (p : Place) → w ≡ es ++ Claim p true ∷ [] → holds p es ≡ false → HoldsAlso es w p
claim_holds es w p is free = record {
  was = free;
  is = holds_there es w (Claim p true) is p (same_place p);
  others = λ q ne. holds_beside es w (Claim p true) is q (differ p q ne);
}

pub refused_holds : (es w : List Step) (p : Place) → w ≡ es ++ Claim p false ∷ [] → HoldsTheSame es w
refused_holds es w p is q = holds_beside es w (Claim p false) is q refl

-- if a claim succeeded, its holder also holds the place, and otherwise the holder holds the same places as before
pub claim_by_zero : (p : Place) (b : Bool) (es w : List Step) → w ≡ es ++ Claim p b ∷ [] → (b ≡ true → holds p es ≡ false)
    → OnTrue b (HoldsAlso es w p) × OnFalse b (HoldsTheSame es w)
claim_by_zero p true es w is free = (claim_holds es w p is (free refl), tt)
claim_by_zero p false es w is free = (tt, refused_holds es w p is)

pub release_holds : (es w : List Step) (p : Place) → w ≡ es ++ Release p ∷ [] → holds p es ≡ true → GivesUp es w p
release_holds es w p is held = record {
  was = held;
  is = holds_there es w (Release p) is p (same_place p);
  others = λ q ne. holds_beside es w (Release p) is q (differ p q ne);
}

pub push_holds : (es w : List Step) (k : ℕ) (s : List Place) → w ≡ es ++ Push k s ∷ [] → ((p : Place) → is_in p s ≡ true → holds p es ≡ true) → GivesUpAll es w s
push_holds es w k s is held = record {
  was = held;
  is = λ p member. holds_there es w (Push k s) is p member;
  others = λ p none. holds_beside es w (Push k s) is p none;
}

-- if a holder has given up all places of the list `p ∷ []`, it has given up the place p
pub gives_one : (es w : List Step) (p : Place) → GivesUpAll es w (p ∷ []) → GivesUp es w p
gives_one es w p all = record {
  was = all.was p (in_here p []);
  is = all.is p (in_here p []);
  others = λ q ne. all.others q (rw (differ p q ne) refl);
}

pub take_holds : (es w : List Step) (k : ℕ) (s : List Place) → w ≡ es ++ TakeAll k s ∷ [] → ((p : Place) → is_in p s ≡ true → holds p es ≡ false) → HoldsAll es w s
take_holds es w k s is free = record {
  was = free;
  is = λ p member. holds_there es w (TakeAll k s) is p member;
  others = λ p none. holds_beside es w (TakeAll k s) is p none;
}
