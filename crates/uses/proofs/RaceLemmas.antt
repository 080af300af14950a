-- Exactly one of two claims of one place returns true, if there are only two holders and neither of them held the place.
use Rattle.std.proofs.Common.{◌≡◌, ℕ, zero, suc, Bool, true, false, true≢false, not, cond, ◌||◌, List, [], ◌∷◌, ◌++◌, map, length, refl, sym, ap, ◌∙◌, subst, arith}
use Rattle.std.proofs.lemmas.List.{length-map}
use Rattle.ic_unsafe_ref.specs.declared.place.Place.{Place}
use Rattle.ic_atomic.specs.declared.step.Event.{Event}
use Rattle.ic_atomic.specs.declared.step.Step.TheVariants.{Claim}
use Rattle.ic_atomic.specs.declared.claims.Claims.{Claims}
use Rattle.ic_atomic.specs.declared.claims.Holder.{Holder}
use Rattle.ic_atomic.specs.Prelude.{event, holds, record_at, IsOneList, holders_of, record_of, AreWholeList}
use Rattle.uses.specs.Race.{HasClaimed}
use Rattle.ic_atomic.proofs.RecordLemmas.{holds_at}
use Rattle.ic_atomic.proofs.LastStepLemmas.{same_last, snoc_not_nil, last_step}

-- the record `r`, followed by a claim of the place `p` that returned `answer`
abbrev pub with_claim : List Event → Place → Bool → List Event
with_claim r p answer = r ++ event (Claim p) (cond answer 0 1) ∷ []

-- a holder that did not hold the place `p` holds it after its claim exactly if the claim returned true
pub told_is_held : (r : List Event) (p : Place) (answer : Bool) → holds p r ≡ false → holds p (with_claim r p answer) ≡ answer
told_is_held r p true free = holds_at r (event (Claim p) 0) ∙ ap (λ b. b || true) free
told_is_held r p false free = holds_at r (event (Claim p) 1) ∙ ap (λ b. b || false) free

-- the records of two holders after both have claimed the place `p`: the record `a` and a claim that returned `x`, and the record `b` and a claim that
-- returned `y`
abbrev both : Place → List Event → List Event → Bool → Bool → List (List Event)
both p a b x y = with_claim a p x ∷ with_claim b p y ∷ []

module _ (words : List ℕ) (p : Place) (a b : List Event) (a_free : holds p a ≡ false) (b_free : holds p b ≡ false) where
  -- if the claims of both holders were refused, then no holder holds the place, and each record ends with a refused claim
  nobody : (h : ℕ) → holds p (record_at (both p a b false false) h) ≡ false
  nobody zero = told_is_held a p false a_free
  nobody (suc zero) = told_is_held b p false b_free
  nobody (suc (suc h)) = refl

  refused : (h : ℕ) (r : List Event) (e : Event) → record_at (both p a b false false) h ≡ r ++ e ∷ [] → event (Claim p) 1 ≡ e
  refused zero r e is = same_last a r (event (Claim p) 1) e is
  refused (suc zero) r e is = same_last b r (event (Claim p) 1) e is
  refused (suc (suc h)) r e is = absurd (snoc_not_nil r e is)

  pub just_one : (x y : Bool) → IsOneList words (both p a b x y) → y ≡ not x
  just_one true false one = refl
  just_one false true one = refl
  just_one true true one =
      let same : 0 ≡ 1 = one.apart 0 1 p (told_is_held a p true a_free) (told_is_held b p true b_free) in absurd (omega (arith, same))
  just_one false false one =
      let last = last_step words (both p a b false false) one 0 a (event (Claim p) 1) refl in
      let is : event (Claim p) 1 ≡ last.event = refused last.holder last.before last.event last.is in
      let held = last.refused p (sym (ap (λ (e : Event). e.step) is)) (sym (ap (λ (e : Event). e.found) is)) in
      absurd (true≢false (sym held.1 ∙ nobody held.0))

-- `a` and `b` are two holders before their claims, and `a'` and `b'` are the same holders after their claims. `items` lists all holders after an audit
module _ {A : Type 0} {claims : Claims A} {p : Place} {a b a' b' : Holder} {x y : Bool} (one : HasClaimed claims p a a' x) (two : HasClaimed claims p b b' y)
    (a_free : holds p (record_of a) ≡ false) (b_free : holds p (record_of b) ≡ false) (items : List Holder) (same : map record_of items ≡ record_of a' ∷ record_of b' ∷ []) where
  records : map record_of items ≡ both p (record_of a) (record_of b) x y
  records = same ∙ (λ i. one.step i ∷ two.step i ∷ [])

  pub told_to_one : holders_of claims ≡ 2 → (length items ≡ holders_of claims → AreWholeList claims (map record_of items)) → y ≡ not x
  told_to_one all whole =
      let list = whole (sym (length-map items record_of) ∙ ap length records ∙ sym all) in
      just_one list.words p (record_of a) (record_of b) a_free b_free x y (subst (IsOneList list.words) records list.one)

  pub held_as_told : map (λ h. holds p (record_of h)) items ≡ x ∷ y ∷ []
  held_as_told = by_record items ∙ (ap (map (holds p)) records ∙ (λ i. told_is_held (record_of a) p x a_free i ∷ told_is_held (record_of b) p y b_free i ∷ []))
    where
      by_record : (hs : List Holder) → map (λ h. holds p (record_of h)) hs ≡ map (holds p) (map record_of hs)
      by_record [] = refl
      by_record (h ∷ hs) = ap (λ l. holds p (record_of h) ∷ l) (by_record hs)
