-- Lemmas on the last step in the list of all steps. If this step is a claim that was refused, some holder holds the place.
use Rattle.std.proofs.Common.{◌≡◌, ℕ, cond, eq-eqb, List, [], ◌∷◌, ◌++◌, map, length, refl, sym, ap, ◌∙◌, arith, Option, Some, None}
use Rattle.ic_link_ops.specs.Prelude.{Place, index_of}
use Rattle.ic_atomic.specs.declared.step.Step.{Step}
use Rattle.ic_atomic.specs.declared.step.Step.TheVariants.{Claim}
use Rattle.ic_atomic.specs.declared.step.Event.{Event}
use Rattle.ic_atomic.specs.ClaimMap.{no_claims, target, holder_after, map_after, last_map}
use Rattle.ic_atomic.specs.OneList.{Entry, request_of, found_by, steps_of, record_at, word_for, words_found, IsHeld, IsOneList}
use Rattle.ic_atomic.proofs.Lists.{map-snoc, last_map-snoc, words_found-snoc}
use Rattle.ic_atomic.proofs.OneListLemmas.{end_map, ends_of, someone, steps_of-mine}

module _ {A : Type 0} where
  -- the last element of a list, or d if the list is empty
  abbrev last_or : A → List A → A
  last_or d [] = d
  last_or d (x ∷ xs) = last_or x xs

  last_or-snoc : (d : A) (xs : List A) (a : A) → last_or d (xs ++ a ∷ []) ≡ a
  last_or-snoc d [] a = refl
  last_or-snoc d (x ∷ xs) a = last_or-snoc x xs a

  -- if two lists are equal, their last elements are equal
  pub same_last : (xs ys : List A) (a b : A) → xs ++ a ∷ [] ≡ ys ++ b ∷ [] → a ≡ b
  same_last xs ys a b e = sym (last_or-snoc a xs a) ∙ (ap (last_or a) e ∙ last_or-snoc a ys b)

  pub snoc_not_nil : (xs : List A) (a : A) → [] ≡ xs ++ a ∷ [] → ⊥
  snoc_not_nil [] a e = let short = ap length e in absurd (omega (arith, short))
  snoc_not_nil (x ∷ xs) a e = let short = ap length e in absurd (omega (arith, short))

  -- a list that is not empty is its last element and the elements before it
  record Parted (l : List A) : Type 0 where
    before : List A
    last : A
    is : l ≡ before ++ last ∷ []

  parted : (x : A) (xs : List A) → Parted (x ∷ xs)
  parted x [] = record { before = []; last = x; is = refl }
  parted x (y ∷ ys) = let rest = parted y ys in record { before = x ∷ rest.before; last = rest.last; is = ap (λ l. x ∷ l) rest.is }

-- a claim of a place that a party holds does not change the holder of the place
refused_leaves : (o : Option ℕ) (a : ℕ) (p : Place) → word_for o ≡ 1 → holder_after o a (Claim p) ≡ o
refused_leaves None a p e = absurd (omega (arith, e))
refused_leaves (Some h) a p e = refl

-- the last step in the list of all steps is also the last step in the record of its holder
pub record LastStep (records : List (List Event)) : Type 0 where
  pub holder : ℕ
  pub before : List Event
  pub event : Event
  pub is : record_at records holder ≡ before ++ event ∷ []
  -- If the last step is a claim that was refused, some holder holds the place.
  pub refused : (p : Place) → event.step ≡ Claim p → event.found ≡ 1 → IsHeld records p

module _ (words : List ℕ) (records : List (List Event)) (one : IsOneList words records) where
  last_of : (before : List Entry) (x : Entry) → one.order ≡ before ++ x ∷ [] → LastStep records
  last_of before x ended =
      let found : x.event.found ≡ word_for (end_map before (target x.event.step)) =
      same_last (map found_by before) (words_found no_claims (map request_of before)) x.event.found (word_for (end_map before (target x.event.step)))
      (sym (map-snoc found_by before x) ∙ (ap (map found_by) (sym ended) ∙ (one.found ∙ (ap (λ (order : List Entry). words_found no_claims (map request_of order)) ended ∙ (ap (words_found no_claims) (map-snoc request_of before x) ∙ words_found-snoc no_claims (map request_of before) (request_of x)))))) in
      record {
        holder = x.holder;
        before = steps_of x.holder before;
        event = x.event;
        is = sym (one.own x.holder) ∙ (ap (steps_of x.holder) ended ∙ steps_of-mine x.holder before x (eq-eqb x.holder x.holder refl));
        refused = λ p claims one_found.
            let i : ℕ = index_of p in
            let was : word_for (end_map before p) ≡ 1 = ap (λ (s : Step). word_for (end_map before (target s))) (sym claims) ∙ (sym found ∙ one_found) in
            let step : end_map one.order ≡ map_after (end_map before) x.holder (Claim p) =
            ap end_map ended ∙ (ap (last_map no_claims) (map-snoc request_of before x) ∙ (last_map-snoc no_claims (map request_of before) (request_of x) ∙ ap (map_after (end_map before) x.holder) claims)) in
            let end : end_map one.order p ≡ end_map before p =
            ap (λ m. m p) step ∙ (ap (λ b. cond b (holder_after (end_map before p) x.holder (Claim p)) (end_map before p)) (eq-eqb i i refl) ∙ refused_leaves (end_map before p) x.holder p was) in
            let by = someone (end_map one.order p) (ap word_for end ∙ was) in
            (by.0, sym (ends_of words records one by.0 p) ∙ by.1);
      }

  -- if the record of some holder has a step, the list of all steps has a last step
  pub last_step : (h : ℕ) (r : List Event) (e : Event) → record_at records h ≡ r ++ e ∷ [] → LastStep records
  last_step h r e has = from one.order refl
    where
      from : (order : List Entry) → one.order ≡ order → LastStep records
      from [] is = absurd (snoc_not_nil r e (sym (ap (steps_of h) is) ∙ (one.own h ∙ has)))
      from (x ∷ xs) is = let p = parted x xs in last_of p.before p.last (is ∙ p.is)
