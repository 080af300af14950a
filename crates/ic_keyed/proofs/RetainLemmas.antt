-- A test is called for one value after another. The values that are not tested yet come before those that were kept, and each removal leaves one value
-- less.
use Rattle.std.proofs.Common.{◌≡◌, ℕ, ◌+◌, ◌<◌, ◌≤◌, Bool, true, false, cond, MatchOption, Option, None, Some, List, [], ◌∷◌, ◌++◌, length, take, drop, filter, refl, sym, ap, ◌∙◌, subst, arith, append-nil, append_assoc, length-append}
use Rattle.std.proofs.lemmas.Option.{same_Some}
use Rattle.ic_container.specs.Values.{first_value}
use Rattle.ic_keyed.specs.Keyed.{KeyedValues, with_values}
use Rattle.ic_keyed.specs.Tests.{AreAnswers, Tests, passing}

-- THE TEST WAS CALLED for the first `turns` values. The container then has the values `left`, which were not tested yet, and after them the tested values
-- that passed
pub record Asked {T : Type 0} (tells : T → Bool → Type 0) (values now : List T) (turns : ℕ) : Type 0 where
  pub done : List T
  pub left : List T
  pub answers : List Bool
  pub were : values ≡ done ++ left
  pub many : length done ≡ turns
  pub said : AreAnswers tells done answers
  pub are : now ≡ left ++ passing answers done

module _ {T : Type 0} (tells : T → Bool → Type 0) where
  -- ONE RESULT MORE: the test was called for one more value, and its result is added to the results
  pub said_more : (done : List T) (answers : List Bool) (first : T) (answer : Bool) → AreAnswers tells done answers → tells first answer → AreAnswers tells (done ++ first ∷ []) (answers ++ answer ∷ [])
  said_more [] [] first answer said told = (told, tt)
  said_more [] (b ∷ bs) first answer said told = absurd said
  said_more (x ∷ done) [] first answer said told = absurd said
  said_more (x ∷ done) (b ∷ bs) first answer said told = (said.0, said_more done bs first answer said.1 told)

  pub passing_more : (done : List T) (answers : List Bool) (first : T) (answer : Bool) → AreAnswers tells done answers
      → passing (answers ++ answer ∷ []) (done ++ first ∷ []) ≡ passing answers done ++ passing (answer ∷ []) (first ∷ [])
  passing_more [] [] first answer said = refl
  passing_more [] (b ∷ bs) first answer said = absurd said
  passing_more (x ∷ done) [] first answer said = absurd said
  passing_more (x ∷ done) (true ∷ bs) first answer said = ap (λ (l : List T). x ∷ l) (passing_more done bs first answer said.1)
  passing_more (x ∷ done) (false ∷ bs) first answer said = passing_more done bs first answer said.1

  -- A TEST THAT RETURNS for each value what `holds` computes lets exactly those values pass for which `holds` is true
  pub passing_are : (holds : T → Bool) → Tests tells holds → (values : List T) (answers : List Bool) → AreAnswers tells values answers → passing answers values ≡ filter holds values
  passing_are holds tests [] [] said = refl
  passing_are holds tests [] (b ∷ bs) said = absurd said
  passing_are holds tests (x ∷ values) [] said = absurd said
  passing_are holds tests (x ∷ values) (b ∷ bs) said =
      ap (λ (l : List T). cond b (x ∷ l) l) (passing_are holds tests values bs said.1) ∙ ap (λ (c : Bool). cond c (x ∷ filter holds values) (filter holds values)) (tests x b said.0)

module _ {T : Type 0} {tells : T → Bool → Type 0} {values : List T} where
  pub asked_none : Asked tells values values 0
  asked_none = record { done = []; left = values; answers = []; were = refl; many = refl; said = tt; are = sym (append-nil values) }

  module _ {now : List T} {turns : ℕ} (a : Asked tells values now turns) where
    -- the test is called for one more value
    pub asked_more : {new : List T} → turns < length values
        → ((first : T) (rest : List T) → now ≡ first ∷ rest → (answer : Bool) × tells first answer × (new ≡ rest ++ passing (answer ∷ []) (first ∷ []))) → Asked tells values new (turns + 1)
    asked_more {new} more tested = by a.left a.were a.are where
      by : (left : List T) → values ≡ a.done ++ left → now ≡ left ++ passing a.answers a.done → Asked tells values new (turns + 1)
      by [] were are = absurd (omega (arith, more, a.many, ap length were, ap length (append-nil a.done)))
      by (first ∷ left) were are =
          let t = tested first (left ++ passing a.answers a.done) are in
          record {
            done = a.done ++ first ∷ [];
            left = left;
            answers = a.answers ++ t.0 ∷ [];
            were = were ∙ sym (append_assoc a.done (first ∷ []) left);
            many = omega (arith, a.many, length-append a.done (first ∷ []));
            said = said_more tells a.done a.answers first t.0 a.said t.1;
            are = t.2 ∙ append_assoc left (passing a.answers a.done) (passing (t.0 ∷ []) (first ∷ [])) ∙ ap (λ (s : List T). left ++ s) (sym (passing_more tells a.done a.answers first t.0 a.said));
          }

    -- the test was called for all values, and the container has exactly those that passed
    pub asked_all : length values ≤ turns → (answers : List Bool) × AreAnswers tells values answers × (now ≡ passing answers values)
    asked_all all = by a.left a.were a.are where
      by : (left : List T) → values ≡ a.done ++ left → now ≡ left ++ passing a.answers a.done → (answers : List Bool) × AreAnswers tells values answers × (now ≡ passing answers values)
      by [] were are =
          let same = were ∙ append-nil a.done in
          (a.answers, subst (λ (s : List T). AreAnswers tells s a.answers) (sym same) a.said, are ∙ ap (passing a.answers) (sym same))
      by (first ∷ left) were are = absurd (omega (arith, all, a.many, ap length were, length-append a.done (first ∷ left)))

-- ONE TURN: the first value is moved to the back if it passes, or it is removed
module _ {T : Type 0} {value first : T} {others rest : List T} (same : value ∷ others ≡ first ∷ rest) where
  pub same_first : value ≡ first
  same_first = same_Some _ _ (ap first_value same)

  pub turn_kept : {answer : Bool} → answer ≡ true → others ++ value ∷ [] ≡ rest ++ passing (answer ∷ []) (first ∷ [])
  turn_kept h = ap (λ (l : List T). drop 1 l ++ take 1 l) same ∙ sym (ap (λ (b : Bool). rest ++ cond b (first ∷ []) []) h)

  pub turn_gone : {answer : Bool} → answer ≡ false → others ≡ rest ++ passing (answer ∷ []) (first ∷ [])
  turn_gone h = ap (drop 1) same ∙ sym (append-nil rest) ∙ sym (ap (λ (b : Bool). rest ++ cond b (first ∷ []) []) h)

-- a container with the old number of parts and these values is the old container with these values
pub keyed_is : {T : Type 0} (old new : KeyedValues T) (values : List T) → new.parts ≡ old.parts → new.values ≡ values → new ≡ with_values old values
keyed_is old new values alike same = λ i. record { values = same i; parts = alike i }

-- if a container with values loses its last value, it has one value less
module _ {T : Type 0} (old new : KeyedValues T) where
  pub one_out : (o : Option T) → MatchOption o ((old.values ≡ []) × (new ≡ old)) (λ last. old ≡ with_values new (new.values ++ last ∷ [])) → 1 ≤ length old.values → length new.values + 1 ≡ length old.values
  one_out None e some = absurd (omega (arith, some, ap length e.0))
  one_out (Some last) e some = omega (arith, ap (λ (k : KeyedValues T). length k.values) e, length-append new.values (last ∷ []))

  pub same_parts : (o : Option T) → MatchOption o ((old.values ≡ []) × (new ≡ old)) (λ last. old ≡ with_values new (new.values ++ last ∷ [])) → new.parts ≡ old.parts
  same_parts None e = ap (λ (k : KeyedValues T). k.parts) e.1
  same_parts (Some last) e = sym (ap (λ (k : KeyedValues T). k.parts) e)

-- a list of length 0 is empty
pub none_left : {T : Type 0} (values : List T) → length values ≡ 0 → values ≡ []
none_left [] e = refl
none_left (x ∷ values) e = absurd (omega (arith, e))
