-- A test is called for values, and these definitions say what it returns.
use Rattle.std.specs.Prelude.{◌≡◌, Bool, cond, List, [], ◌∷◌}

-- `tells v b` says that a test may return b for the value v. `Tests tells holds` says that the test returns for each value what `holds` computes
abbrev pub Tests : {T : Type 0} → (T → Bool → Type 0) → (T → Bool) → Type 0
Tests {T} tells holds = (value : T) (answer : Bool) → tells value answer → answer ≡ holds value

-- THE TEST WAS CALLED once with each value of a sequence, in its order, and returned the given results
abbrev pub AreAnswers : {T : Type 0} → (T → Bool → Type 0) → List T → List Bool → Type 0
AreAnswers tells [] [] = Unit {0}
AreAnswers tells [] (answer ∷ answers) = ⊥
AreAnswers tells (value ∷ values) [] = ⊥
AreAnswers tells (value ∷ values) (answer ∷ answers) = tells value answer × AreAnswers tells values answers

-- the values for which the test returned true
abbrev pub passing : {T : Type 0} → List Bool → List T → List T
passing [] values = []
passing (answer ∷ answers) [] = []
passing (answer ∷ answers) (value ∷ values) = cond answer (value ∷ passing answers values) (passing answers values)
