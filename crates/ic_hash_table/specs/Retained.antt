-- A test is called for the members of a hash table, and these definitions say which members pass.
use Rattle.std.specs.Prelude.{◌≡◌, Bool, cond, Some, List, [], ◌∷◌}
use Rattle.ic_link_ops.specs.Prelude.{Place, Objects, object_at}

-- `tells f v b g`: if the test f is called for the value v, it may return b and is in the state g afterwards
module _ {F V : Type 0} (tells : F → V → Bool → F → Type 0) (objects : Objects V) where
  -- there is an object at the place p, and the test may return `answer` for it and be in the state `after` then
  abbrev pub TellsAt : F → Place → Bool → F → Type 0
  TellsAt test p answer after = (value : V) × (object_at objects p ≡ Some value) × tells test value answer after

  -- `AreAnswers test s answers last`: the test was called once for each member of s, in order, and returned the results `answers`. The test was in the state
  -- `test` before, and is in the state `last` afterwards
  abbrev pub AreAnswers : F → List Place → List Bool → F → Type 0
  AreAnswers test [] [] last = last ≡ test
  AreAnswers test [] (answer ∷ answers) last = ⊥
  AreAnswers test (p ∷ s) [] last = ⊥
  AreAnswers test (p ∷ s) (answer ∷ answers) last = (after : F) × TellsAt test p answer after × AreAnswers after s answers last

-- the members of a sequence for which the test returned true, according to the list of its results
abbrev pub passing : List Bool → List Place → List Place
passing [] s = []
passing (answer ∷ answers) [] = []
passing (answer ∷ answers) (p ∷ s) = cond answer (p ∷ passing answers s) (passing answers s)

-- the members of a sequence for which the test returned false, according to the list of its results
abbrev pub failing : List Bool → List Place → List Place
failing [] s = []
failing (answer ∷ answers) [] = []
failing (answer ∷ answers) (p ∷ s) = cond answer (failing answers s) (p ∷ failing answers s)
