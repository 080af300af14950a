-- These definitions say what a walk over a list finds, given a test or an order of its members.
use Rattle.std.specs.Prelude.{◌≡◌, ℕ, Bool, true, false, not, ◌&&◌, length, Option, Some, None, List, [], ◌∷◌, ◌++◌}
use Rattle.std.specs.List.{AllByRecursion}
use Rattle.ic_link_ops.specs.Prelude.{Place, Objects, object_at}

module _ {V : Type 0} (test : V → Bool) where
  -- the test on optional objects: a missing object does not pass the test
  abbrev pub passes : Option V → Bool
  passes None = false
  passes (Some v) = test v

  -- the test of places calls the test for the object at the place p
  abbrev pub test_at : Objects V → Place → Bool
  test_at objects p = passes (object_at objects p)

module _ {X : Type 0} (holds : X → Bool) where
  -- the test holds for no member of s
  abbrev pub HoldsNowhere : List X → Type 0
  HoldsNowhere s = AllByRecursion (λ x. holds x ≡ false) s

  -- q is the first member of s for which the test holds, and q is at `position`
  pub record HoldsFirst (s : List X) (position : ℕ) (q : X) : Type 0 where
    pub front : List X
    pub back : List X
    pub parts : s ≡ front ++ q ∷ back
    pub index : position ≡ length front
    pub before : HoldsNowhere front
    pub here : holds q ≡ true

module _ {X : Type 0} (lt : X → X → Bool) where
  -- whether x may come after `prev`: x does not go before `prev`, or there is no `prev`
  abbrev pub comes_after : Option X → X → Bool
  comes_after None x = true
  comes_after (Some p) x = not (lt x p)

  -- `ordered_from prev s`: no member of s goes before the member right before it. The first member does not go before `prev`
  abbrev pub ordered_from : Option X → List X → Bool
  ordered_from prev [] = true
  ordered_from prev (x ∷ s) = comes_after prev x && ordered_from (Some x) s

  abbrev pub are_neighbors_ordered : List X → Bool
  are_neighbors_ordered s = ordered_from None s
