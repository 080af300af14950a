-- If each of two lists of link steps keeps fresh summaries right, both lists together keep them right.
use Rattle.std.specs.Prelude.{◌⊎◌, List, [], ◌∷◌, ◌++◌}
use Rattle.std.proofs.Common.{inl, inr}
use Rattle.ic_link_ops.specs.Prelude.{Place, Table, LinkStep, acquires, releases, Node}
use Rattle.ic_augmented.specs.Summaries.{Summaries}
use Rattle.ic_augmented.specs.AugmentedSteps.{IsAcquired, IsRightAt}

pub acquired_in : (s t : List LinkStep) (p : Place) → IsAcquired p (s ++ t) → IsAcquired p s ⊎ IsAcquired p t
acquired_in [] t p a = inr a
acquired_in (acquires q ∷ s) t p a = elim a [
  | inl e ↦ inl (inl e)
  | inr b ↦ elim (acquired_in s t p b) [
    | inl c ↦ inl (inr c)
    | inr c ↦ inr c
  ]
]
acquired_in (releases q ∷ s) t p a = acquired_in s t p a

module _ {E S : Type 0} (n : E → Node) where
  pub right_still : (v : Table E) (z : Summaries S) (q : Place) → IsAcquired q [] ⊎ IsRightAt n v z q → IsRightAt n v z q
  right_still v z q h = elim h [
    | inl a ↦ absurd a
    | inr r ↦ r
  ]

  pub right_on : (u v w : Table E) (x y z : Summaries S) (s t : List LinkStep) → ((q : Place) → IsAcquired q s ⊎ IsRightAt n u x q → IsRightAt n v y q)
      → ((q : Place) → IsAcquired q t ⊎ IsRightAt n v y q → IsRightAt n w z q) → (q : Place) → IsAcquired q (s ++ t) ⊎ IsRightAt n u x q → IsRightAt n w z q
  right_on u v w x y z s t first next q h = elim h [
    | inl a ↦ elim (acquired_in s t q a) [
      | inl b ↦ next q (inr (first q (inl b)))
      | inr b ↦ next q (inl b)
    ]
    | inr r ↦ next q (inr (first q (inr r)))
  ]
