-- Two sequences can be merged into one, and a sequence can be split in two parts.
use Rattle.std.specs.Prelude.{◌≡◌, ◌⊎◌, Bool, not, Option, Some, None, List, [], ◌∷◌, ◌++◌}
use Rattle.std.specs.Cmp.{IsTotalOrder}
use Rattle.std.specs.List.{filter, list_any}
use Rattle.std.specs.List.Sorted.{IsPermutation, IsStableBy}
use Rattle.std.specs.Ordering.{is_lt, is_eq}
use Rattle.std.specs.declared.cmp.Ordering.{Ordering}
use Rattle.std.specs.declared.cmp.Ordering.TheVariants.{Less, Equal, Greater}
use Rattle.ic_link_ops.specs.Prelude.{Place, Objects, object_at}
use Rattle.ic_rbtree.specs.Borders.{IsSorted}

module _ {X : Type 0} (cmp : X → X → Ordering) where
  -- whether x goes before y
  abbrev pub is_less : X → X → Bool
  is_less x y = is_lt (cmp x y)

  -- the sequence r has the members of s and of t. If the comparison is an order, and s and t were in order, r is in order. If s was in order, equal members
  -- keep their order, those of s before those of t
  pub record Merges (s t r : List X) : Type 0 where
    pub permutes : IsPermutation (s ++ t) r
    pub sorted : IsTotalOrder cmp → IsSorted cmp s → IsSorted cmp t → IsSorted cmp r
    pub stable : IsTotalOrder cmp → IsSorted cmp s → IsStableBy is_less (s ++ t) r

  -- whether x is equal to some member of t
  abbrev pub has_equal : List X → X → Bool
  has_equal t x = list_any (λ y. is_eq (cmp x y)) t

-- `Interleaves a b s`: the sequence s has the members of a and of b, and keeps the order within a and within b
abbrev pub Interleaves : {X : Type 0} → List X → List X → List X → Type 0
Interleaves a b [] = (a ≡ []) × (b ≡ [])
Interleaves {X} a b (z ∷ s) = ((a' : List X) × (a ≡ z ∷ a') × Interleaves a' b s) ⊎ ((b' : List X) × (b ≡ z ∷ b') × Interleaves a b' s)

module _ {X : Type 0} (cmp : X → X → Ordering) where
  -- s interleaves `common` and `rest`, which keep the order of s. If the comparison is an order, and s and t were in order, `common` has exactly the members of
  -- s that are equal to a member of t
  pub record Parts (s t common rest : List X) : Type 0 where
    pub interleaved : Interleaves common rest s
    pub common_is : IsTotalOrder cmp → IsSorted cmp s → IsSorted cmp t → common ≡ filter (has_equal cmp t) s
    pub rest_is : IsTotalOrder cmp → IsSorted cmp s → IsSorted cmp t → rest ≡ filter (λ x. not (has_equal cmp t x)) s

module _ {V : Type 0} (order : V → V → Ordering) where
  -- the order of two objects, each of which may be missing: a missing object goes before any other
  abbrev pub compared_values : Option V → Option V → Ordering
  compared_values None None = Equal
  compared_values None (Some b) = Less
  compared_values (Some a) None = Greater
  compared_values (Some a) (Some b) = order a b

  -- places are compared by the objects at them
  abbrev pub compared_at : Objects V → Place → Place → Ordering
  compared_at objects p q = compared_values (object_at objects p) (object_at objects q)
