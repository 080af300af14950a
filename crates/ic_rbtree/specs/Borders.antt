-- These definitions state where a searched key belongs in a sequence of members.
use Rattle.std.specs.Prelude.{◌≡◌, ◌≢◌, Bool, cond, Option, Some, None, List, [], ◌∷◌, ◌++◌}
use Rattle.std.specs.List.{AllByRecursion}
use Rattle.std.specs.declared.cmp.Ordering.{Ordering}
use Rattle.std.specs.declared.cmp.Ordering.TheVariants.{Less, Equal, Greater}
use Rattle.std.specs.Ordering.{is_eq, is_le}
use Rattle.ic_link_ops.specs.Prelude.{Place, Cut, join, first, IsAfter, IsBefore}
use Rattle.ic_rbtree.specs.declared.keys.key_adapter.Bound.{Bound}
use Rattle.ic_rbtree.specs.Comparing.{meets_lower, is_beyond}
pub use Rattle.ic_cursors.specs.Ordered.{IsBorder, less_at}

-- A LOWER BORDER: the member at `position` meets the lower bound, and the member before it, if any, doesn't. If `position` is none, the last member, if
-- any, doesn't meet the bound
pub record IsLowerBorder (bound : Bound (Place → Ordering)) (s : List Place) (position : Option Place) : Type 0 where
  pub gap : Cut
  pub same : join gap ≡ s
  pub before : IsBefore gap position
  pub border : IsBorder (meets_lower bound) gap

-- AN UPPER BORDER: the member at `position` meets the upper bound, and the member after it, if any, doesn't. If `position` is none, the first member, if
-- any, doesn't meet the bound
pub record IsUpperBorder (bound : Bound (Place → Ordering)) (s : List Place) (position : Option Place) : Type 0 where
  pub gap : Cut
  pub same : join gap ≡ s
  pub after : IsAfter gap position
  pub border : IsBorder (is_beyond bound) gap

-- a place if it passes the test, and none if it fails or if there is no place
abbrev pub if_passes : (Place → Bool) → Option Place → Option Place
if_passes test None = None
if_passes test (Some p) = cond (test p) (Some p) None

-- `at` says of each member how the searched key compares with the member
module _ (at : Place → Ordering) where
  abbrev pub equal_at : Place → Bool
  equal_at p = is_eq (at p)

  abbrev pub at_most_at : Place → Bool
  at_most_at p = is_le (at p)

  -- FOUND: the member before some gap of s, if any, is less than the searched key, and the member after this gap, if any, is not less. `position` is the member
  -- after the gap if this member is equal to the key, otherwise none
  pub record Finds (s : List Place) (position : Option Place) : Type 0 where
    pub gap : Cut
    pub same : join gap ≡ s
    pub border : IsBorder at_most_at gap
    pub answer : position ≡ if_passes equal_at (first gap.back)

  -- SORTED FOR THE SEARCHED KEY: s consists of members that are less than the key, then of members that are equal, then of members that are greater
  pub record IsSortedFor (s : List Place) : Type 0 where
    pub smaller : List Place
    pub equal : List Place
    pub larger : List Place
    pub same : smaller ++ (equal ++ larger) ≡ s
    pub is_greater : AllByRecursion (λ p. at p ≡ Greater) smaller
    pub is_equal : AllByRecursion (λ p. at p ≡ Equal) equal
    pub is_less : AllByRecursion (λ p. at p ≡ Less) larger

-- SORTED: no key of the list is less than the key before it
abbrev pub IsSorted : {K : Type 0} → (K → K → Ordering) → List K → Type 0
IsSorted cmp [] = Unit {0}
IsSorted cmp (k ∷ []) = Unit {0}
IsSorted cmp (k ∷ l ∷ keys) = (cmp k l ≢ Greater) × IsSorted cmp (l ∷ keys)
