-- A search compares its key with members, and each comparison is a look. These definitions count the looks of a search and say which member it finds.
use Rattle.std.specs.Prelude.{◌≡◌, ℕ, ◌+◌, ◌≤◌, Bool, true, false, nat_eq, Option, None, Some, IfSome, Result, Ok, Err, List, ◌∷◌, ◌++◌, length}
use Rattle.std.specs.List.{AllByRecursion}
use Rattle.ic_link_ops.specs.Prelude.{Place, Objects, object_at, Cut, join, IsAfter, IsBefore}

-- whether there is a value and it passes the test `equal`
abbrev pub passes : {V : Type 0} → (V → Bool) → Option V → Bool
passes equal None = false
passes equal (Some value) = equal value

-- whether there is an object at the place p that passes the test `equal`
abbrev pub matches : {V : Type 0} → (V → Bool) → Objects V → Place → Bool
matches equal objects p = passes equal (object_at objects p)

-- whether there is an object at the place p whose key equals `key`
abbrev pub has_key : {V K : Type 0} → (K → K → Bool) → (V → K) → K → Objects V → Place → Bool
has_key eq key_of key objects p = matches (λ value. eq key (key_of value)) objects p

-- the member that a search before an insert has found. It is none if nothing was found or the link was refused
abbrev pub found_of : {X : Type 0} → Result (Option Place) X → Option Place
found_of (Ok found) = found
found_of (Err refused) = None

-- whether p is the place `place`
abbrev pub is_place : Place → Place → Bool
is_place place p = nat_eq p.word place.word

module _ (is : Place → Bool) where
  -- `Finds s found`: `found` is the first member of s for which `is` is true, or none if there is no such member
  abbrev pub Finds : List Place → Option Place → Type 0
  Finds s None = AllByRecursion (λ p. is p ≡ false) s
  Finds s (Some p) = (front back : List Place) × (s ≡ front ++ p ∷ back) × AllByRecursion (λ q. is q ≡ false) front × (is p ≡ true)

  -- a walk along s has stopped at the first member that passes, or at the end. This member, or none, is `at`, and `before` is the member before it
  pub record StopsAt (s : List Place) (before at : Option Place) : Type 0 where
    pub gap : Cut
    pub whole : join gap ≡ s
    pub after : IsAfter gap before
    pub here : IsBefore gap at
    pub passed : AllByRecursion (λ p. is p ≡ false) gap.front
    pub stops : IfSome at (λ p. is p ≡ true)

-- the count of a search leaves room for one comparison with each member of a chain. These are at most 2 ^ 33 - 1 comparisons, because there are fewer than
-- 2 ^ 33 places
abbrev pub HasRoom : ℕ → Type 0
HasRoom count = count + 8589934591 ≤ 18446744073709551615

-- the looks of one search in a chain are its comparisons with members. They are at most as many as the members of the chain, and at least one if there is a
-- member. The same values equal the searched key before and after the search
module _ {P V : Type 0} (equal : P → V → Bool) (count : P → ℕ) where
  pub record Looks (old new : P) (chain : List Place) : Type 0 where
    pub looks : ℕ
    pub counted : count new ≡ count old + looks
    pub few : looks ≤ length chain
    pub some : 1 ≤ length chain → 1 ≤ looks
    pub same : equal new ≡ equal old
