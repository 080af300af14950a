-- This file describes several collections in one table. Each collection has a number, and each of its objects has the
-- collection's number. Two collections share no member, because their objects have different numbers.
use Rattle.std.specs.Prelude.{◌≡◌, ℕ, Bool, eqb, cond, List}
use Rattle.std.specs.List.{AllByRecursion}
use Rattle.ic_unsafe_ref.specs.declared.place.Place.{Place}
use Rattle.ic_unsafe_ref.specs.Objects.{Objects}
use Rattle.ic_link_ops.specs.PlacedObjects.{StandAt}
use Rattle.ic_link_ops.specs.Sequences.{IsAbsent}
use Rattle.ic_link_ops.specs.Tables.{Table, IsUnlinked}

-- `with_at f k x` is the function which is x at the number k and equals f at every other number.
abbrev pub with_at : {X : Type 0} → (ℕ → X) → ℕ → X → ℕ → X
with_at f k x i = cond (eqb k i) x (f i)

-- In this module `heads i` is the head of the collection with the number i, and `number v` is the number of the collection to
-- which the object v belongs.
module _ {E H T : Type 0} (Represents : Table E → H → List Place → Type 0) (linked : E → Bool) (number : T → ℕ) where
  -- The collection with the number i has the members `members`. The objects at these members are `values`, in order, and each of
  -- them belongs to the collection i.
  pub record IsNumbered (t : Table E) (heads : ℕ → H) (objects : Objects T) (i : ℕ) (members : List Place) (values : List T) : Type 0 where
    pub shown : Represents t (heads i) members
    pub stand : StandAt objects members values
    pub own : AllByRecursion (λ v. number v ≡ i) values

  -- The table t has exactly these collections: for each number i the collection i has the objects `values i`. Every place that is
  -- a member of no collection is unlinked.
  pub record HasNumbered (t : Table E) (heads : ℕ → H) (objects : Objects T) (values : ℕ → List T) : Type 0 where
    pub members : ℕ → List Place
    pub each : (i : ℕ) → IsNumbered t heads objects i (members i) (values i)
    pub only : (p : Place) → ((i : ℕ) → IsAbsent p (members i)) → IsUnlinked linked t p
