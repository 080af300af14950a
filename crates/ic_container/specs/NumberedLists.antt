-- Numbered lists are sequences of places, one for each number. These definitions say to which list each place belongs.
use Rattle.std.specs.Prelude.{◌≡◌, ◌≢◌, ℕ, zero, suc, Option, Some, None, List, [], ◌∷◌, ◌++◌, slice_index_or}
use Rattle.std.specs.List.{AllByRecursion}
use Rattle.ic_link_ops.specs.Prelude.{Place, Objects, object_at, IsMember}

-- the sequence of places of each list, by the number of the list
abbrev pub NumberedLists : Type 0
NumberedLists = ℕ → List Place

-- ONE PLACE MORE: the place p is inserted into list k, between the places `front` and the places `back`. The other lists stay
pub record Adds (k : ℕ) (front : List Place) (p : Place) (back : List Place) (old new : NumberedLists) : Type 0 where
  pub was : old k ≡ front ++ back
  pub is : new k ≡ front ++ p ∷ back
  pub others : (i : ℕ) → i ≢ k → new i ≡ old i

-- ONE PLACE LESS: the place p is removed from list k, where it was between the places `front` and the places `back`. The other lists stay
pub record Leaves (k : ℕ) (front : List Place) (p : Place) (back : List Place) (old new : NumberedLists) : Type 0 where
  pub was : old k ≡ front ++ p ∷ back
  pub is : new k ≡ front ++ back
  pub others : (i : ℕ) → i ≢ k → new i ≡ old i

-- ONE PLACE MOVES in list k: p was between the places `front` and `back`, and now it is between the places `before` and `after`
pub record Moves (k : ℕ) (front : List Place) (p : Place) (back : List Place) (before after : List Place) (old new : NumberedLists) : Type 0 where
  pub was : old k ≡ front ++ p ∷ back
  pub rest : front ++ back ≡ before ++ after
  pub is : new k ≡ before ++ p ∷ after
  pub others : (i : ℕ) → i ≢ k → new i ≡ old i

-- `PutsFront` inserts the place p at the front of list k, and `PutsBack` inserts p at the back. The other lists stay
pub record PutsFront (k : ℕ) (p : Place) (old new : NumberedLists) : Type 0 where
  pub is : new k ≡ p ∷ old k
  pub others : (i : ℕ) → i ≢ k → new i ≡ old i

pub record PutsBack (k : ℕ) (p : Place) (old new : NumberedLists) : Type 0 where
  pub is : new k ≡ old k ++ p ∷ []
  pub others : (i : ℕ) → i ≢ k → new i ≡ old i

-- THE LISTS STAY: each list has the places that it had
abbrev pub Stays : NumberedLists → NumberedLists → Type 0
Stays old new = (i : ℕ) → new i ≡ old i

-- EACH PLACE IS IN ITS LIST: a place that belongs to list i is a member of list i, and each member of list i belongs to list i
pub record EachInItsList (owner : Place → Option ℕ) (lists : NumberedLists) : Type 0 where
  pub own : (i : ℕ) → AllByRecursion (λ p. owner p ≡ Some i) (lists i)
  pub all : (p : Place) (i : ℕ) → owner p ≡ Some i → IsMember p (lists i)

module _ {T : Type 0} (belongs : T → Option ℕ) where
  -- the number of the list to which the object at a place belongs, or none if no object is there
  abbrev pub owner_or : Option T → Option ℕ
  owner_or None = None
  owner_or (Some value) = belongs value

  abbrev pub owner_of : Objects T → Place → Option ℕ
  owner_of objects p = owner_or (object_at objects p)

-- every object belongs to list 0
abbrev pub to_one : {T : Type 0} → T → Option ℕ
to_one value = Some 0

-- the item x under the number 0, and the item `none` under every other number
abbrev pub alone : {X : Type 0} → X → X → ℕ → X
alone none x zero = x
alone none x (suc i) = none

-- item i of the list, or the item `none` beyond the end of the list
abbrev pub listed : {X : Type 0} → X → List X → ℕ → X
listed none list i = slice_index_or list i none
