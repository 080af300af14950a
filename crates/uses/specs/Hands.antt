-- A walk is dealt to two vectors: items from its front are appended to one vector, and items from its back to the other.
use Rattle.std.specs.Prelude.{◌≡◌, ◌⊎◌, ◌+◌, ◌≤◌, Option, None, Result, OnErr, List, ◌++◌, length, take, drop, Vec, vec_len, vec_capacity}
use Rattle.ic_link_ops.specs.BothEnds.{Item, Leads, from_front, from_back}

module _ {A : Type 0} where
  -- the vector `new` begins with all items of the vector `old`
  abbrev pub Keeps : List A → List A → Type 0
  Keeps old new = take (length old) new ≡ old

  -- the items that the vector `new` has after the items of `old`
  abbrev pub gained : List A → List A → List A
  gained old new = drop (length old) new

-- Two vectors grow in turns: each keeps its items, and `fronts` gains as many items as `backs` or one more. If the result is an error, a vector has no room
-- left. A name with a stroke is the vector after the call
pub record GrowInTurns {X A E : Type 0} (fronts backs fronts' backs' : Vec X A) (result : Result Unit E) : Type 0 where
  pub fronts_keep : Keeps fronts.items fronts'.items
  pub backs_keep : Keeps backs.items backs'.items
  pub turns : (vec_len backs' + vec_len fronts ≤ vec_len fronts' + vec_len backs) × (vec_len fronts' + vec_len backs ≤ vec_len backs' + vec_len fronts + 1)
  pub refused : OnErr result ((vec_capacity fronts ≤ vec_len fronts') ⊎ (vec_capacity backs ≤ vec_len backs'))

module _ {S A : Type 0} (next_gives next_back_gives : S → Option A → S → Type 0) where
  -- Calls to the walk led from its state `s` to its state `t`. The items that they returned from the front were appended to `fronts`, which gave
  -- `new_fronts`. The items from the back were appended to `backs`, which gave `new_backs`
  pub record HasDealt (s t : S) (fronts new_fronts backs new_backs : List A) : Type 0 where
    pub items : List (Item A)
    pub leads : Leads next_gives next_back_gives s items t
    pub at_fronts : new_fronts ≡ fronts ++ from_front (λ x. x) items
    pub at_backs : new_backs ≡ backs ++ from_back (λ x. x) items

  -- the walk is over in the state `t`: it can be called again, and a call for its next item from the front or from the back returns `None`
  abbrev pub IsOver : (S → Type 0) → S → Type 0
  IsOver can t = can t × (u : S) × (next_gives t None u ⊎ next_back_gives t None u)
