-- A walk from both ends returns the items of a list. Calls at the front and calls at the back may come in any order.
use Rattle.std.specs.Prelude.{◌≡◌, Option, Some, List, [], ◌∷◌}

-- An item that a walk returned, with the end of the list (front or back) at which the walk returned it.
pub data Item (A : Type 0) : Type 0 where
  at_the_front : A → Item A
  at_the_back : A → Item A

module _ {S A : Type 0} (next_gives next_back_gives : S → Option A → S → Type 0) where
  -- A sequence of calls led the walk from the state s to the state t, and the calls returned the items in the list, in order.
  abbrev pub Leads : S → List (Item A) → S → Type 0
  Leads s [] t = s ≡ t
  Leads s (at_the_front x ∷ items) t = (u : S) × next_gives s (Some x) u × Leads u items t
  Leads s (at_the_back x ∷ items) t = (u : S) × next_back_gives s (Some x) u × Leads u items t

module _ {A B : Type 0} (view : A → B) where
  -- `from_front` lists the items that were returned at the front, and `from_back` those that were returned at the back, each in
  -- the order of the calls. `view` is applied to each item.
  abbrev pub from_front : List (Item A) → List B
  from_front [] = []
  from_front (at_the_front x ∷ items) = view x ∷ from_front items
  from_front (at_the_back x ∷ items) = from_front items

  abbrev pub from_back : List (Item A) → List B
  from_back [] = []
  from_back (at_the_front x ∷ items) = from_back items
  from_back (at_the_back x ∷ items) = view x ∷ from_back items
