-- This file defines the members between two ends of a list, in the order in which a walk along the entries reaches them.
use Rattle.std.specs.Prelude.{◌≡◌, ℕ, Bool, false, nat_eq, cond, Option, Some, None, IfNone, List, [], ◌∷◌}
use Rattle.std.specs.Borrow.{Bor}
use Rattle.std.specs.Iterator.{YieldsFirstRef, YieldsLastRef}
use Rattle.std.proofs.Common.{zero, suc}
use Rattle.ic_unsafe_ref.specs.declared.place.Place.{Place}
use Rattle.ic_unsafe_ref.specs.Places.{index_of}
use Rattle.ic_link_ops.specs.Tables.{Table}

-- `is_end` says whether the end of a list is the place p. If the end is none, the result is false.
abbrev pub is_end : Option Place → Place → Bool
is_end None p = false
is_end (Some q) p = nat_eq (index_of q) (index_of p)

-- `step e before` is the place after the place of the entry e. `before` is the place before the place of e.
module _ {E : Type 0} (step : E → Option Place → Option Place) where
  -- The members from the place `front` to the place `back`, or only the first `fuel` of them. `before` is the place before
  -- `front`.
  unfoldable pub walk : (Place → E) → ℕ → Option Place → Option Place → Option Place → List Place
  walk entry zero before front back = []
  walk entry (suc fuel) before None back = []
  walk entry (suc fuel) before (Some p) back = p ∷ cond (is_end back p) [] (walk entry fuel (Some p) (step (entry p) before) back)

  -- The members from the place `front` to the place `back`. `before` is the place before `front`. The walk can list as many
  -- members as the table covers places, which is enough if the members are distinct.
  abbrev pub walked : Table E → Option Place → Option Place → Option Place → List Place
  walked t before front back = walk t.entry t.extent.places before front back

-- The definitions in this module describe a walk that lends the objects of a collection. `rest` lists the objects that the walk
-- has not returned yet.
module _ {S T : Type 0} (rest : S → List T) where
  -- A call led from the state s to the state t and returned r, the first object of the rest. If the rest was empty, r is none and
  -- the state is unchanged, so later calls at either end return none.
  abbrev pub GivesFirst : S → Option (Bor T) → S → Type 0
  GivesFirst s r t = YieldsFirstRef rest s r t × IfNone r (t ≡ s)

  -- A call led from the state s to the state t and returned r, the last object of the rest. If the rest was empty, r is none and
  -- the state is unchanged.
  abbrev pub GivesLast : S → Option (Bor T) → S → Type 0
  GivesLast s r t = YieldsLastRef rest s r t × IfNone r (t ≡ s)
