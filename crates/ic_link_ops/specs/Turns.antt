-- This file describes how a call that sets one link changes a neighbor of the link's place. Each kind of list uses the
-- definitions in this file.
use Rattle.std.specs.Prelude.{◌≡◌, ◌≢◌, Option, Some}
use Rattle.ic_unsafe_ref.specs.declared.place.Place.{Place}

-- `between e a b` says that the place whose entry is e is between the places a and b. If a is none, no place is before it, and if
-- b is none, no place is after it.
module _ {E : Type 0} (between : E → Option Place → Option Place → Type 0) (old new : Place → E) (at from to : Option Place) where
  -- If the entry of `at` in `old` says that `from` is the next place, the entry of `at` in `new` says that `to` is the next
  -- place. All other entries are the same in `old` and `new`. If `at` is none, all entries are the same.
  pub record TurnsAfter : Type 0 where
    pub turned : (q : Place) (a : Option Place) → at ≡ Some q → between (old q) a from → between (new q) a to
    pub others : (q : Place) → at ≢ Some q → new q ≡ old q

  -- If the entry of `at` in `old` says that `from` is the previous place, the entry of `at` in `new` says that `to` is the
  -- previous place. All other entries are the same in `old` and `new`. If `at` is none, all entries are the same.
  pub record TurnsBefore : Type 0 where
    pub turned : (q : Place) (b : Option Place) → at ≡ Some q → between (old q) from b → between (new q) to b
    pub others : (q : Place) → at ≢ Some q → new q ≡ old q
