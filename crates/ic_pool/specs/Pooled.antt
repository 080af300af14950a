-- This file describes objects together with a table that has room for their links.
use Rattle.std.specs.Prelude.{◌≡◌, Bool, true, None, refl}
use Rattle.ic_link_ops.specs.Prelude.{Place, Objects, object_at, is_placed, Table, IsCovered, IsUnlinked}

-- The table `new` is the table `old`, or `old` after it has grown: each entry stays, and each covered place is still covered.
pub record Grows {E : Type 0} (old new : Table E) : Type 0 where
  pub entries : (p : Place) → new.entry p ≡ old.entry p
  pub covered : (p : Place) → IsCovered old p → IsCovered new p

-- The objects are pooled with the table t: the table covers the place of each object, and each linked place has an object.
pub record IsPooled {E T : Type 0} (linked : E → Bool) (objects : Objects T) (t : Table E) : Type 0 where
  pub covered : (p : Place) → is_placed objects p ≡ true → IsCovered t p
  pub vacant : (p : Place) → object_at objects p ≡ None → IsUnlinked linked t p

-- If a table grows, covered places stay covered, and unlinked places stay unlinked. `Grows` also holds if the table does not
-- change.
module _ {E : Type 0} where
  pub grows_room : {old new : Table E} → Grows old new → (p : Place) → IsCovered old p → IsCovered new p
  grows_room grows = grows.covered

  pub grows_free : (linked : E → Bool) {old new : Table E} → Grows old new → (p : Place) → IsUnlinked linked old p → IsUnlinked linked new p
  grows_free linked grows p free = rw (grows.entries p) free

  pub grows_itself : (t : Table E) → Grows t t
  grows_itself t = record { entries = λ p. refl; covered = λ p h. h }
