-- What a check of a collection returns. `shows s` says that the table represents the sequence s for the collection.
use Rattle.std.specs.Prelude.{◌≡◌, ℕ, List, length}
use Rattle.ic_unsafe_ref.specs.declared.place.Place.{Place}

module _ (shows : List Place → Type 0) where
  -- the table represents a sequence with `count` members
  abbrev pub IsRepresented : ℕ → Type 0
  IsRepresented count = (s : List Place) × shows s × (length s ≡ count)

  -- the table represents no sequence
  abbrev pub RepresentsNone : Type 0
  RepresentsNone = (s : List Place) → shows s → ⊥
