-- This file describes the objects that are stored at the members of a sequence of places.
use Rattle.std.specs.Prelude.{◌≡◌, IsSome, List}
use Rattle.std.specs.List.{AllByRecursion, filter_map}
use Rattle.ic_unsafe_ref.specs.declared.place.Place.{Place}
use Rattle.ic_unsafe_ref.specs.Objects.{Objects, object_at}

module _ {T : Type 0} where
  -- At each member of the sequence s there is an object.
  abbrev pub ArePlaced : Objects T → List Place → Type 0
  ArePlaced objects s = AllByRecursion (λ p. IsSome (object_at objects p)) s

  -- The condition `shows` is true of some sequence `members`, and at each of its members there is an object.
  pub record RepresentsPlaced (shows : List Place → Type 0) (objects : Objects T) : Type 0 where
    pub members : List Place
    pub shown : shows members
    pub placed : ArePlaced objects members

  -- The objects at the members of s, in the order of s.
  abbrev pub values_at : Objects T → List Place → List T
  values_at objects s = filter_map (object_at objects) s

  -- At each member of s there is an object, and `values` lists these objects in the order of s.
  pub record StandAt (objects : Objects T) (s : List Place) (values : List T) : Type 0 where
    pub placed : ArePlaced objects s
    pub are : values_at objects s ≡ values
