-- What private calls do to one part of a world: its objects, its tables or its collections.
use Rattle.std.specs.Prelude.{◌≡◌, ℕ, ◌≤◌, ◌++◌, Bool, true, false, List, [], ◌∷◌, length, Some, None, Result, Ok, Err}
use Rattle.ic_link_ops.specs.Prelude.{Place, Objects, object_at, with_object, Places, Table}
use Rattle.ic_any_collection.specs.declared.entry.Entry.{Entry}
use Rattle.ic_any_collection.specs.declared.kind.Kind.{Kind}
use Rattle.ic_any_collection.specs.Entries.{is_linked, kind_of}
use Rattle.ic_world.specs.declared.call.Refusal.{Refusal}
use Rattle.ic_world.specs.declared.call.Refusal.TheVariants.{NoSuchObject, OutOfMemory}

-- the item x is appended to the list, and the call returns the number of the item. If there is not enough memory, the list is as before
abbrev pub Appends : {X : Type 0} → List X → X → Result ℕ Refusal → List X → Type 0
Appends old x (Ok number) new = (number ≡ length old) × (new ≡ old ++ x ∷ [])
Appends old x (Err refusal) new = (refusal ≡ OutOfMemory) × (new ≡ old)

module _ {V : Type 0} where
  -- the object at p has the new value, and the call returns the old value. If there is no object at p, the call returns the new value and changes
  -- nothing
  abbrev pub SwapsValue : Objects V → Place → V → Result V (Refusal × V) → Objects V → Type 0
  SwapsValue old p value (Ok was) new = (object_at old p ≡ Some was) × (new ≡ with_object old p value)
  SwapsValue old p value (Err refused) new = (object_at old p ≡ None) × (refused ≡ (NoSuchObject, value)) × (new ≡ old)

  -- if there is room, one more object with this value is placed, and the call returns its place. If the call is refused, it returns the value, and
  -- the objects are as before
  abbrev pub PlacesValue : Bool → Objects V → V → Result Place (Refusal × V) → Objects V → Type 0
  PlacesValue has_room old value (Ok p) new = (has_room ≡ true) × Places old new p value
  PlacesValue has_room old value (Err refused) new = (refused ≡ (OutOfMemory, value)) × (new ≡ old)

-- the table of a new field has the kind `kind`, covers at least `room` places, and has no linked place
pub record IsFresh (kind : Kind) (room : ℕ) (t : Table Entry) : Type 0 where
  pub kind_is : kind_of t ≡ kind
  pub covers : room ≤ t.extent.places
  pub free : (q : Place) → is_linked (t.entry q) ≡ false
