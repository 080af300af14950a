-- The `Reply` by which contracts describe the result of each method.
use Rattle.std.specs.Prelude.{Bool, true, false, ℕ, Option, Some, None, Result, Ok, Err}
use Rattle.ic_unsafe_ref.specs.declared.place.Place.{Place}
use Rattle.ic_any_collection.specs.declared.kind.Kind.{Kind}
use Rattle.ic_world.specs.declared.call.Refusal.{Refusal}
use Rattle.ic_world.specs.declared.call.Refusal.TheVariants.{AlreadyLinked}
use Rattle.ic_world.specs.Calls.{Reply, entry, refused}
use Rattle.ic_world.specs.Family.{Sequence}

-- the reply for the result of a method. If the call was accepted, `accepted` makes the reply from what the call returned, and otherwise the reply is
-- the refusal
abbrev pub reply_of : {A : Type 0} → (A → Reply) → Result A Refusal → Reply
reply_of accepted (Ok a) = accepted a
reply_of accepted (Err r) = refused r

-- the reply for the result of a method that gives a value back if it is refused. The reply does not contain that value
abbrev pub reply_of_value : {A V : Type 0} → (A → Reply) → Result A (Refusal × V) → Reply
reply_of_value accepted (Ok a) = accepted a
reply_of_value accepted (Err e) = refused e.0

-- the reply for the result of `entry`. The result is none if no member has the key and the object is already linked
abbrev pub entry_or_linked : Option (Bool × Place × ℕ) → Reply
entry_or_linked (Some e) = entry e.0 e.1 e.2
entry_or_linked None = refused AlreadyLinked

-- the result of an insertion that compared `looks` keys: this number if the object was unlinked and is inserted, and otherwise the refusal
-- `AlreadyLinked`
abbrev pub looked_if : ℕ → Bool → Result ℕ Refusal
looked_if looks true = Ok looks
looked_if looks false = Err AlreadyLinked

-- the field and the kind of a collection, if it exists
abbrev pub field_and_kind : Option Sequence → Option (ℕ × Kind)
field_and_kind None = None
field_and_kind (Some s) = Some (s.field, s.kind)
