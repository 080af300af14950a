-- What a call of a cursor returns, given whether the object's link was acquired. The cursor's kind of collection returns that boolean.
use Rattle.std.specs.Prelude.{Bool, true, false, Option, Some, None, Result, Ok, Err}
use Rattle.ic_unsafe_ref.specs.declared.place.Place.{Place}
use Rattle.ic_link_ops.specs.declared.errors.AlreadyLinked as inserts
use Rattle.ic_link_ops.specs.declared.errors.ReplaceError.{ReplaceError}
use Rattle.ic_link_ops.specs.declared.errors.ReplaceError.TheVariants.{Null, AlreadyLinked}

module _ {T : Type 0} where
  -- the result of an insert of the object: `Ok` if its link was acquired (true), and an error with the object if the link was refused (false)
  abbrev pub inserted : Place → Bool → Result Unit (inserts.AlreadyLinked T)
  inserted object true = Ok tt
  inserted object false = Err (record { 0 = object })

  -- the result of a call that replaces a member by the object. It is the error `Null` if the cursor is on no member, the replaced member if the
  -- object's link was acquired, and `AlreadyLinked` if the link was refused
  abbrev pub replaced : Option Place → Place → Bool → Result Place (ReplaceError T)
  replaced None object acquired = Err (Null object)
  replaced (Some out) object true = Ok out
  replaced (Some out) object false = Err (AlreadyLinked object)
