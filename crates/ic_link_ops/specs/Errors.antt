-- This file describes the error that a replacement returns if it is refused.
use Rattle.std.specs.Prelude.{ℕ, List, codes}
use Rattle.ic_unsafe_ref.specs.declared.place.Place.{Place}
use Rattle.ic_link_ops.specs.declared.errors.ReplaceError.{ReplaceError}
use Rattle.ic_link_ops.specs.declared.errors.ReplaceError.TheVariants.{Null, AlreadyLinked}

-- The object that a refused replacement returns to its caller.
abbrev pub object_of : {T : Type 0} → ReplaceError T → Place
object_of (Null object) = object
object_of (AlreadyLinked object) = object

-- `ByCause null linked error` is the condition `null` if there was no member to replace, and the condition `linked` if the
-- object's link was refused.
abbrev pub ByCause : {T : Type 0} → Type 0 → Type 0 → ReplaceError T → Type 0
ByCause null linked (Null object) = null
ByCause null linked (AlreadyLinked object) = linked

-- The text that is printed for the error of a refused replacement.
abbrev pub replace_text : {T : Type 0} → ReplaceError T → List ℕ
replace_text (Null object) = codes "no member stands there"
replace_text (AlreadyLinked object) = codes "the object is linked already"
