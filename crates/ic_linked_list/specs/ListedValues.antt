-- The values of the objects at the members of a list, in the order of the list.
use Rattle.std.specs.Prelude.{◌≡◌, Bool, None, List}
use Rattle.ic_link_ops.specs.Prelude.{Place, Objects, object_at, Table, IsUnlinked, ArePlaced, values_at, Ends}
use Rattle.ic_link_ops.specs.LinkedList.{Neighbors, Represents}

-- A LIST OF VALUES: the table represents some members for the list, and the objects at these members have the given values, in order. No place
-- without an object is linked
pub record HasValues {E T : Type 0} (n : E → Neighbors) (linked : E → Bool) (t : Table E) (list : Ends) (objects : Objects T) (values : List T) : Type 0 where
  pub members : List Place
  pub shown : Represents n t list members
  pub placed : ArePlaced objects members
  pub are : values_at objects members ≡ values
  pub vacant : (p : Place) → object_at objects p ≡ None → IsUnlinked linked t p
