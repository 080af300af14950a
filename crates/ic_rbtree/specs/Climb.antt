-- The depth of a member, counted along the parents.
use Rattle.std.specs.Prelude.{ℕ, suc, zero, Option, Some, None}
use Rattle.ic_link_ops.specs.Prelude.{Place, Table, Node}

-- the number of places on the path from the place o up along the parents, both ends included, or k if the path is longer
unfoldable pub steps_up : ℕ → (Place → Option Place) → Option Place → ℕ
steps_up zero parent o = 0
steps_up (suc k) parent None = 0
steps_up (suc k) parent (Some p) = suc (steps_up k parent (parent p))

-- the depth of a place: the number of members on the path from the place up to the root, both included
abbrev pub depth : {E : Type 0} → (E → Node) → Table E → Option Place → ℕ
depth n v o = steps_up v.extent.places (λ q. (n (v.entry q)).parent) o
