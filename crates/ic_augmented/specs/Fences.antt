-- A fence is a set of places. A place outside the fence counts as not linked, so no call can write there.
use Rattle.std.specs.Prelude.{Bool, ◌&&◌}
use Rattle.ic_link_ops.specs.Prelude.{Place, Table, Node}

module _ {E : Type 0} where
  -- a table in which each entry also says whether its place is inside the fence
  abbrev pub fenced : (Place → Bool) → Table E → Table (Bool × E)
  fenced inside t = record { extent = t.extent; entry = λ q. (inside q, t.entry q) }

  -- the node that an entry stores, which counts as linked only if its place is inside the fence
  abbrev pub fenced_node : (E → Node) → Bool × E → Node
  fenced_node n e = record (n e.1) { linked = e.0 && (n e.1).linked }
