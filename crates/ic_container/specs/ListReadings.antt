-- A container reads an entry of its lists by two functions, for words of any width.
use Rattle.std.specs.Prelude.{◌≡◌, Bool}
use Rattle.ic_link_ops.specs.Prelude.{Place, Table, IsCovered, IsLinked, Neighbors}

-- THE LAWS OF A TABLE OF LISTS: `neighbors` and `linked` read from each entry whether its place is linked, and agree on it. The table covers every linked
-- place
pub record ReadsLists {L E : Type 0} (neighbors : E → Neighbors) (linked : E → Bool) (table : L → Table E) : Type 0 where
  pub alike : (e : E) → (neighbors e).linked ≡ linked e
  pub covered : (links : L) (p : Place) → IsLinked linked (table links) p → IsCovered (table links) p
