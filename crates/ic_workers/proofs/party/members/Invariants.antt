use Rattle.std.proofs.Common.{◌≡◌, None, List, length}
use Rattle.ic_unsafe_ref.specs.declared.place.Place.{Place}
use Rattle.ic_link_ops.specs.LinkedList.{Represents, members_between}
use Rattle.ic_cursors.specs.Cursor.{list_of, links_of, position}
use Rattle.ic_workers.proofs.Walking.{Seen}
use Rattle.ic_workers.proofs.party.members.Given as goal

-- the cursor is at the first member that the walk has not visited
abbrev pub invariant-loop-place : goal.invariant-loop-place
invariant-loop-place g l = record {
  list : list_of l.cursor ≡ l.fn.list;
  links : links_of l.cursor ≡ l.fn.links;
  seen : (s : List Place) → Represents g.L.LinkedListOps.neighbors (g.L.LinkOps.table l.fn.links) l.fn.list s → Seen l.places.items (position (λ at. at) l.cursor) s;
}

abbrev pub decreases-loop-place : goal.decreases-loop-place
decreases-loop-place g l = length (members_between g.L.LinkedListOps.neighbors (g.L.LinkOps.table l.fn.links) (position (λ at. at) l.cursor) None)
