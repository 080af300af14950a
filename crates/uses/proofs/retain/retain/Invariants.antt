use Rattle.std.proofs.Common.{None, List, length}
use Rattle.std.specs.Fn.{FnReturnsAt}
use Rattle.ic_unsafe_ref.specs.declared.place.Place.{Place}
use Rattle.ic_link_ops.specs.LinkedList.{Represents, members_between}
use Rattle.ic_cursors.specs.CursorMut.{site_of, links_of, position, SameBorrows}
use Rattle.uses.proofs.Retaining.{Retains}
use Rattle.uses.proofs.retain.retain.Given as goal

abbrev pub invariant-loop-object : goal.invariant-loop-object
invariant-loop-object g l = record {
  borrows : SameBorrows l.initial.cursor l.cursor;
  retains : (s : List Place) → Represents g.L.LinkedListOps.neighbors (g.L.LinkOps.table l.fn.links) l.fn.list s
      → (ahead : List Place) × Retains g.L.LinkedListOps.neighbors g.L.LinkOps.table g.L.LinkOps.Trace l.objects (FnReturnsAt g.F.Fn l.keeps) l.fn.links s (site_of (λ list. list) (λ at. at) l.cursor) ahead;
}

abbrev pub decreases-loop-object : goal.decreases-loop-object
decreases-loop-object g l = length (members_between g.L.LinkedListOps.neighbors (g.L.LinkOps.table (links_of l.cursor)) (position (λ at. at) l.cursor) None)
