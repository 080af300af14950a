use Rattle.std.proofs.Common.{◌≡◌, ◌-◌, List, Option, Some}
use Rattle.ic_link_ops.specs.Prelude.{Place, Table, Tree, top}
use Rattle.ic_link_ops.specs.Frames.{Frame}
use Rattle.ic_rbtree.specs.Climb.{depth}
use Rattle.ic_rbtree.specs.Prelude.{Piece, ClimbState, IsInTree}
use Rattle.ic_rbtree.proofs.Outermost.{Down}
use Rattle.ic_rbtree.proofs.steps.outermost.Given as goal

abbrev pub invariant-loop-below : goal.invariant-loop-below
invariant-loop-below g l =
    let n = g.L.RBTreeOps.node in
    let v = g.L.LinkOps.table l.links in
    record {
      some : IsInTree n v l.place;
      each : (base : Table g.row.L-Entry.Denot) (root : Option Place) (fs : List Frame) (t : Tree) (ps : List Piece) → ClimbState n base v root fs t ps → top t ≡ Some l.fn.place
          → (gs : List Frame) × (u : Tree) × Down n base v root l.side l.place fs t ps gs u;
    }

abbrev pub decreases-loop-below : goal.decreases-loop-below
decreases-loop-below g l = let v = g.L.LinkOps.table l.links in v.extent.places - depth g.L.RBTreeOps.node v (Some l.place)
