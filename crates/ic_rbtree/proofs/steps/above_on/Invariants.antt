use Rattle.std.proofs.Common.{◌≡◌, List, Option, Some}
use Rattle.ic_link_ops.specs.Prelude.{Place, Table, Tree, top}
use Rattle.ic_link_ops.specs.Frames.{Frame}
use Rattle.ic_rbtree.specs.Climb.{depth}
use Rattle.ic_rbtree.specs.Prelude.{Piece, ClimbState, IsInTree}
use Rattle.ic_rbtree.proofs.Outermost.{Up}
use Rattle.ic_rbtree.proofs.steps.above_on.Given as goal

abbrev pub invariant-loop-parent : goal.invariant-loop-parent
invariant-loop-parent g l =
    let n = g.L.RBTreeOps.node in
    let v = g.L.LinkOps.table l.links in
    record {
      parent : l.parent ≡ (n (v.entry l.place)).parent;
      some : IsInTree n v l.place;
      each : (base : Table g.row.L-Entry.Denot) (root : Option Place) (fs : List Frame) (t : Tree) (ps : List Piece) → ClimbState n base v root fs t ps → top t ≡ Some l.fn.place
          → (gs : List Frame) × (u : Tree) × Up n base v root l.side l.place fs ps gs u;
    }

abbrev pub decreases-loop-parent : goal.decreases-loop-parent
decreases-loop-parent g l = depth g.L.RBTreeOps.node (g.L.LinkOps.table l.links) (Some l.place)
