use Rattle.std.proofs.Common.{◌≡◌, ◌+◌, Bool, true, List, Option, Some, length}
use Rattle.ic_link_ops.specs.Prelude.{Place, Table, Tree, top}
use Rattle.ic_link_ops.specs.Frames.{Frame}
use Rattle.ic_rbtree.specs.Prelude.{IsClosed, turns, Piece, ClimbState}
use Rattle.ic_rbtree.specs.StepsTo.{ComesUpTo}
use Rattle.ic_rbtree.proofs.Outermost.{Up}
use Rattle.ic_rbtree.proofs.bounded.above_bounded.Given as goal

abbrev pub invariant-loop-parent : goal.invariant-loop-parent
invariant-loop-parent g l =
    let n = g.N.NodeStore.node in
    let v = g.N.NodeStore.table l.nodes in
    record {
      parent : l.parent ≡ (n (v.entry l.place)).parent;
      each : (base : Table g.row.N-Entry.Denot) (root : Option Place) (fs : List Frame) (t : Tree) (ps : List Piece) → ClimbState n base v root fs t ps → top t ≡ Some l.fn.place
          → (gs : List Frame) × (u : Tree) × Up n base v root l.side l.place fs ps gs u × (length gs + turns ≡ length fs + l.turns);
      up : (end : Option Place) → ComesUpTo n v l.side l.place end → ComesUpTo n v l.side l.fn.place end;
      safe : (root : Option Place) (S : Place → Bool) → IsClosed n v root S → S l.fn.place ≡ true → S l.place ≡ true;
    }

abbrev pub decreases-loop-parent : goal.decreases-loop-parent
decreases-loop-parent g l = l.turns
