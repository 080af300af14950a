use Rattle.std.proofs.Common.{◌≡◌, ◌+◌, Bool, true, List, Option, Some, length}
use Rattle.ic_link_ops.specs.Prelude.{Place, Table, Tree, top}
use Rattle.ic_link_ops.specs.Frames.{Frame}
use Rattle.ic_rbtree.specs.Prelude.{IsClosed, Piece, ClimbState}
use Rattle.ic_rbtree.specs.StepsTo.{IsBelow}
use Rattle.ic_rbtree.proofs.Outermost.{Down}
use Rattle.ic_rbtree.proofs.bounded.outermost_bounded.Given as goal

abbrev pub invariant-loop : goal.invariant-loop
invariant-loop g l =
    let n = g.N.NodeStore.node in
    let v = g.N.NodeStore.table l.nodes in
    record {
      each : (base : Table g.row.N-Entry.Denot) (root : Option Place) (fs : List Frame) (t : Tree) (ps : List Piece) → ClimbState n base v root fs t ps → top t ≡ Some l.fn.place
          → (gs : List Frame) × (u : Tree) × Down n base v root l.side l.place fs t ps gs u × (length gs ≡ length fs + l.counter);
      below : (y : Place) → IsBelow n v l.side l.place y → IsBelow n v l.side l.fn.place y;
      safe : (root : Option Place) (S : Place → Bool) → IsClosed n v root S → S l.fn.place ≡ true → S l.place ≡ true;
    }
