use Rattle.std.proofs.Common.{◌≡◌, ◌≤◌, List, [], length}
use Rattle.ic_link_ops.specs.Frames.{Frame}
use Rattle.ic_link_ops.specs.Prelude.{blacks, IsRight, Table, Tree}
use Rattle.ic_rbtree.specs.Prelude.{IsSpine, Piece, ClimbState}
use Rattle.ic_rbtree.proofs.join.roots.descend_spine.Given as goal

abbrev pub invariant-loop : goal.invariant-loop
invariant-loop g l =
    let n = g.N.NodeStore.node in
    let v = g.N.NodeStore.table l.links in
    record {
      each : (base : Table g.row.N-Entry.Denot) (t : Tree) (ps : List Piece) → ClimbState n base v l.fn.root [] t ps → IsRight t → l.fn.count ≡ blacks t → l.want ≤ l.fn.count
          → (gs : List Frame) × (u : Tree) × IsSpine n base v l.fn.root l.side t ps l.at l.above l.count gs u × (l.want ≤ l.count) × (length gs ≡ l.counter);
    }
