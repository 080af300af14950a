use Rattle.std.proofs.Common.{◌-◌, Option, List}
use Rattle.ic_link_ops.specs.Prelude.{Place, Cut, join, Table}
use Rattle.ic_rbtree.specs.Cuts.{IsCutting}
use Rattle.ic_rbtree.specs.Prelude.{turns, IsInsertPos, Piece, Represented}
use Rattle.ic_rbtree.proofs.join.cut.cut_at.Given as goal

abbrev pub invariant-loop : goal.invariant-loop
invariant-loop g l =
    let n = g.N.NodeStore.node in
    let old = g.N.NodeStore.table l.fn.links in
    let now = g.N.NodeStore.table l.links in
    record {
      each : (base : Table g.row.N-Entry.Denot) (root : Option Place) (gap : Cut) (ps : List Piece) → Represented n base old root (join gap) ps → IsInsertPos n old l.fn.parent l.fn.side gap
          → IsCutting n base now root l.at l.side l.height l.left l.right gap ps (turns - l.counter);
      keeps_links : g.N.NodeStore.KeepsLinks l.fn.links l.links;
    }
