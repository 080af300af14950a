use Rattle.std.proofs.Common.{◌≡◌, ◌≤◌, ◌+◌, List}
use Rattle.ic_link_ops.specs.Prelude.{Place, IsDistinct, IsDisjoint, ArePlaced}
use Rattle.ic_link_ops.specs.RedBlackTree.{Represents}
use Rattle.ic_rbtree.specs.Tree.{root_of}
use Rattle.ic_tree_merges.specs.Merges.{compared_at}
use Rattle.ic_tree_merges.specs.Vines.{ends_of, IsRun}
use Rattle.ic_tree_merges.proofs.PartedRuns.{Sifting}
use Rattle.ic_tree_merges.proofs.parting.part_run.Given as goal

abbrev pub invariant-loop-count : goal.invariant-loop-count
invariant-loop-count g l = record {
  sifting : (s u : List Place) → IsRun g.N.NodeStore.node (g.O.Values.values l.objects) (g.N.NodeStore.table l.fn.nodes) l.fn.first s → IsDistinct s
      → Represents g.N.NodeStore.node (g.N.NodeStore.table l.fn.nodes) (root_of l.other) u → ArePlaced (g.O.Values.values l.objects) u → IsDisjoint u s
      → Sifting g.N.NodeStore.node (compared_at (g.C.Compares.order l.fn.order) (g.O.Values.values l.objects)) (g.O.Values.values l.objects) (root_of l.other)
      (g.N.NodeStore.table l.fn.nodes) (g.N.NodeStore.table l.nodes) s u l.left l.right (ends_of l.common) (ends_of l.rest) l._count;
  few : g.C.Compares.looks l.order ≤ g.C.Compares.looks l.fn.order + l._count;
  same : g.C.Compares.order l.order ≡ g.C.Compares.order l.fn.order;
  keeps_links : g.N.NodeStore.KeepsLinks l.fn.nodes l.nodes;
}
