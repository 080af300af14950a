use Rattle.std.proofs.Common.{List, ◌-◌, ◌≤◌}
use Rattle.ic_link_ops.specs.Prelude.{Place, IsMember, IsLinked, linked_by, table_beside}
use Rattle.ic_link_ops.specs.RedBlackTree.{Represents}
use Rattle.ic_rbtree.specs.Prelude.{node_by, root_in}
use Rattle.ic_rbtree.proofs.Climbed.{Climbs}
use Rattle.ic_rbtree.proofs.tree.RBTree.contains.Given as goal

abbrev pub invariant-loop-steps : goal.invariant-loop-steps
invariant-loop-steps g l =
    let W = g.W.Words in
    let node = node_by g.W.NodeWords.node in
    let root = root_in g.E.TreeHead.kept l.fn.self in
    let table = table_beside W.width W.unlinked g.V.LinkValue.initial g.V.LinkValue.printed l.links in
    let old_table = table_beside W.width W.unlinked g.V.LinkValue.initial g.V.LinkValue.printed l.fn.links in
    record {
      linked : IsLinked (linked_by W.is_linked) table l.place;
      climbs : (s : List Place) → Represents node old_table root s → IsMember l.fn.place s → Climbs node old_table root l.place l.steps;
      back : (s : List Place) → Represents node old_table root s → IsMember l.place s → IsMember l.fn.place s;
      few : l.steps ≤ 66;
    }

abbrev pub decreases-loop-steps : goal.decreases-loop-steps
decreases-loop-steps g l = 66 - l.steps
