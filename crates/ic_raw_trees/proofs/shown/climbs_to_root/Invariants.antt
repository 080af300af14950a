use Rattle.std.proofs.Common.{List, ◌-◌, ◌≤◌}
use Rattle.ic_link_ops.specs.Prelude.{Place, IsMember, IsLinked}
use Rattle.ic_rbtree.specs.Tree.{root_of}
use Rattle.ic_rbtree.proofs.Climbed.{Climbs}
use Rattle.ic_raw.specs.Prelude.{marked_table, is_linked_three}
use Rattle.ic_raw.specs.Tree.{Represents, node}
use Rattle.ic_raw_trees.proofs.shown.climbs_to_root.Given as goal

abbrev pub invariant-loop-steps : goal.invariant-loop-steps
invariant-loop-steps l =
    let table = marked_table l.fn.links in
    let root = root_of l.fn.tree in
    record {
      linked : IsLinked is_linked_three (marked_table l.links) l.place;
      climbs : (s : List Place) → Represents table root s → IsMember l.fn.place s → Climbs node table root l.place l.steps;
      back : (s : List Place) → Represents table root s → IsMember l.place s → IsMember l.fn.place s;
      few : l.steps ≤ 66;
    }

abbrev pub decreases-loop-steps : goal.decreases-loop-steps
decreases-loop-steps l = 66 - l.steps
