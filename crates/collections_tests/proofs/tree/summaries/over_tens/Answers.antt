use Rattle.std.proofs.Common.{◌<◌, [], arith, subst}
use Rattle.ic_link_ops.specs.Prelude.{index_of, node_of}
use Rattle.ic_rbtree.specs.PlainTrees.{plain_table}
use Rattle.collections_tests.proofs.Ready.{nothing_represented}
use Rattle.collections_tests.proofs.tree.summaries.over_tens.Goals as goal

pub invariant_of-result : goal.invariant_of-result
invariant_of-result g c =
    let places = rw c.expect-objects.ensures at c.eight_objects.ensures.covers in
    record {
      placed = rw c.expect-objects.ensures at c.eight_objects.ensures.placed;
      ready = record {
        covers = places;
        members = [];
        shown = nothing_represented node_of (plain_table c.expect-objects.result.1) (g.E.TreeHead.kept c.args.tree.head) c.requires.empty;
        right = λ q member but x fresh. absurd (omega (arith, member));
        room = λ q covered. c.requires.room q (subst (λ k. index_of q < k) places covered);
      };
    }
