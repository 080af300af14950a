use Rattle.std.proofs.Common.{◌≡◌}
use Rattle.ic_link_ops.specs.Positions.{IsValidCursor}
use Rattle.ic_rbtree.specs.Cursor.{tree_of, links_of, site_of}
use Rattle.ic_rbtree.specs.Kept.{RepresentsKept}
use Rattle.collections_tests.proofs.tree.summaries.member_at.Given as goal

abbrev pub invariant-loop-step : goal.invariant-loop-step
invariant-loop-step g l = record {
  tree : tree_of l.cursor ≡ l.tree;
  links : links_of l.cursor ≡ l.links;
  stands : IsValidCursor (RepresentsKept g.E.TreeHead.kept g.L.RBTreeOps.node) g.L.LinkOps.table (site_of l.cursor);
}
