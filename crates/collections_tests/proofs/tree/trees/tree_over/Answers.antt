use Rattle.std.proofs.Common.{rules}
use Rattle.collections_tests.proofs.Trees.{represents_placed}
use Rattle.collections_tests.proofs.tree.trees.tree_over.Goals as goal

pub returns-clause-shown : goal.returns-clause-shown
returns-clause-shown g c =
    represents_placed c.filled-tree.new.links c.expect-objects.result.0 (c.are_placed.ensures.placed (search rules)) (c.filled-tree.result.head) c.filled-tree.ensures.shown
