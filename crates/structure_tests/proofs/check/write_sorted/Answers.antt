use Rattle.std.proofs.Common.{rules}
use Rattle.structure_tests.proofs.Trees.{represents_placed}
use Rattle.structure_tests.proofs.check.write_sorted.Goals as goal

pub is_sorted-requires : goal.is_sorted-requires
is_sorted-requires g c =
    record { placed = represents_placed c.tree_of_three-tree.new.links _ (c.are_placed.ensures.placed (search rules)) c.tree_of_three-tree.result.head c.tree_of_three-tree.ensures.shown }
