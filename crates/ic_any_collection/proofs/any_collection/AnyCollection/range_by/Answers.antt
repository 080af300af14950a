use Rattle.ic_any_collection.proofs.Common.{tree_table_in, ◌∙◌, root_of, node_of, node, range_represented, if_listed, of_field, to_own, placed_in}
use Rattle.ic_link_ops.specs.RedBlackTree.{Represents}
use Rattle.ic_rbtree.specs.Prelude.{IsRange, members}
use Rattle.ic_any_collection.proofs.any_collection.AnyCollection.range_by.Goals as goal

pub range_by-walk-requires-clause-placed : goal.range_by-walk-requires-clause-placed
range_by-walk-requires-clause-placed g c =
    let held = rw (c.in-Tree.is, c.tree-links.ensures) at c.requires.held in let root = c.from_root-tree.ensures.root ∙ c.root.ensures in
    rw root (placed_in held.shown (rw (c.in-Tree.is, c.tree-links.ensures) at c.requires.placed))

pub list_walk-requires-clause-shown : goal.list_walk-requires-clause-shown
list_walk-requires-clause-shown g c =
    let held = rw (c.in-Tree.is, c.tree-links.ensures) at c.requires.held in let root = c.from_root-tree.ensures.root ∙ c.root.ensures in
    let range = c.range_by-walk.ensures.range _ (rw root (to_own held.shown)) in
    rw root (range_represented (Represents node_of (tree_table_in c.tree-links.result.now) (root_of c.in-Tree.tree)) range (to_own held.shown))

pub returns-clause-range : goal.returns-clause-range
returns-clause-range g c =
    let held = rw (c.in-Tree.is, c.tree-links.ensures) at c.requires.held in let root = c.from_root-tree.ensures.root ∙ c.root.ensures in
    let s = members node (of_field (tree_table_in c.tree-links.result.now)) (root_of c.in-Tree.tree) in
    let range = rw (c.from_root-tree.ensures.adapter) at (c.range_by-walk.ensures.range s (rw root (to_own held.shown))) in
    rw (c.in-Tree.is, c.tree-links.ensures) (if_listed (IsRange _ _ _ _) _ c.list_walk.result c.list_walk.ensures range)

pub returns-clause-min_looks : goal.returns-clause-min_looks
returns-clause-min_looks g c =
    let held = rw (c.in-Tree.is, c.tree-links.ensures) at c.requires.held in let root = c.from_root-tree.ensures.root ∙ c.root.ensures in
    rw (c.in-Tree.is, c.tree-links.ensures) (c.range_by-walk.ensures.min_looks _ (rw root (to_own held.shown)))

pub returns-clause-max_looks : goal.returns-clause-max_looks
returns-clause-max_looks g c =
    let held = rw (c.in-Tree.is, c.tree-links.ensures) at c.requires.held in let root = c.from_root-tree.ensures.root ∙ c.root.ensures in
    rw (c.in-Tree.is, c.tree-links.ensures) (c.range_by-walk.ensures.max_looks _ (rw root (to_own held.shown)))
