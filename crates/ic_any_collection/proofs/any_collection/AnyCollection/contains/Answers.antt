use Rattle.ic_any_collection.proofs.OwnTrees.{to_own}
use Rattle.ic_any_collection.proofs.any_collection.AnyCollection.contains.Goals as goal

pub contains-requires-in-Tree-clause-shown : goal.contains-requires-in-Tree-clause-shown
contains-requires-in-Tree-clause-shown g c = let held = rw (c.in-Tree.is, c.tree.ensures) at c.requires.held in (_, to_own held.shown)

pub returns-in-Tree : goal.returns-in-Tree
returns-in-Tree g c = let held = rw (c.in-Tree.is, c.tree.ensures) at c.requires.held in rw (c.in-Tree.is, c.tree.ensures) (c.contains-in-Tree.ensures _ (to_own held.shown))
