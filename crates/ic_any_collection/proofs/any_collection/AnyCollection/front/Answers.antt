use Rattle.ic_any_collection.proofs.OwnTrees.{to_own}
use Rattle.ic_any_collection.proofs.any_collection.AnyCollection.front.Goals as goal

pub first-requires-in-Tree : goal.first-requires-in-Tree
first-requires-in-Tree g c = let held = rw (c.in-Tree.is, c.tree.ensures) at c.requires.held in record { shown = (_, to_own held.shown) }

pub returns-in-Tree : goal.returns-in-Tree
returns-in-Tree g c = let held = rw (c.in-Tree.is, c.tree.ensures) at c.requires.held in rw (c.in-Tree.is, c.tree.ensures) (c.first-in-Tree.ensures _ (to_own held.shown))
