use Rattle.ic_any_collection.proofs.Common.{doubly_made, xor_made, tree_made, at_cursor, goes_back}
use Rattle.ic_any_collection.proofs.any_collection.AnyCollection.move_prev.Goals as goal

pub prev_of-requires : goal.prev_of-requires
prev_of-requires g c = record { stands = at_cursor doubly_made (rw (c.in-Doubly.is, c.with_prev.ensures) at c.requires.held) }

pub returns-in-Doubly-clause-moved : goal.returns-in-Doubly-clause-moved
returns-in-Doubly-clause-moved g c =
    let held = rw (c.in-Doubly.is, c.with_prev.ensures) at c.requires.held in let e = c.prev_of.ensures in
    rw (c.in-Doubly.is, c.with_prev.ensures, c.moved_to.ensures.moved) (goes_back doubly_made e.moved e.kept held)

pub prev_of-requires-in-Xor : goal.prev_of-requires-in-Xor
prev_of-requires-in-Xor g c = record { stands = at_cursor xor_made (rw c.in-Xor.is at c.requires.held) }

pub returns-in-Xor-clause-moved : goal.returns-in-Xor-clause-moved
returns-in-Xor-clause-moved g c =
    let held = rw c.in-Xor.is at c.requires.held in let e = c.prev_of-in-Xor.ensures in
    rw (c.in-Xor.is, c.moved_to-in-Xor.ensures.moved) (goes_back xor_made e.moved e.kept held)

pub returns-in-Tree-clause-moved : goal.returns-in-Tree-clause-moved
returns-in-Tree-clause-moved g c =
    let held = rw (c.in-Tree.is, c.tree.ensures) at c.requires.held in let e = c.prev_of-in-Tree.ensures in
    rw (c.in-Tree.is, c.tree.ensures, c.moved_to-in-Tree.ensures.moved) (goes_back tree_made e.moved e.moved.stands held)

pub prev_of-requires-in-Tree : goal.prev_of-requires-in-Tree
prev_of-requires-in-Tree g c = record { stands = at_cursor tree_made {links = c.tree.result.now} (rw (c.in-Tree.is, c.tree.ensures) at c.requires.held) }
