use Rattle.ic_any_collection.proofs.Common.{singly_made, doubly_made, xor_made, tree_made, at_cursor, goes_on}
use Rattle.ic_any_collection.proofs.any_collection.AnyCollection.move_next.Goals as goal

pub next_of-requires : goal.next_of-requires
next_of-requires g c = record { stands = at_cursor singly_made (rw c.in-Singly.is at c.requires.held) }

pub returns-in-Singly-clause-moved : goal.returns-in-Singly-clause-moved
returns-in-Singly-clause-moved g c =
    let held = rw c.in-Singly.is at c.requires.held in let e = c.next_of.ensures in
    rw (c.in-Singly.is, c.moved_to.ensures.moved) (goes_on singly_made e.moved e.kept held)

pub next_of-requires-in-Doubly : goal.next_of-requires-in-Doubly
next_of-requires-in-Doubly g c = record { stands = at_cursor doubly_made (rw (c.in-Doubly.is, c.with_prev.ensures) at c.requires.held) }

pub returns-in-Doubly-clause-moved : goal.returns-in-Doubly-clause-moved
returns-in-Doubly-clause-moved g c =
    let held = rw (c.in-Doubly.is, c.with_prev.ensures) at c.requires.held in let e = c.next_of-in-Doubly.ensures in
    rw (c.in-Doubly.is, c.with_prev.ensures, c.moved_to-in-Doubly.ensures.moved) (goes_on doubly_made e.moved e.kept held)

pub next_of-requires-in-Xor : goal.next_of-requires-in-Xor
next_of-requires-in-Xor g c = record { stands = at_cursor xor_made (rw c.in-Xor.is at c.requires.held) }

pub returns-in-Xor-clause-moved : goal.returns-in-Xor-clause-moved
returns-in-Xor-clause-moved g c =
    let held = rw c.in-Xor.is at c.requires.held in let e = c.next_of-in-Xor.ensures in
    rw (c.in-Xor.is, c.moved_to-in-Xor.ensures.moved) (goes_on xor_made e.moved e.kept held)

pub returns-in-Tree-clause-moved : goal.returns-in-Tree-clause-moved
returns-in-Tree-clause-moved g c =
    let held = rw (c.in-Tree.is, c.tree.ensures) at c.requires.held in let e = c.next_of-in-Tree.ensures in
    rw (c.in-Tree.is, c.tree.ensures, c.moved_to-in-Tree.ensures.moved) (goes_on tree_made e.moved e.moved.stands held)

pub next_of-requires-in-Tree : goal.next_of-requires-in-Tree
next_of-requires-in-Tree g c = record { stands = at_cursor tree_made {links = c.tree.result.now} (rw (c.in-Tree.is, c.tree.ensures) at c.requires.held) }
