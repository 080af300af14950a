use Rattle.ic_any_collection.proofs.Common.{to_own, placed_in, found_member}
use Rattle.ic_any_collection.proofs.any_collection.AnyCollection.find_by.Goals as goal

pub find_by-requires-clause-placed : goal.find_by-requires-clause-placed
find_by-requires-clause-placed g c = let held = rw (c.in-Tree.is, c.tree.ensures) at c.requires.held in placed_in held.shown (rw (c.in-Tree.is, c.tree.ensures) at c.requires.placed)

pub returns-clause-found : goal.returns-clause-found
returns-clause-found g c =
    let held = rw (c.in-Tree.is, c.tree.ensures) at c.requires.held in rw (c.in-Tree.is, c.tree.ensures, c.get_ptr-position.ensures) (c.find_by.ensures.found _ (to_own held.shown))

pub returns-clause-looks : goal.returns-clause-looks
returns-clause-looks g c = let held = rw (c.in-Tree.is, c.tree.ensures) at c.requires.held in rw (c.in-Tree.is, c.tree.ensures) (c.find_by.ensures.looks _ (to_own held.shown))

pub stand_at-requires-clause-member : goal.stand_at-requires-clause-member
stand_at-requires-clause-member g c =
    let held = rw (c.in-Tree.is, c.tree.ensures) at c.requires.held in let e = c.find_by.ensures in
    rw (c.in-Tree.is, c.tree.ensures) (found_member c.find_by.result (to_own held.shown) e.stands e.tree e.links c.get_ptr-position.ensures)
