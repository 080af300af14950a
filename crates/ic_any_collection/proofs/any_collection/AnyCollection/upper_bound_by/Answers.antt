use Rattle.ic_any_collection.proofs.Common.{to_own, placed_in, found_member}
use Rattle.ic_any_collection.proofs.any_collection.AnyCollection.upper_bound_by.Goals as goal

pub upper_bound_by-requires-clause-placed : goal.upper_bound_by-requires-clause-placed
upper_bound_by-requires-clause-placed g c = let held = rw (c.in-Tree.is, c.tree.ensures) at c.requires.held in placed_in held.shown (rw (c.in-Tree.is, c.tree.ensures) at c.requires.placed)

pub returns-clause-border : goal.returns-clause-border
returns-clause-border g c =
    let held = rw (c.in-Tree.is, c.tree.ensures) at c.requires.held in rw (c.in-Tree.is, c.tree.ensures, c.get_ptr-position.ensures) (c.upper_bound_by.ensures.border _ (to_own held.shown))

pub returns-clause-looks : goal.returns-clause-looks
returns-clause-looks g c = let held = rw (c.in-Tree.is, c.tree.ensures) at c.requires.held in rw (c.in-Tree.is, c.tree.ensures) (c.upper_bound_by.ensures.looks _ (to_own held.shown))

pub stand_at-requires-clause-member : goal.stand_at-requires-clause-member
stand_at-requires-clause-member g c =
    let held = rw (c.in-Tree.is, c.tree.ensures) at c.requires.held in let e = c.upper_bound_by.ensures in
    rw (c.in-Tree.is, c.tree.ensures) (found_member c.upper_bound_by.result (to_own held.shown) e.stands e.tree e.links c.get_ptr-position.ensures)
