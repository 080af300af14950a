use Rattle.ic_container.proofs.ListedLemmas.{listed_moved, listed_stands, order_moved}
use Rattle.ic_container.proofs.listed.Listed.move_to_front.Goals as goal

pub move_to_front-requires : goal.move_to_front-requires
move_to_front-requires g c = record { member = listed_stands c.self.invariant (rw (← c.self.view_is) at c.requires.placed) }

pub invariant_of-self : goal.invariant_of-self
invariant_of-self g c = listed_moved c.self.invariant c.move_to_front.new.links c.move_to_front.new.list c.move_to_front.ensures

pub returns-clause-moved : goal.returns-clause-moved
returns-clause-moved g c = rw (← c.self.view_is) (order_moved c.self.invariant c.move_to_front.new.links c.move_to_front.new.list c.move_to_front.ensures)
