use Rattle.ic_container.proofs.ListedEnds.{listed_moved_after, order_moved_after}
use Rattle.ic_container.proofs.ListedLemmas.{listed_stands}
use Rattle.ic_container.proofs.listed.Listed.move_to_back.Goals as goal

pub move_to_back-requires : goal.move_to_back-requires
move_to_back-requires g c = record { member = listed_stands c.self.invariant (rw (← c.self.view_is) at c.requires.placed) }

pub invariant_of-self : goal.invariant_of-self
invariant_of-self g c = listed_moved_after c.self.invariant c.move_to_back.new.links c.move_to_back.new.list c.move_to_back.ensures

pub returns-clause-moved : goal.returns-clause-moved
returns-clause-moved g c = rw (← c.self.view_is) (order_moved_after c.self.invariant c.move_to_back.new.links c.move_to_back.new.list c.move_to_back.ensures)
