use Rattle.ic_container.proofs.ListedEnds.{listed_moved_after, listed_values_moved_after}
use Rattle.ic_container.proofs.ListedLemmas.{listed_stands}
use Rattle.ic_indexed.proofs.indexed.Indexed.move_to_back.Goals as goal

pub move_to_back-requires : goal.move_to_back-requires
move_to_back-requires g c = record { member = listed_stands c.self.invariant.listed (rw (← c.self.view_is) at c.requires.placed) }

pub invariant_of-self : goal.invariant_of-self
invariant_of-self g c =
    let k = c.self.invariant in record { keyed = k.keyed; listed = listed_moved_after k.listed c.move_to_back.new.links c.move_to_back.new.list c.move_to_back.ensures }

pub returns-clause-moved : goal.returns-clause-moved
returns-clause-moved g c =
    rw (← c.self.view_is) (λ value there. listed_values_moved_after c.self.invariant.listed c.move_to_back.new.links c.move_to_back.new.list c.move_to_back.ensures there)
