use Rattle.std.proofs.Common.{refl}
use Rattle.ic_container.proofs.ListedLemmas.{listed_moved, listed_stands, listed_values_moved}
use Rattle.ic_indexed.proofs.indexed.Indexed.move_to_front.Goals as goal

pub move_to_front-requires : goal.move_to_front-requires
move_to_front-requires g c = record { member = listed_stands c.self.invariant.listed (rw (← c.self.view_is) at c.requires.placed) }

pub invariant_of-self : goal.invariant_of-self
invariant_of-self g c =
    let k = c.self.invariant in record { keyed = k.keyed; listed = listed_moved k.listed c.move_to_front.new.links c.move_to_front.new.list c.move_to_front.ensures }

pub returns-clause-moved : goal.returns-clause-moved
returns-clause-moved g c =
    rw (← c.self.view_is) (λ value there. listed_values_moved c.self.invariant.listed c.move_to_front.new.links c.move_to_front.new.list c.move_to_front.ensures c.self.inside.pool.objects (λ q n. refl) there there)
