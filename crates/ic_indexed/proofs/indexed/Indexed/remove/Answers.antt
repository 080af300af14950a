use Rattle.ic_container.proofs.ListedLemmas.{listed_freed, listed_stands, listed_values_freed, order_freed}
use Rattle.ic_indexed.proofs.indexed.Indexed.remove.Goals as goal

pub remove_place-requires : goal.remove_place-requires
remove_place-requires g c = record { all = c.self.invariant.keyed; placed = rw (← c.self.view_is) at c.requires.placed }

pub remove-requires : goal.remove-requires
remove-requires g c = record { member = listed_stands c.self.invariant.listed (rw (← c.self.view_is) at c.requires.placed) }

pub invariant_of-self : goal.invariant_of-self
invariant_of-self g c =
    let out = rw c.new-object.ensures at c.remove-2.ensures in
    rw out.links (record { keyed = c.remove_place.ensures.removed _ out.freed; listed = listed_freed c.self.invariant.listed out.freed c.remove.new.links c.remove.new.list c.remove.ensures.2 })

pub returns-clause-removed : goal.returns-clause-removed
returns-clause-removed g c =
    let out = rw c.new-object.ensures at c.remove-2.ensures in
    rw (← c.self.view_is, out.links) (listed_values_freed c.self.invariant.listed out.freed c.remove.new.links c.remove.new.list c.remove.ensures.2 out.value)

pub returns-clause-order : goal.returns-clause-order
returns-clause-order g c =
    let out = rw c.new-object.ensures at c.remove-2.ensures in
    rw (← c.self.view_is, out.links) (order_freed c.self.invariant.listed out.freed c.remove.new.links c.remove.new.list c.remove.ensures.2)
