use Rattle.ic_container.proofs.ListedLemmas.{listed_freed, listed_stands, order_freed}
use Rattle.ic_container.proofs.listed.Listed.remove.Goals as goal

pub remove-requires : goal.remove-requires
remove-requires g c = record { member = listed_stands c.self.invariant (rw (← c.self.view_is) at c.requires.placed) }

pub invariant_of-self : goal.invariant_of-self
invariant_of-self g c =
    let out = rw c.new.ensures at c.remove-2.ensures in rw out.links (listed_freed c.self.invariant out.freed c.remove.new.links c.remove.new.list c.remove.ensures.2)

pub returns-clause-removed : goal.returns-clause-removed
returns-clause-removed g c =
    let out = rw c.new.ensures at c.remove-2.ensures in
    rw (← c.self.view_is, out.links) (order_freed c.self.invariant out.freed c.remove.new.links c.remove.new.list c.remove.ensures.2)
