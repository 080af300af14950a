use Rattle.std.proofs.Common.{◌∙◌, sym}
use Rattle.ic_container.proofs.ListedLemmas.{listed_distinct, listed_last}
use Rattle.ic_container.proofs.NumberedListLemmas.{without_last}
use Rattle.ic_container.proofs.listed.Listed.last.Goals as goal

pub returns-clause-last : goal.returns-clause-last
returns-clause-last g c = rw (← c.self.view_is) (c.last.ensures ∙ (c.self.invariant.holds.shown 0).tail)

pub returns-clause-placed : goal.returns-clause-placed
returns-clause-placed g c = rw (← c.self.view_is, c.last.ensures) (listed_last c.self.invariant)

pub returns-clause-after : goal.returns-clause-after
returns-clause-after g c = rw (← c.self.view_is) (λ front back place is same.
    let k = c.self.invariant in
    without_last _ (listed_distinct k) (sym (k.holds.shown 0).tail ∙ sym c.last.ensures ∙ is) front back same)
