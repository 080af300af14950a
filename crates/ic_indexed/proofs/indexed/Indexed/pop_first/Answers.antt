use Rattle.std.proofs.Common.{refl, sym, ◌∙◌}
use Rattle.ic_container.proofs.ListedEnds.{first_placed, none_first, first_out}
use Rattle.ic_container.proofs.ListedLemmas.{listed_whole}
use Rattle.ic_indexed.specs.Indexed.{order_in}
use Rattle.ic_indexed.proofs.indexed.Indexed.pop_first.Goals as goal

pub returns-in_err-place-clause-popped : goal.returns-in_err-place-clause-popped
returns-in_err-place-clause-popped g c = rw (c.from_residual.ensures, ← c.self.view_is) (none_first c.self.invariant.listed (sym c.first.ensures ∙ c.in_err-place.was), refl)

pub remove-requires : goal.remove-requires
remove-requires g c = record { placed = rw (← c.self.view_is) (first_placed c.self.invariant.listed (sym c.first.ensures ∙ c.in_ok-place.was)) }

pub returns-clause-popped : goal.returns-clause-popped
returns-clause-popped g c =
    let e = rw (← c.self.view_is) at c.remove.ensures in
    let was = sym (c.self.invariant.listed.holds.shown 0).head ∙ sym c.first.ensures ∙ c.in_ok-place.was in
    rw (← c.self.view_is) (first_out (listed_whole c.self.invariant.listed) {less = order_in c.remove.new.self} e.value e.freed e.order was)
