use Rattle.std.proofs.Common.{refl, sym, ◌∙◌}
use Rattle.ic_container.proofs.ListedEnds.{last_is_placed, none_last, last_out}
use Rattle.ic_container.proofs.ListedLemmas.{listed_whole}
use Rattle.ic_indexed.specs.Indexed.{order_in}
use Rattle.ic_indexed.proofs.indexed.Indexed.pop_last.Goals as goal

pub returns-in_err-place-clause-popped : goal.returns-in_err-place-clause-popped
returns-in_err-place-clause-popped g c = rw (c.from_residual.ensures, ← c.self.view_is) (none_last c.self.invariant.listed (sym c.last.ensures ∙ c.in_err-place.was), refl)

pub remove-requires : goal.remove-requires
remove-requires g c = record { placed = rw (← c.self.view_is) (last_is_placed c.self.invariant.listed (sym c.last.ensures ∙ c.in_ok-place.was)) }

pub returns-clause-popped : goal.returns-clause-popped
returns-clause-popped g c =
    let e = rw (← c.self.view_is) at c.remove.ensures in
    let was = sym (c.self.invariant.listed.holds.shown 0).tail ∙ sym c.last.ensures ∙ c.in_ok-place.was in
    rw (← c.self.view_is) (last_out (listed_whole c.self.invariant.listed) {less = order_in c.remove.new.self} e.value e.freed e.order was)
