use Rattle.std.proofs.Common.{refl, sym, ◌∙◌}
use Rattle.ic_container.proofs.ListedEnds.{last_is_placed, none_last, last_out}
use Rattle.ic_container.proofs.ListedLemmas.{listed_whole}
use Rattle.ic_container.proofs.listed.Listed.pop_last.Goals as goal

pub returns-in_err-place : goal.returns-in_err-place
returns-in_err-place g c = rw (c.from_residual.ensures, ← c.self.view_is) (none_last c.self.invariant (sym c.last.ensures ∙ c.in_err-place.was), refl)

pub remove-requires : goal.remove-requires
remove-requires g c = record { placed = rw (← c.self.view_is) (last_is_placed c.self.invariant (sym c.last.ensures ∙ c.in_ok-place.was)) }

pub returns : goal.returns
returns g c =
    let e = rw (← c.self.view_is) at c.remove.ensures in
    let was = sym (c.self.invariant.holds.shown 0).tail ∙ sym c.last.ensures ∙ c.in_ok-place.was in
    rw (← c.self.view_is) (last_out (listed_whole c.self.invariant) {less = c.remove.new.self} e.value e.freed e.removed was)
