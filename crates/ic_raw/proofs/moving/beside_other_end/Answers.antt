use Rattle.std.proofs.Common.{sym, ap, ◌∙◌}
use Rattle.ic_link_ops.proofs.Prelude.{some_same, represents_middle}
use Rattle.ic_raw.proofs.Gaps.{gap_is}
use Rattle.ic_raw.proofs.Own.{sides_are}
use Rattle.ic_raw.proofs.moving.beside_other_end.Goals as goal

pub returns-in-Some-clause-toward : goal.returns-in-Some-clause-toward
returns-in-Some-clause-toward g c gap is = rw c.in-After.is (c.in-Some.before, sym (ap (λ g. g.before) (some_same is)))

pub returns-in-Some-clause-shown : goal.returns-in-Some-clause-shown
returns-in-Some-clause-shown g c gap front back is shown =
    let there = represents_middle front back shown in
    some_same (sym is ∙ gap_is (record { front = front; back = back }) (sym c.in-Some.is ∙ c.prev.ensures ∙ there.prev) (c.next.ensures ∙ there.next))

pub returns-in-Some-next-clause-toward : goal.returns-in-Some-next-clause-toward
returns-in-Some-next-clause-toward g c gap is = rw c.in-Before.is (c.in-Some-next.after, sym (ap (λ g. g.after) (some_same is)))

pub returns-in-Some-next-clause-shown : goal.returns-in-Some-next-clause-shown
returns-in-Some-next-clause-shown g c gap front back is shown =
    let there = represents_middle front back shown in
    some_same
    (sym is ∙ gap_is (record { front = front; back = back }) (c.prev-in-Before.ensures ∙ there.prev) (sym c.in-Some-next.is ∙ c.next-in-Before.ensures ∙ there.next))

pub returns-in-Some-clause-sides : goal.returns-in-Some-clause-sides
returns-in-Some-clause-sides g c gap is = sym (some_same is) ∙ sides_are (sym c.in-Some.is ∙ c.prev.ensures) c.next.ensures

pub returns-in-Some-next-clause-sides : goal.returns-in-Some-next-clause-sides
returns-in-Some-next-clause-sides g c gap is = sym (some_same is) ∙ sides_are c.prev-in-Before.ensures (sym c.in-Some-next.is ∙ c.next-in-Before.ensures)
