use Rattle.std.proofs.Common.{sym, ap, ◌∙◌}
use Rattle.ic_link_ops.proofs.SequenceLemmas.{some_same}
use Rattle.ic_raw.proofs.moving.gaps_inside.Goals as goal

pub returns-clause-shown : goal.returns-clause-shown
returns-clause-shown g c from to list front back cut is shown same beside =
    let both = some_same is in (
      sym (ap (λ m. m.0) both) ∙ c.between.ensures.shown _ list front back c.in-Some.is shown,
      sym (ap (λ m. m.1) both) ∙ c.gap_inside.ensures.shown _ list cut c.in-Some-gap_inside.is (rw same shown) beside,
    )

pub returns-clause-before : goal.returns-clause-before
returns-clause-before g c from to list is = c.between.ensures.before _ list c.in-Some.is

pub returns-clause-after : goal.returns-clause-after
returns-clause-after g c from to list is = c.between.ensures.after _ list c.in-Some.is

pub returns-clause-sides : goal.returns-clause-sides
returns-clause-sides g c from to list is =
    let both = some_same is in
    (sym (ap (λ m. m.0) both) ∙ c.between.ensures.sides _ list c.in-Some.is, sym (ap (λ m. m.1) both) ∙ c.gap_inside.ensures.sides _ list c.in-Some-gap_inside.is)
