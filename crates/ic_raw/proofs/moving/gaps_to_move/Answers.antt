use Rattle.std.proofs.Common.{Some, refl, sym, ap, ◌∙◌}
use Rattle.ic_link_ops.proofs.SequenceLemmas.{some_same, none_not}
use Rattle.ic_raw.proofs.moving.gaps_to_move.Goals as goal

pub returns-in_default-clause-shown : goal.returns-in_default-clause-shown
returns-in_default-clause-shown g c front back cut shown same beside =
    absurd (none_not _ (sym c.in_default.is ∙ c.gap_at.ensures.shown cut (rw same shown) beside))

pub returns-in_default-beside-clause-shown : goal.returns-in_default-beside-clause-shown
returns-in_default-beside-clause-shown g c front back cut shown same beside =
    absurd (none_not _ (sym c.in_default-beside.is ∙ c.beside.ensures.member front back c.args.member shown refl))

pub returns-clause-shown : goal.returns-clause-shown
returns-clause-shown g c front back cut shown same beside =
    let to = some_same (sym c.in-Some.is ∙ c.gap_at.ensures.shown cut (rw same shown) beside) in
    let from = some_same (sym c.in-Some-beside.is ∙ c.beside.ensures.member front back c.args.member shown refl) in
    (λ k. Some (from k, to k))

pub returns-clause-sides : goal.returns-clause-sides
returns-clause-sides g c from to is =
    let both = some_same is in
    (sym (ap (λ m. m.0) both) ∙ c.beside.ensures.sides _ c.in-Some-beside.is, sym (ap (λ m. m.1) both) ∙ c.gap_at.ensures.sides _ c.in-Some.is)
