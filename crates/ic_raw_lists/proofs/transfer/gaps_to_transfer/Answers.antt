use Rattle.std.proofs.Common.{◌∷◌, ◌++◌, Some, refl, sym, ap, ◌∙◌}
use Rattle.ic_link_ops.specs.Sequences.{join}
use Rattle.ic_link_ops.proofs.SequenceLemmas.{gap_not, none_not, some_same}
use Rattle.ic_raw.proofs.Gaps.{never}
use Rattle.ic_raw.proofs.Lists.{begin_apart}
use Rattle.ic_raw.proofs.Moves.{apart_same}
use Rattle.ic_raw_lists.proofs.Transfers.{apart_at}
use Rattle.ic_raw_lists.proofs.transfer.gaps_to_transfer.Goals as goal

pub returns-in_default-clause-shown : goal.returns-in_default-clause-shown
returns-in_default-clause-shown g c cut front back shown beside given apart = absurd (none_not _ (sym c.in_default.is ∙ c.gap_at.ensures.shown cut shown beside))

pub returns-in_default-beside-clause-shown : goal.returns-in_default-beside-clause-shown
returns-in_default-beside-clause-shown g c cut front back shown beside given apart =
    absurd (none_not _ (sym c.in_default-beside.is ∙ c.beside.ensures.member front back c.args.member given refl))

pub returns-then-begin_alike-clause-shown : goal.returns-then-begin_alike-clause-shown
returns-then-begin_alike-clause-shown g c cut front back shown beside given apart =
    let alike = c.begin_alike.ensures.alike c.if-begin_alike.true in
    absurd (begin_apart (join cut) (front ++ c.args.member ∷ back) apart (sym given.head ∙ alike.1) (sym shown.head ∙ alike.2))

-- a member of the list `given` is beside no gap of the other list, because the two lists share no member
pub returns-then-not-is_apart-clause-shown : goal.returns-then-not-is_apart-clause-shown
returns-then-not-is_apart-clause-shown g c cut front back shown beside given apart =
    let to = some_same (sym c.in-Some.is ∙ c.gap_at.ensures.shown cut shown beside) in
    let away = gap_not cut.front cut.back refl refl (apart_at front c.args.member back (join cut) apart) in
    absurd (never c.if-not-is_apart.true (c.is_apart.ensures.1 (apart_same (sym to) refl away)))

pub returns-clause-shown : goal.returns-clause-shown
returns-clause-shown g c cut front back shown beside given apart =
    let to = some_same (sym c.in-Some.is ∙ c.gap_at.ensures.shown cut shown beside) in
    let from = some_same (sym c.in-Some-beside.is ∙ c.beside.ensures.member front back c.args.member given refl) in
    (λ k. Some (from k, to k))

pub returns-clause-sides : goal.returns-clause-sides
returns-clause-sides g c from to is =
    let both = some_same is in
    (sym (ap (λ m. m.0) both) ∙ c.beside.ensures.sides _ c.in-Some-beside.is, sym (ap (λ m. m.1) both) ∙ c.gap_at.ensures.sides _ c.in-Some.is)

pub returns-clause-away : goal.returns-clause-away
returns-clause-away g c from to is = apart_same (ap (λ m. m.1) (some_same is)) refl (c.is_apart.ensures.0 c.if-not-is_apart.false)
