use Rattle.std.proofs.Common.{refl, sym, ap, ◌∙◌}
use Rattle.ic_link_ops.proofs.SequenceLemmas.{none_not}
use Rattle.ic_raw.proofs.Gaps.{never}
use Rattle.ic_raw.proofs.stack.split.Goals as goal

pub returns-clause-touched : goal.returns-clause-touched
returns-clause-touched c made =
    let cut = c.split_between.ensures in
    rw (← ap (λ g. g.before) (c.gap_after.ensures.is _ c.in-Some.is)) (record { steps_are = cut.trace_stays; others = λ q out. cut.others q out.0 (λ no. absurd no) })

pub returns-clause-own : goal.returns-clause-own
returns-clause-own c made = rw (← ap (λ g. g.before) (c.gap_after.ensures.is _ c.in-Some.is)) c.split_between.ensures.ends.head

pub returns-clause-rest : goal.returns-clause-rest
returns-clause-rest c made = c.split_between.ensures.ends.rest_head ∙ ap (λ g. g.after) (c.gap_after.ensures.is _ c.in-Some.is)

pub returns-in_default-clause-accepted : goal.returns-in_default-clause-accepted
returns-in_default-clause-accepted c = ((λ e. absurd (never refl e)), (λ links_back. absurd (none_not _ (sym c.in_default.is ∙ c.gap_after.ensures.found links_back))))

pub returns-clause-accepted : goal.returns-clause-accepted
returns-clause-accepted c = ((λ made. c.gap_after.ensures.links_back _ c.in-Some.is), (λ links_back. refl))
