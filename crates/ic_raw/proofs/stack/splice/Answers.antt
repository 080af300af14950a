use Rattle.std.proofs.Common.{Some, refl, sym, ap, subst, ◌∙◌}
use Rattle.ic_link_ops.specs.Prelude.{first, join, list_from}
use Rattle.ic_link_ops.proofs.Prelude.{none_not, nothing_last, last_linked}
use Rattle.ic_raw.specs.Singly.{Represents, lent_table}
use Rattle.ic_raw.proofs.Gaps.{never}
use Rattle.ic_raw.proofs.Lists.{begin_apart}
use Rattle.ic_raw.proofs.Singly.{law, represents_none}
use Rattle.ic_raw.proofs.stack.splice.Goals as goal

pub returns-then-begin_alike-clause-spliced : goal.returns-then-begin_alike-clause-spliced
returns-then-begin_alike-clause-spliced c cut t shown after given apart =
    let both = c.begin_alike.ensures.alike c.if-begin_alike.true in
    absurd (begin_apart (join cut) t apart (sym given.head ∙ both.1) (sym shown.head ∙ both.2))

-- a list that has a first member also has a last member
pub returns-in_default-last_from-clause-spliced : goal.returns-in_default-last_from-clause-spliced
returns-in_default-last_from-clause-spliced c cut t shown after given apart =
    let whole : Represents (lent_table c.args.links.now) (list_from (Some c.in-Some-first.front)) t = rw (sym c.first.ensures ∙ c.in-Some-first.is) at given in
    let nothing = nothing_last t (sym c.in_default-last_from.is ∙ c.last_from.ensures.shown t whole) in
    absurd (none_not c.in-Some-first.front (sym (whole.head ∙ ap first nothing)))

pub splice_between-requires-clause-end : goal.splice_between-requires-clause-end
splice_between-requires-clause-end c q e =
    let walked = c.last_from.ensures.ended c.in-Some-last_from.back c.in-Some-last_from.is in
    last_linked law walked.1 (sym e ∙ walked.2)

pub returns-in_default-first-clause-touched : goal.returns-in_default-first-clause-touched
returns-in_default-first-clause-touched c t given made = record { steps_are = λ q. refl; others = λ q out. refl }

pub returns-clause-touched : goal.returns-clause-touched
returns-clause-touched c t given made =
    let whole : Represents (lent_table c.args.links.now) (list_from (Some c.in-Some-first.front)) t = rw (sym c.first.ensures ∙ c.in-Some-first.is) at given in
    let end = sym c.in-Some-last_from.is ∙ c.last_from.ensures.shown t whole in
    let put = c.splice_between.ensures in
    rw (← end, ← ap (λ g. g.before) (c.gap_after.ensures.is _ c.in-Some.is))
    (record { steps_are = put.trace_stays; others = λ q out. put.others q out.0 (λ no. absurd no) (λ no. absurd no) out.1.0 })

pub returns-clause-own : goal.returns-clause-own
returns-clause-own c made some =
    let first = sym c.first.ensures ∙ c.in-Some-first.is in
    rw (first, ← ap (λ g. g.before) (c.gap_after.ensures.is _ c.in-Some.is)) (c.splice_between.ensures.ends c.in-Some-first.front first).head

pub returns-then-begin_alike-clause-accepted : goal.returns-then-begin_alike-clause-accepted
returns-then-begin_alike-clause-accepted c =
    let alike = c.begin_alike.ensures.alike c.if-begin_alike.true in
    ((λ e. absurd (never refl e)), (λ links_back. absurd (links_back.1 alike.0 alike.1 alike.2)))

pub returns-in_default-clause-accepted : goal.returns-in_default-clause-accepted
returns-in_default-clause-accepted c = ((λ e. absurd (never refl e)), (λ links_back. absurd (none_not _ (sym c.in_default.is ∙ c.gap_after.ensures.found links_back.0))))

pub returns-in_default-first-clause-accepted : goal.returns-in_default-first-clause-accepted
returns-in_default-first-clause-accepted c = (
  (λ made. (c.gap_after.ensures.links_back _ c.in-Some.is, c.begin_alike.ensures.apart c.if-begin_alike.false, represents_none (lent_table c.args.links.now) c.args.given (sym c.first.ensures ∙ c.in_default-first.is))),
  (λ links_back. refl),
)

pub returns-in_default-last_from-clause-accepted : goal.returns-in_default-last_from-clause-accepted
returns-in_default-last_from-clause-accepted c = (
  (λ e. absurd (never refl e)),
  (λ links_back.
      let shown = links_back.2 in
      let whole : Represents (lent_table c.args.links.now) (list_from (Some c.in-Some-first.front)) shown.0 = rw (sym c.first.ensures ∙ c.in-Some-first.is) at shown.1 in
      let nothing = nothing_last shown.0 (sym c.in_default-last_from.is ∙ c.last_from.ensures.shown shown.0 whole) in
      absurd (none_not c.in-Some-first.front (sym (whole.head ∙ ap first nothing)))),
)

pub returns-clause-accepted : goal.returns-clause-accepted
returns-clause-accepted c =
    let t = lent_table c.args.links.now in
    let walked = c.last_from.ensures.ended c.in-Some-last_from.back c.in-Some-last_from.is in
    let whole = subst (λ o. Represents t (list_from o) walked.0) (sym c.in-Some-first.is ∙ c.first.ensures) walked.1 in
    ((λ made. (c.gap_after.ensures.links_back _ c.in-Some.is, c.begin_alike.ensures.apart c.if-begin_alike.false, (walked.0, whole))), (λ links_back. refl))
