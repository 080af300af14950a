use Rattle.std.proofs.Common.{◌≡◌, refl, sym, ap, ◌∙◌}
use Rattle.ic_link_ops.proofs.SequenceLemmas.{none_not, some_same}
use Rattle.ic_raw.proofs.Gaps.{never}
use Rattle.ic_raw.proofs.Singly.{law, touches_put}
use Rattle.ic_raw.proofs.Lists.{inserted}
use Rattle.ic_raw.proofs.stack.insert.Goals as goal

pub returns-clause-inserted : goal.returns-clause-inserted
returns-clause-inserted c cut p shown after is free =
    let gap = some_same (sym c.in-Some.is ∙ c.gap_after.ensures.shown cut shown after) in
    let one : p ≡ c.in-Some-acquire.place = some_same (sym is ∙ c.acquire.ensures.same c.in-Some-acquire.place c.in-Some-acquire.is) in
    let put = c.insert_linked.ensures in
    rw one (
      refl,
      inserted law cut (ap (λ g. g.before) gap) (ap (λ g. g.after) gap) shown (c.acquire.ensures.free c.in-Some-acquire.place c.in-Some-acquire.is)
          (c.acquire.ensures.frame c.in-Some-acquire.place c.in-Some-acquire.is) put.shows put.extent put.others,
    )

pub returns-in_default-clause-accepted : goal.returns-in_default-clause-accepted
returns-in_default-clause-accepted c = ((λ e. absurd (never refl e)), (λ links_back. absurd (none_not _ (sym c.in_default.is ∙ c.gap_after.ensures.found links_back.1))))

pub returns-in_default-acquire-clause-accepted : goal.returns-in_default-acquire-clause-accepted
returns-in_default-acquire-clause-accepted c = (
  (λ e. absurd (never refl e)),
  (λ links_back. let free = links_back.0 in absurd (none_not _ (sym c.in_default-acquire.is ∙ c.acquire.ensures.accepted free.0 free.1 free.2))),
)

pub returns-clause-accepted : goal.returns-clause-accepted
returns-clause-accepted c =
    let place = c.in-Some-acquire.place in
    let is = c.in-Some-acquire.is in
    ((λ made. ((place, c.acquire.ensures.same place is, c.acquire.ensures.free place is), c.gap_after.ensures.links_back _ c.in-Some.is)), (λ links_back. refl))

pub returns-clause-own : goal.returns-clause-own
returns-clause-own c made =
    rw (← ap (λ g. g.before) (c.gap_after.ensures.is _ c.in-Some.is), c.acquire.ensures.same _ c.in-Some-acquire.is) c.insert_linked.ensures.ends.head

pub returns-clause-touched : goal.returns-clause-touched
returns-clause-touched c p is made =
    let place = c.in-Some-acquire.place in
    let taken = c.in-Some-acquire.is in
    let one : p ≡ place = some_same (sym is ∙ c.acquire.ensures.same place taken) in
    let put = c.insert_linked.ensures in
    rw (one, ← ap (λ g. g.before) (c.gap_after.ensures.is _ c.in-Some.is))
    (touches_put (c.acquire.ensures.free place taken) (c.acquire.ensures.linked place taken) (c.acquire.ensures.frame place taken) put.trace_stays put.others)
