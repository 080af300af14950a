use Rattle.std.proofs.Common.{◌≡◌, ◌∷◌, Some, refl, sym, ap, ◌∙◌}
use Rattle.ic_link_ops.proofs.SequenceLemmas.{some_same}
use Rattle.ic_raw.proofs.Doubly.{law}
use Rattle.ic_raw.proofs.Lists.{inserted}
use Rattle.ic_raw.proofs.Own.{put_in}
use Rattle.ic_raw.specs.Touches.{sides}
use Rattle.ic_raw.proofs.Touches.{touches_insert, touches_same}
use Rattle.ic_raw.proofs.LinkViews.{link_words, end_has_room}
use Rattle.ic_raw.proofs.list.insert.Goals as goal

pub returns-clause-inserted : goal.returns-clause-inserted
returns-clause-inserted g c cut p shown beside is free' =
    let words = link_words g.W.Words g.W.NextWord g.W.PrevPlace in
    let taken = c.in-Some-acquire.is in
    let one : p ≡ c.in-Some-acquire.place = some_same (sym is ∙ c.acquire.ensures.same _ taken) in
    let gap = some_same (sym c.in-Some.is ∙ c.gap_at.ensures.shown cut shown beside) in
    let put = c.insert_linked.ensures in
    rw one (
      refl,
      inserted (law words) cut (ap (λ g. g.before) gap) (ap (λ g. g.after) gap) shown (c.acquire.ensures.free _ taken) (c.acquire.ensures.frame _ taken) put.shows put.extent put.others,
    )

pub returns-clause-free : goal.returns-clause-free
returns-clause-free g c made =
    let taken = c.in-Some-acquire.is in (c.in-Some-acquire.place, c.acquire.ensures.same _ taken, c.acquire.ensures.free _ taken)

pub returns-clause-own : goal.returns-clause-own
returns-clause-own g c made = put_in (c.gap_at.ensures.sides _ c.in-Some.is) (c.acquire.ensures.same _ c.in-Some-acquire.is) c.insert_linked.ensures.ends

pub returns-clause-touched : goal.returns-clause-touched
returns-clause-touched g c p made is =
    let taken = c.in-Some-acquire.is in
    let one : p ≡ c.in-Some-acquire.place = some_same (sym is ∙ c.acquire.ensures.same _ taken) in
    let found = c.gap_at.ensures.sides _ c.in-Some.is in
    let put = c.insert_linked.ensures in
    rw one (touches_same (λ k. Some c.in-Some-acquire.place ∷ sides (found k))
    (touches_insert (c.acquire.ensures.free _ taken) (c.acquire.ensures.linked _ taken) (c.acquire.ensures.frame _ taken) put.trace_stays put.others))

pub insert_linked-requires-clause-next : goal.insert_linked-requires-clause-next
insert_linked-requires-clause-next g c =
    let words = link_words g.W.Words g.W.NextWord g.W.PrevPlace in
    end_has_room words g.met.W.Words.starts_unlinked c.args.links.now c.in-Some.gap.after (c.gap_at.ensures.stands _ c.in-Some.is).1
