use Rattle.std.proofs.Common.{◌≡◌, [], ◌∷◌, Some, refl, sym, ap, ◌∙◌}
use Rattle.ic_link_ops.specs.Sequences.{at_back, join}
use Rattle.ic_link_ops.proofs.SequenceLemmas.{some_same, last_of_front}
use Rattle.ic_raw.proofs.Doubly.{law}
use Rattle.ic_raw.proofs.Lists.{inserted}
use Rattle.ic_raw.proofs.Own.{put_in, end_stays}
use Rattle.ic_raw.specs.Touches.{sides}
use Rattle.ic_raw.proofs.Touches.{touches_insert, touches_same}
use Rattle.ic_raw.proofs.LinkViews.{link_words, end_has_room}
use Rattle.ic_raw.proofs.list.push_after_last.Goals as goal

pub returns-clause-inserted : goal.returns-clause-inserted
returns-clause-inserted g c s p made shown is =
    let words = link_words g.W.Words g.W.NextWord g.W.PrevPlace in
    let taken = c.in-Some-acquire.is in
    let one : p ≡ c.in-Some-acquire.place = some_same (sym is ∙ c.acquire.ensures.same _ taken) in
    let gap = c.gap_at_end.ensures.shown _ (join (at_back s)) c.in-Some.is shown in
    let before = ap (λ g. g.before) gap ∙ last_of_front s [] refl in
    let put = c.insert_linked.ensures in
    rw one (inserted (law words) (at_back s) before (ap (λ g. g.after) gap) shown (c.acquire.ensures.free _ taken) (c.acquire.ensures.frame _ taken) put.shows put.extent put.others)

pub returns-clause-own : goal.returns-clause-own
returns-clause-own g c made = put_in (c.gap_at_end.ensures.sides _ c.in-Some.is) (c.acquire.ensures.same _ c.in-Some-acquire.is) c.insert_linked.ensures.ends

pub returns-clause-head : goal.returns-clause-head
returns-clause-head g c made =
    let own = put_in (c.gap_at_end.ensures.sides _ c.in-Some.is) (c.acquire.ensures.same _ c.in-Some-acquire.is) c.insert_linked.ensures.ends in
    own.head ∙ end_stays _ (c.gap_at_end.ensures.end _ c.in-Some.is).1

pub returns-clause-free : goal.returns-clause-free
returns-clause-free g c made =
    let taken = c.in-Some-acquire.is in (c.in-Some-acquire.place, c.acquire.ensures.same _ taken, c.acquire.ensures.free _ taken)

pub returns-clause-touched : goal.returns-clause-touched
returns-clause-touched g c p made is =
    let taken = c.in-Some-acquire.is in
    let one : p ≡ c.in-Some-acquire.place = some_same (sym is ∙ c.acquire.ensures.same _ taken) in
    let found = c.gap_at_end.ensures.sides _ c.in-Some.is in
    let put = c.insert_linked.ensures in
    rw one (touches_same (λ k. Some c.in-Some-acquire.place ∷ sides (found k))
    (touches_insert (c.acquire.ensures.free _ taken) (c.acquire.ensures.linked _ taken) (c.acquire.ensures.frame _ taken) put.trace_stays put.others))

pub insert_linked-requires-clause-next : goal.insert_linked-requires-clause-next
insert_linked-requires-clause-next g c =
    let words = link_words g.W.Words g.W.NextWord g.W.PrevPlace in
    end_has_room words g.met.W.Words.starts_unlinked c.args.links.now c.in-Some.gap.after (c.gap_at_end.ensures.stands _ c.in-Some.is).1
