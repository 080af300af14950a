use Rattle.std.proofs.Common.{◌≡◌, ◌∷◌, Some, refl, sym, ap, ◌∙◌}
use Rattle.ic_link_ops.proofs.SequenceLemmas.{some_same}
use Rattle.ic_raw.proofs.Doubly.{law}
use Rattle.ic_raw.proofs.Lists.{replaced}
use Rattle.ic_raw.proofs.Own.{put_in}
use Rattle.ic_raw.specs.Touches.{sides}
use Rattle.ic_raw.proofs.Touches.{touches_replace, touches_same}
use Rattle.ic_raw.proofs.LinkViews.{link_words, end_has_room, linked_has_room}
use Rattle.ic_raw.proofs.list.replace.Goals as goal

pub returns-clause-replaced : goal.returns-clause-replaced
returns-clause-replaced g c front back p shown is free' =
    let words = link_words g.W.Words g.W.NextWord g.W.PrevPlace in
    let taken = c.in-Some-acquire.is in
    let one : p ≡ c.in-Some-acquire.place = some_same (sym is ∙ c.acquire.ensures.same _ taken) in
    let gap = some_same (sym c.in-Some.is ∙ c.beside.ensures.member front back c.args.member shown refl) in
    let put = c.replace_linked.ensures in
    let released = c.release_link.ensures in
    rw one (
      refl,
      replaced (law words) front c.args.member back (ap (λ g. g.before) gap) (ap (λ g. g.after) gap) shown (c.acquire.ensures.free _ taken) (c.acquire.ensures.frame _ taken) put.shows
          put.extent put.others released.frame,
      released.released.is,
    )

pub returns-clause-free : goal.returns-clause-free
returns-clause-free g c made =
    let taken = c.in-Some-acquire.is in (c.in-Some-acquire.place, c.acquire.ensures.same _ taken, c.acquire.ensures.free _ taken)

pub returns-clause-own : goal.returns-clause-own
returns-clause-own g c made = put_in (c.beside.ensures.sides _ c.in-Some.is) (c.acquire.ensures.same _ c.in-Some-acquire.is) c.replace_linked.ensures.ends

pub returns-clause-touched : goal.returns-clause-touched
returns-clause-touched g c p made is =
    let taken = c.in-Some-acquire.is in
    let one : p ≡ c.in-Some-acquire.place = some_same (sym is ∙ c.acquire.ensures.same _ taken) in
    let found = c.beside.ensures.sides _ c.in-Some.is in
    let put = c.replace_linked.ensures in
    let released = c.release_link.ensures in
    rw one (touches_same (λ k. Some c.in-Some-acquire.place ∷ Some c.args.member ∷ sides (found k))
    (touches_replace (c.acquire.ensures.free _ taken) (c.acquire.ensures.linked _ taken) (c.acquire.ensures.frame _ taken) put.trace_stays put.others released.released released.frame))

pub replace_linked-requires-clause-next : goal.replace_linked-requires-clause-next
replace_linked-requires-clause-next g c =
    let words = link_words g.W.Words g.W.NextWord g.W.PrevPlace in
    end_has_room words g.met.W.Words.starts_unlinked c.args.links.now c.in-Some.gap.after (c.beside.ensures.stands _ c.in-Some.is).1

pub replace_linked-requires-clause-out : goal.replace_linked-requires-clause-out
replace_linked-requires-clause-out g c =
    let words = link_words g.W.Words g.W.NextWord g.W.PrevPlace in
    linked_has_room words g.met.W.Words.starts_unlinked c.args.links.now c.args.member (c.beside.ensures.at _ c.in-Some.is _ refl)
