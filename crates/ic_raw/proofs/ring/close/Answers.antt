use Rattle.ic_raw.proofs.LinkViews.{link_words, linked_has_room}
use Rattle.ic_raw.proofs.ring.close.Goals as goal

pub set_prev-requires-clause-prev : goal.set_prev-requires-clause-prev
set_prev-requires-clause-prev g c =
    let words = link_words g.W.Words g.W.NextWord g.W.PrevPlace in
    let place = c.in_ok-place.place in
    linked_has_room words g.met.W.Words.starts_unlinked c.acquire.new.self place (c.acquire.ensures.linked place c.in_ok-place.was)

pub set_next-requires-clause-next : goal.set_next-requires-clause-next
set_next-requires-clause-next g c =
    let words = link_words g.W.Words g.W.NextWord g.W.PrevPlace in
    let place = c.in_ok-place.place in
    linked_has_room words g.met.W.Words.starts_unlinked c.acquire.new.self place (c.acquire.ensures.linked place c.in_ok-place.was)
