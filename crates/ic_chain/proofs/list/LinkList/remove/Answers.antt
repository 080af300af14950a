use Rattle.std.proofs.Common.{◌∙◌, None}
use Rattle.ic_link_ops.specs.Sequences.{first}
use Rattle.ic_link_ops.proofs.RepresentedLists.{represents_middle}
use Rattle.ic_chain.proofs.Standing.{next_is, one_represented}
use Rattle.ic_chain.proofs.list.LinkList.remove.Goals as goal

pub prev-before-requires : goal.prev-before-requires
prev-before-requires g c = let m = c.requires.member in record { linked = rw c.place-place.ensures (g.met.K.ForwardLinks.between_linked _ _ _ (represents_middle m.front m.back m.shown)) }

pub next-after-requires : goal.next-after-requires
next-after-requires g c = let m = c.requires.member in record { linked = rw c.place-place.ensures (g.met.K.ForwardLinks.between_linked _ _ _ (represents_middle m.front m.back m.shown)) }

pub unlink-requires : goal.unlink-requires
unlink-requires g c =
    let m = c.requires.member in
    let whole = rw (← c.place-place.ensures) at m.shown in
    let middle = represents_middle m.front m.back whole in
    let before = c.prev-before.ensures ∙ g.met.K.NamesBoth.tells_before _ None (first m.back) ∙ g.met.K.BidirectionalLinks.leads_back _ _ _ middle in
    record { shown = (m.front, m.back, whole, before, next_is g.met.K.ForwardLinks.leads m.front m.back whole before c.next-after.ensures) }

pub returns-clause-removed : goal.returns-clause-removed
returns-clause-removed g c front back shown =
    let whole = rw (← c.place-place.ensures) at shown in
    let middle = represents_middle front back whole in
    let before = c.prev-before.ensures ∙ g.met.K.NamesBoth.tells_before _ None (first back) ∙ g.met.K.BidirectionalLinks.leads_back _ _ _ middle in
    c.unlink.ensures.removed front back whole before (next_is g.met.K.ForwardLinks.leads front back whole before c.next-after.ensures)

pub returns-clause-released : goal.returns-clause-released
returns-clause-released g c = rw (← c.place-place.ensures) c.unlink.ensures.released

pub returns-clause-frame : goal.returns-clause-frame
returns-clause-frame g c s shown =
    let m = c.requires.member in
    let whole = rw (← c.place-place.ensures) at m.shown in
    let middle = represents_middle m.front m.back whole in
    let before = c.prev-before.ensures ∙ g.met.K.NamesBoth.tells_before _ None (first m.back) ∙ g.met.K.BidirectionalLinks.leads_back _ _ _ middle in
    rw (← one_represented g.met.K.ForwardLinks.leads m.shown shown, ← c.place-place.ensures)
    (c.unlink.ensures.frame m.front m.back whole before (next_is g.met.K.ForwardLinks.leads m.front m.back whole before c.next-after.ensures))
