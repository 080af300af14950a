use Rattle.std.proofs.Common.{◌∙◌, sym, ap, drop}
use Rattle.ic_link_ops.proofs.Prelude.{gap_there, first_is, gap_after_linked, represents_middle}
use Rattle.ic_chain.proofs.Standing.{stands, cached_on}
use Rattle.ic_chain.proofs.list.LinkList.before.Goals as goal

pub next_at-after-requires : goal.next_at-after-requires
next_at-after-requires g c =
    let k = gap_there (stands c.requires) in
    record { linked = gap_after_linked g.met.K.ForwardLinks.between_linked k.0.front k.0.back k.1 (sym c.in-Some.is ∙ c.get.ensures ∙ k.2); on = sym c.get.ensures ∙ c.in-Some.is }

pub prev-requires : goal.prev-requires
prev-requires g c =
    let k = gap_there (stands c.requires) in
    record { linked = gap_after_linked g.met.K.ForwardLinks.between_linked k.0.front k.0.back k.1 (sym c.in-Some.is ∙ c.get.ensures ∙ k.2) }

pub returns-in-Some : goal.returns-in-Some
returns-in-Some g c gap shown is_before =
    let on = sym c.get.ensures ∙ c.in-Some.is in
    let rest = drop 1 gap.back in
    let whole = rw (first_is gap.back (sym on ∙ is_before)) at shown in
    let middle = represents_middle gap.front rest whole in
    let after = c.next_at-after.ensures _ _ middle (cached_on g.met.K.ForwardLinks.leads c.requires gap.front rest c.in-Some.place whole on) in
    c.prev.ensures ∙ ap (g.K.BidirectionalLinks.step_back ((g.L.LinkOps.table c.args.links.now).entry c.in-Some.place)) after ∙ g.met.K.BidirectionalLinks.leads_back _ _ _ middle
