use Rattle.std.proofs.Common.{◌∙◌, sym}
use Rattle.ic_link_ops.proofs.Prelude.{first_of_back, gap_linked, before_gap}
use Rattle.ic_chain.proofs.Standing.{cached_after}
use Rattle.ic_chain.proofs.list.LinkList.after.Goals as goal

pub next_at-requires : goal.next_at-requires
next_at-requires g c =
    let at = c.requires in
    record { linked = gap_linked g.met.K.ForwardLinks.between_linked at.gap.front at.gap.back at.shown (sym c.in-Some.is ∙ c.get.ensures ∙ at.after); on = sym c.get.ensures ∙ c.in-Some.is }

pub returns-in-None : goal.returns-in-None
returns-in-None g c gap shown after =
    c.first.ensures ∙ shown.head ∙ first_of_back gap.front gap.back (sym c.in-None.is ∙ c.get.ensures ∙ after)

pub returns-in-Some : goal.returns-in-Some
returns-in-Some g c gap shown after =
    let on = sym c.get.ensures ∙ c.in-Some.is in
    c.next_at.ensures _ _ (before_gap gap.front gap.back shown (sym on ∙ after)) (cached_after g.met.K.ForwardLinks.leads c.requires gap shown after c.in-Some.place on)
