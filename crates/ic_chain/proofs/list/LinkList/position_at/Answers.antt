use Rattle.std.proofs.Common.{◌∙◌, sym, drop, refl}
use Rattle.ic_link_ops.specs.Sequences.{join}
use Rattle.ic_link_ops.proofs.Prelude.{first_is, gap_after_linked, represents_middle}
use Rattle.ic_chain.proofs.Standing.{stands_at_null, stands_on_member}
use Rattle.ic_chain.proofs.list.LinkList.position_at.Goals as goal

pub position_at-requires : goal.position_at-requires
position_at-requires g c = record {
  linked = λ reads. let r = c.requires.shown reads in gap_after_linked g.met.K.ForwardLinks.between_linked r.0.front r.0.back r.1 (sym c.in-Some.is ∙ r.3);
}

pub returns-in-None-clause-on : goal.returns-in-None-clause-on
returns-in-None-clause-on g c = c.null.ensures.on ∙ sym c.in-None.is

pub returns-in-None-clause-kept : goal.returns-in-None-clause-kept
returns-in-None-clause-kept g c gap shown prev current = stands_at_null (join gap) shown c.null.ensures.on

pub returns-in-Some-clause-kept : goal.returns-in-Some-clause-kept
returns-in-Some-clause-kept g c gap shown prev current =
    let rest = drop 1 gap.back in
    let whole = rw (first_is gap.back (sym c.in-Some.is ∙ current)) at shown in
    stands_on_member gap.front rest c.in-Some.place whole c.position_at.ensures.on (c.position_at.ensures.caches _ (rw prev (represents_middle gap.front rest whole))) refl
