use Rattle.std.proofs.Common.{Some, sym, ap, ◌∙◌, subst}
use Rattle.ic_link_ops.specs.Frames.{across}
use Rattle.ic_link_ops.specs.Sequences.{join}
use Rattle.ic_link_ops.proofs.Positions.{member_there}
use Rattle.ic_rbtree.specs.Sides.{IsBeside, nearest}
use Rattle.ic_rbtree.proofs.Removing.{spot_linked}
use Rattle.ic_rbtree.proofs.Beside.{member_spot, spot_can, below_can, nearest_twice, null_step, member_end, member_above, outermost_here, nearest_here}
use Rattle.ic_rbtree.proofs.steps.step.Goals as goal

pub child-requires : goal.child-requires
child-requires g c =
    let x = member_spot g.L.RBTreeOps.node (member_there c.requires.stands c.in-Some.is) in
    spot_linked g.L.RBTreeOps.node x.2

pub outermost-requires : goal.outermost-requires
outermost-requires g c =
    let x = member_spot g.L.RBTreeOps.node (member_there c.requires.stands c.in-Some.is) in
    below_can g.L.RBTreeOps.node x.2 c.args.side (sym c.in-Some-child.ensures)

pub above_on-requires : goal.above_on-requires
above_on-requires g c =
    let x = member_spot g.L.RBTreeOps.node (member_there c.requires.stands c.in-Some.is) in spot_can g.L.RBTreeOps.node x.2

pub returns-in_default : goal.returns-in_default
returns-in_default g c = record {
  leads = λ gap shown here.
      null_step g.L.RBTreeOps.node c.args.side gap shown (subst (λ o. IsBeside c.args.side gap o) c.in_default.is here)
      (c.get.ensures ∙ (c.of.ensures ∙ (c.end_from_null.ensures.end (join gap) shown ∙ (ap (λ k. nearest (across k) (join gap)) c.other.ensures ∙ nearest_twice c.args.side (join gap)))));
}

pub returns-in-Some-child : goal.returns-in-Some-child
returns-in-Some-child g c = record {
  leads = λ gap shown here.
      subst (λ o. IsBeside (across c.args.side) gap o) (sym (c.get-in-Some-child.ensures ∙ c.of-in-Some-child.ensures))
      (subst (λ k. IsBeside k gap (Some c.outermost.result)) c.other-in-Some-child.ensures
      (member_end g.L.RBTreeOps.node c.args.side gap shown c.in-Some.place c.other-in-Some-child.ensures (subst (λ o. IsBeside c.args.side gap o) c.in-Some.is here) (sym c.in-Some-child.ensures)
      (outermost_here g.L.RBTreeOps.node _ c.outermost.ensures)).1);
}

pub returns-in-None : goal.returns-in-None
returns-in-None g c = record {
  leads = λ gap shown here.
      subst (λ o. IsBeside (across c.args.side) gap o) (sym (c.get-in-None.ensures ∙ c.of-in-None.ensures))
      (member_above g.L.RBTreeOps.node c.args.side gap shown c.in-Some.place (subst (λ o. IsBeside c.args.side gap o) c.in-Some.is here) (sym c.in-None.ensures) (nearest_here g.L.RBTreeOps.node _ c.args.side c.above_on.ensures));
}
