use Rattle.std.proofs.Common.{Some, subst, ◌∙◌}
use Rattle.ic_link_ops.specs.declared.side.Side.TheVariants.{Left, Right}
use Rattle.ic_rbtree.specs.Kept.{IsBelow}
use Rattle.ic_rbtree.proofs.EndsKept.{comes_first, comes_last}
use Rattle.ic_rbtree.proofs.head.WithEndsTreeHead.attach.Goals as goal

pub returns-in_default-clause-safe : goal.returns-in_default-clause-safe
returns-in_default-clause-safe g c = rw (← c.self.view_is) c.attach.ensures.safe

pub returns-in-Left-clause-safe : goal.returns-in-Left-clause-safe
returns-in-Left-clause-safe g c = rw (← c.self.view_is) c.attach.ensures.safe

pub returns-in-Left-clause-ends : goal.returns-in-Left-clause-ends
returns-in-Left-clause-ends g c gap below distinct printed =
    let here : IsBelow (Some c.in-Some.above) Left gap = subst (λ d. IsBelow (Some c.in-Some.above) d gap) c.in-Left.is (subst (λ o. IsBelow o c.args.side gap) c.in-Some.is below) in (
      c.of-self-inside-in-Left.ensures ∙ (c.end_for.ensures ∙ comes_first (Some c.in-Some.above) Left gap c.args.place here distinct (c.get.ensures ∙ rw (← c.self.view_is) at printed.0)),
      comes_last (Some c.in-Some.above) Left gap c.args.place here distinct (rw (← c.self.view_is) at printed.1),
    )

pub returns-in-Right-clause-safe : goal.returns-in-Right-clause-safe
returns-in-Right-clause-safe g c = rw (← c.self.view_is) c.attach.ensures.safe

pub returns-in-Right-clause-ends : goal.returns-in-Right-clause-ends
returns-in-Right-clause-ends g c gap below distinct printed =
    let here : IsBelow (Some c.in-Some.above) Right gap = subst (λ d. IsBelow (Some c.in-Some.above) d gap) c.in-Right.is (subst (λ o. IsBelow o c.args.side gap) c.in-Some.is below) in (
      comes_first (Some c.in-Some.above) Right gap c.args.place here distinct (rw (← c.self.view_is) at printed.0),
      c.of-self-inside-in-Right.ensures ∙ (c.end_for-in-Right.ensures ∙ comes_last (Some c.in-Some.above) Right gap c.args.place here distinct (c.get-in-Right.ensures ∙ rw (← c.self.view_is) at printed.1)),
    )
