use Rattle.std.proofs.Common.{ap, ◌∙◌}
use Rattle.ic_rbtree.specs.Kept.{RootAndEnds}
use Rattle.ic_rbtree.proofs.EndsKept.{first_around, last_around}
use Rattle.ic_rbtree.proofs.head.WithEndsTreeHead.join.Goals as goal

pub returns-clause-ends : goal.returns-clause-ends
returns-clause-ends c s t printed others =
    let made = c.self-2.view_is ∙ c.of.ensures in (
      ap (λ (h : RootAndEnds). h.front) made ∙ (c.or-front.ensures ∙ first_around s t c.args.place (c.get.ensures ∙ rw (← c.self.view_is) at printed.0)),
      ap (λ (h : RootAndEnds). h.back) made ∙ (c.or-back.ensures ∙ last_around s t c.args.place (c.get-2.ensures ∙ rw (← c.other.view_is) at others.1)),
    )
