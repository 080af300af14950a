use Rattle.std.proofs.Common.{ap, ◌∙◌}
use Rattle.ic_rbtree.specs.Kept.{RootAndEnds}
use Rattle.ic_rbtree.proofs.EndsKept.{first_before, last_handed}
use Rattle.ic_rbtree.proofs.head.WithEndsTreeHead.split.Goals as goal

pub returns-clause-ends : goal.returns-clause-ends
returns-clause-ends g c s t h printed =
    let made = c.self-2.view_is ∙ c.of.ensures in
    let last = c.end_on-last.ensures.end s h in (
      (
        ap (λ (h : RootAndEnds). h.front) made ∙ (c.and.ensures ∙ first_before s t c.args.place last (c.get-2.ensures ∙ rw (← c.self.view_is) at printed.0)),
        ap (λ (h : RootAndEnds). h.back) made ∙ last,
      ),
      (
        ap (λ (h : RootAndEnds). h.front) c.of-rest.ensures,
        ap (λ (h : RootAndEnds). h.back) c.of-rest.ensures ∙ (c.get.ensures ∙ (rw (← c.self.view_is) at printed.1 ∙ last_handed s t c.args.place)),
      ),
    )
