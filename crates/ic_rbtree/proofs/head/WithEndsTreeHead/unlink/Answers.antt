use Rattle.std.proofs.Common.{◌∙◌}
use Rattle.ic_rbtree.proofs.head.WithEndsTreeHead.unlink.Goals as goal

pub returns-clause-safe : goal.returns-clause-safe
returns-clause-safe g c = rw (← c.self.view_is) c.unlink.ensures.safe

pub returns-clause-ends : goal.returns-clause-ends
returns-clause-ends g c front back h printed = (
  c.of-self-inside.ensures ∙ c.end_without-front.ensures front back (rw c.get-root.ensures (rw (← c.self.view_is) at h)) (c.get.ensures ∙ rw (← c.self.view_is) at printed.0),
  c.of-self-inside-2.ensures ∙ c.end_without-back.ensures front back (rw c.get-root.ensures (rw (← c.self.view_is) at h)) (c.get-2.ensures ∙ rw (← c.self.view_is) at printed.1),
)
