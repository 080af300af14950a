use Rattle.std.proofs.Common.{◌∙◌}
use Rattle.ic_rbtree.proofs.EndsKept.{first_replaced, last_replaced}
use Rattle.ic_rbtree.proofs.head.WithEndsTreeHead.take_place.Goals as goal

pub returns-clause-taken : goal.returns-clause-taken
returns-clause-taken g c = rw (← c.self.view_is) c.take_place.ensures.taken

pub returns-clause-safe : goal.returns-clause-safe
returns-clause-safe g c = rw (← c.self.view_is) c.take_place.ensures.safe

pub returns-clause-ends : goal.returns-clause-ends
returns-clause-ends g c front back distinct printed = (
  c.of-self-inside.ensures ∙ (c.end_for.ensures ∙ first_replaced front back c.args.place c.args.new distinct (c.get.ensures ∙ rw (← c.self.view_is) at printed.0)),
  c.of-self-inside-2.ensures ∙ (c.end_for-2.ensures ∙ last_replaced front back c.args.place c.args.new distinct (c.get-2.ensures ∙ rw (← c.self.view_is) at printed.1)),
)
