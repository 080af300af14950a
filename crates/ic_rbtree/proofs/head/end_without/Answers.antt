use Rattle.std.proofs.Common.{sym, ◌∙◌}
use Rattle.ic_rbtree.proofs.EndsKept.{end_steps, end_stays}
use Rattle.ic_rbtree.proofs.head.end_without.Goals as goal

pub returns-then-is_at : goal.returns-then-is_at
returns-then-is_at g c front back h is =
    end_steps c.args.d front back c.args.place h is (sym c.is_at.ensures ∙ c.if-is_at.true) (rw c.other.ensures at c.step_bounded.ensures.leads)

pub returns-else-is_at : goal.returns-else-is_at
returns-else-is_at g c front back h is = end_stays c.args.d front back c.args.place is (sym c.is_at.ensures ∙ c.if-is_at.false)
