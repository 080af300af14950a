use Rattle.std.proofs.Common.{subst}
use Rattle.ic_rbtree.specs.Closed.{IsIn}
use Rattle.ic_raw.specs.Seen.{has_place}
use Rattle.ic_raw.specs.Tree.{lent_table}
use Rattle.ic_raw.proofs.Gaps.{never}
use Rattle.ic_raw.proofs.Trees.{closed}
use Rattle.ic_raw.proofs.TreeWalks.{root_in, before_in}
use Rattle.ic_raw.proofs.tree_clear.next_of.Goals as goal

pub returns-then-not-has-clause-leads : goal.returns-then-not-has-clause-leads
returns-then-not-has-clause-leads c cut shown after = absurd (never c.if-not-has.true (c.has.ensures.1 (before_in cut shown after)))

pub returns-then-not-has-clause-ended : goal.returns-then-not-has-clause-ended
returns-then-not-has-clause-ended c within none = absurd (never c.if-not-has.true (c.has.ensures.1 within.0))

pub returns-then-not-has-2-clause-leads : goal.returns-then-not-has-2-clause-leads
returns-then-not-has-2-clause-leads c cut shown after = absurd (never c.if-not-has-2.true (c.has-2.ensures.1 (rw c.root.ensures (root_in shown))))

pub returns-then-not-has-2-clause-ended : goal.returns-then-not-has-2-clause-ended
returns-then-not-has-2-clause-ended c within none = absurd (never c.if-not-has-2.true (c.has-2.ensures.1 (rw c.root.ensures within.1.0)))

pub step_bounded-requires : goal.step_bounded-requires
step_bounded-requires c =
    let t = lent_table c.args.links.now in
    (has_place t, closed t _ (rw (c.root-2.ensures, ← c.root.ensures) (c.has-2.ensures.0 c.if-not-has-2.false)), (c.has.ensures.0 c.if-not-has.false, tt))

pub returns-clause-leads : goal.returns-clause-leads
returns-clause-leads c cut shown after = c.step_bounded.ensures.leads cut (rw c.root-2.ensures shown) after

pub returns-clause-reached : goal.returns-clause-reached
returns-clause-reached c q is = rw c.root-2.ensures at (c.step_bounded.ensures.reached q is)

pub returns-clause-ended : goal.returns-clause-ended
returns-clause-ended c within none = rw c.root-2.ensures at (c.step_bounded.ensures.ended none)
