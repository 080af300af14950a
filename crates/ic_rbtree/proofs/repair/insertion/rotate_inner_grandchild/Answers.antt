use Rattle.std.proofs.Common.{sym, ◌∙◌}
use Rattle.ic_rbtree.proofs.RedPairs.{across_is, same_is, low_side, outer_now, outer_then}
use Rattle.ic_rbtree.proofs.repair.insertion.rotate_inner_grandchild.Goals as goal

pub rotate-requires : goal.rotate-requires
rotate-requires g c = let r = c.requires in (r.0, r.1, (r.2.1.0, (r.2.0, tt)))

pub returns-then-not-is_across-clause-outer_grandchild : goal.returns-then-not-is_across-clause-outer_grandchild
returns-then-not-is_across-clause-outer_grandchild g c gr m k h =
    let n = g.N.NodeStore.node in
    outer_now n h (sym (low_side n h c.side_of-low.result c.side_of-low.ensures) ∙ same_is c.side_of-low.result c.args.side (sym c.is_across.ensures ∙ c.if-not-is_across.true))

pub returns-clause-outer_grandchild : goal.returns-clause-outer_grandchild
returns-clause-outer_grandchild g c gr m k h =
    let n = g.N.NodeStore.node in
    outer_then n h (sym (low_side n h c.side_of-low.result c.side_of-low.ensures) ∙ across_is c.side_of-low.result c.args.side (sym c.is_across.ensures ∙ c.if-not-is_across.false)) c.rotate.ensures.rotated

pub returns-then-not-is_across-clause-safe : goal.returns-then-not-is_across-clause-safe
returns-then-not-is_across-clause-safe g c S h i = (h, i.1)

pub returns-clause-safe : goal.returns-clause-safe
returns-clause-safe g c S h i = ((c.rotate.ensures.safe S h (i.1.0, (i.0, tt))).0, (i.0, tt))
