use Rattle.std.proofs.Common.{◌∙◌}
use Rattle.ic_raw.proofs.Gaps.{never}
use Rattle.ic_raw.proofs.Trees.{beside_stands, beside_rooted, root_stands}
use Rattle.ic_raw.proofs.tree.stand.Goals as goal

pub returns-then-not-is_linked-clause-shown : goal.returns-then-not-is_linked-clause-shown
returns-then-not-is_linked-clause-shown c side cut shown at =
    absurd (never c.if-not-is_linked.true (c.is_linked.ensures ∙ beside_stands side cut shown at c.in-Some.member c.in-Some.is))

pub returns-else-not-is_linked-clause-shown : goal.returns-else-not-is_linked-clause-shown
returns-else-not-is_linked-clause-shown c side cut shown at =
    c.has_root.ensures.shown (beside_rooted side cut shown at c.in-Some.is) (root_stands shown)
