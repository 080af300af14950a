use Rattle.std.proofs.Common.{sym, ◌∙◌}
use Rattle.ic_raw.proofs.Gaps.{never}
use Rattle.ic_raw.proofs.Xor.{member_linked, next_represented}
use Rattle.ic_raw.proofs.xor_list.remove.Goals as goal

pub returns-then-not-is_linked-clause-removed : goal.returns-then-not-is_linked-clause-removed
returns-then-not-is_linked-clause-removed c front back shown before =
    absurd (never (sym c.is_linked.ensures ∙ c.if-not-is_linked.true) (member_linked front c.args.member back shown))

pub returns-clause-removed : goal.returns-clause-removed
returns-clause-removed c front back shown before =
    c.take_out.ensures.removed front back shown before (c.next-after.ensures ∙ next_represented front c.args.member back shown before)
