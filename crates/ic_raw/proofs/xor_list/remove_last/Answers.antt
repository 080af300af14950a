use Rattle.std.proofs.Common.{[], refl, sym, ◌∙◌}
use Rattle.ic_raw.proofs.Gaps.{never}
use Rattle.ic_raw.proofs.Xor.{member_linked, prev_represented}
use Rattle.ic_raw.proofs.xor_list.remove_last.Goals as goal

pub returns-then-not-is_linked-clause-removed : goal.returns-then-not-is_linked-clause-removed
returns-then-not-is_linked-clause-removed c front shown =
    absurd (never (sym c.is_linked.ensures ∙ c.if-not-is_linked.true) (member_linked front c.args.member [] shown))

pub returns-clause-removed : goal.returns-clause-removed
returns-clause-removed c front shown =
    c.take_out.ensures.removed front [] shown (c.prev-before.ensures ∙ prev_represented front c.args.member [] shown refl) refl
