use Rattle.std.proofs.Common.{refl, ap, ◌∙◌, append-nil}
use Rattle.ic_link_ops.specs.Sequences.{at_back, last}
use Rattle.ic_raw.proofs.Gaps.{never}
use Rattle.ic_raw.proofs.fill.gap_after_last_of_xor.Goals as goal

pub returns-then-not-is_gap-clause-shown : goal.returns-then-not-is_gap-clause-shown
returns-then-not-is_gap-clause-shown c s shown =
    absurd (never c.if-not-is_gap.true (c.is_gap.ensures.shown (at_back s) shown (c.last-before.ensures ∙ shown.tail ∙ ap last (append-nil s)) refl))
