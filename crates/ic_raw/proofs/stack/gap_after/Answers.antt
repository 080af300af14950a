use Rattle.std.proofs.Common.{◌∙◌}
use Rattle.ic_raw.proofs.Gaps.{gap_is, never}
use Rattle.ic_raw.proofs.Singly.{law, next_represented}
use Rattle.ic_raw.proofs.Lists.{before_stands, after_stands}
use Rattle.ic_raw.proofs.stack.gap_after.Goals as goal

pub returns-then-not-stands-clause-shown : goal.returns-then-not-stands-clause-shown
returns-then-not-stands-clause-shown c cut shown after =
    absurd (never c.if-not-stands.true (c.stands.ensures.1 (before_stands law cut.front cut.back shown after)))

pub returns-then-not-stands-2-clause-shown : goal.returns-then-not-stands-2-clause-shown
returns-then-not-stands-2-clause-shown c cut shown after =
    let following = c.next_of-after.ensures ∙ next_represented cut.front cut.back shown c.args.at after in
    absurd (never c.if-not-stands-2.true (c.stands-2.ensures.1 (after_stands law cut.front cut.back shown following)))

pub returns-clause-shown : goal.returns-clause-shown
returns-clause-shown c cut shown after =
    gap_is cut after (c.next_of-after.ensures ∙ next_represented cut.front cut.back shown c.args.at after)
