use Rattle.std.proofs.Common.{refl}
use Rattle.ic_raw.proofs.Gaps.{never}
use Rattle.ic_raw.specs.Tree.{lent_table}
use Rattle.ic_raw.proofs.Trees.{root_stands}
use Rattle.ic_raw.proofs.Views.{unlinks_none}
use Rattle.ic_raw.proofs.tree_clear.clear.Goals as goal

pub returns-then-not-stands-clause-cleared : goal.returns-then-not-stands-clause-cleared
returns-then-not-stands-clause-cleared c s shown = absurd (never c.if-not-stands.true (c.stands.ensures.1 (rw c.root.ensures (root_stands shown))))

pub returns-then-not-leads_to_end-clause-cleared : goal.returns-then-not-leads_to_end-clause-cleared
returns-then-not-leads_to_end-clause-cleared c s shown = absurd (never c.if-not-leads_to_end.true (c.leads_to_end.ensures.shown s shown))

pub returns-clause-cleared : goal.returns-clause-cleared
returns-clause-cleared c s shown = (refl, c.unmark_all.ensures.cleared s shown)

pub returns-then-not-stands-clause-marks : goal.returns-then-not-stands-clause-marks
returns-then-not-stands-clause-marks c = unlinks_none (lent_table c.args.links.now)

pub returns-then-not-leads_to_end-clause-marks : goal.returns-then-not-leads_to_end-clause-marks
returns-then-not-leads_to_end-clause-marks c = unlinks_none (lent_table c.args.links.now)

pub returns-clause-ended : goal.returns-clause-ended
returns-clause-ended c made = c.leads_to_end.ensures.ended (rw c.root.ensures at (c.stands.ensures.0 c.if-not-stands.false)) c.if-not-leads_to_end.false
