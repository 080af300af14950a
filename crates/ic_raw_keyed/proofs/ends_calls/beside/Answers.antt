use Rattle.std.proofs.Common.{Some}
use Rattle.ic_raw.specs.Prelude.{has_place, no_tree_words}
use Rattle.ic_raw.specs.Tree.{lent_table, root_in}
use Rattle.ic_raw.proofs.Gaps.{never}
use Rattle.ic_raw.proofs.Trees.{beside_stands, closed, end_in, in_range, kept, root_stands, seen_represents}
use Rattle.ic_raw.proofs.TreeSteps.{end_back}
use Rattle.ic_raw.proofs.Views.{viewed}
use Rattle.ic_raw_keyed.proofs.TreeEnds.{has_viewed, steps_back}
use Rattle.ic_raw_keyed.proofs.ends_calls.beside.Goals as goal

pub returns-then-not-has-clause-leads : goal.returns-then-not-has-clause-leads
returns-then-not-has-clause-leads c cut shown at =
    let seen = viewed no_tree_words kept c.new-links.result c.new-links.ensures.1 shown in
    absurd (never c.if-not-has.true (c.has.ensures.1 (end_in (lent_table c.new-links.result) (in_range c.new-links.result) (Some c.args.at) (beside_stands c.args.side cut seen at))))

pub returns-then-not-has-2-clause-leads : goal.returns-then-not-has-2-clause-leads
returns-then-not-has-2-clause-leads c cut shown at =
    let seen = viewed no_tree_words kept c.new-links.result c.new-links.ensures.1 shown in
    absurd (never c.if-not-has-2.true (c.has-2.ensures.1 (rw c.place_in-root.ensures
    (end_in (lent_table c.new-links.result) (in_range c.new-links.result) (root_in c.args.tree.now) (root_stands seen)))))

pub returns-then-not-has-clause-ended : goal.returns-then-not-has-clause-ended
returns-then-not-has-clause-ended c in_closed_set none =
    absurd (never c.if-not-has.true (c.has.ensures.1 (has_viewed c.new-links.result (Some c.args.at) c.new-links.ensures.1 in_closed_set.0)))

pub returns-then-not-has-2-clause-ended : goal.returns-then-not-has-2-clause-ended
returns-then-not-has-2-clause-ended c in_closed_set none =
    absurd (never c.if-not-has-2.true (c.has-2.ensures.1 (rw c.place_in-root.ensures (has_viewed c.new-links.result (root_in c.args.tree.now) c.new-links.ensures.1 in_closed_set.1.0))))

pub step_bounded-requires : goal.step_bounded-requires
step_bounded-requires c =
    let t = lent_table c.new-links.result in
    (has_place t, closed t c.place_in-root.result (c.has-2.ensures.0 c.if-not-has-2.false), (c.has.ensures.0 c.if-not-has.false, tt))

pub returns-clause-leads : goal.returns-clause-leads
returns-clause-leads c cut shown at =
    c.step_bounded.ensures.leads cut (rw c.place_in-root.ensures (seen_represents (lent_table c.new-links.result) (in_range c.new-links.result)
    (viewed no_tree_words kept c.new-links.result c.new-links.ensures.1 shown))) at

pub returns-clause-reached : goal.returns-clause-reached
returns-clause-reached c q is =
    steps_back c.new-links.result (root_in c.args.tree.now) (Some c.args.at) c.args.side q c.new-links.ensures.1 (c.step_bounded.ensures.reached q is)

pub returns-clause-ended : goal.returns-clause-ended
returns-clause-ended c in_closed_set none =
    end_back c.new-links.result (root_in c.args.tree.now) (Some c.args.at) c.args.side c.new-links.ensures.1 (c.step_bounded.ensures.ended none)
