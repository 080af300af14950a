use Rattle.std.proofs.Common.{rules, sym, ap, ◌∙◌, Some}
use Rattle.ic_link_ops.proofs.Prelude.{some_same, is_end_yes, is_end_no}
use Rattle.ic_augmented.proofs.ChangeLemmas.{climbed_ends, climbed_on, climbed_there}
use Rattle.ic_augmented.proofs.PathLemmas.{others_here, others_on}
use Rattle.ic_augmented.proofs.SubtreeLemmas.{subtree_parent, subtree_up, fewer_above}
use Rattle.ic_augmented.proofs.climb.+climb.Goals as goal

pub returns-then-is_at-clause-consistent : goal.returns-then-is_at-clause-consistent
returns-then-is_at-clause-consistent g t c =
    climbed_there g.N.NodeStore.node (g.N.NodeStore.table c.args.links.now) (g.M.Summaries.summaries c.args.summaries.now) (g.M.Summaries.summaries c.climb_on.new.summaries) c.args.place c.args.edge
    (some_same (is_end_yes (Some c.args.place) c.args.edge (sym c.is_at.ensures ∙ c.if-is_at.true))) c.climb_on.ensures.consistent

pub returns-in_default-clause-others : goal.returns-in_default-clause-others
returns-in_default-clause-others g t c =
    others_here g.N.NodeStore.node (g.N.NodeStore.table c.args.links.now) (g.M.Summaries.summaries c.args.summaries.now) (g.M.Summaries.summaries c.recompute.new.summaries) c.args.place c.parent-upper.result c.recompute.ensures.refreshed
    (λ fs u h e. c.parent-upper.ensures ∙ subtree_parent g.N.NodeStore.node (g.N.NodeStore.table c.args.links.now) fs u c.args.place h e)

pub returns-in_default-clause-consistent : goal.returns-in_default-clause-consistent
returns-in_default-clause-consistent g t c =
    climbed_ends g.N.NodeStore.node (g.N.NodeStore.table c.args.links.now) (g.M.Summaries.summaries c.args.summaries.now) (g.M.Summaries.summaries c.recompute.new.summaries) c.args.place c.args.edge c.recompute.result c.parent-upper.result (sym c.parent-upper.ensures) c.recompute.ensures.summary c.recompute.ensures.refreshed c.in_default.is

pub climb-requires : goal.climb-requires
climb-requires g t c κs within =
    let n = g.N.NodeStore.node in
    let v = g.N.NodeStore.table c.args.links.now in
    let r = c.requires.subtree in
    let up = subtree_up n v r.0 r.1 c.in-Some.above r.2 (sym (subtree_parent n v r.0 r.1 c.args.place r.2 r.3) ∙ (sym c.parent-upper.ensures ∙ c.in-Some.is)) in
    let less = fewer_above n v r.0 r.1 c.args.place c.in-Some.above r.2 r.3 (sym (subtree_parent n v r.0 r.1 c.args.place r.2 r.3) ∙ (sym c.parent-upper.ensures ∙ c.in-Some.is)) in
    search rules

pub returns-clause-others : goal.returns-clause-others
returns-clause-others g t c =
    others_on g.N.NodeStore.node (g.N.NodeStore.table c.args.links.now) (g.M.Summaries.summaries c.args.summaries.now) (g.M.Summaries.summaries c.recompute.new.summaries) c.args.place c.parent-upper.result c.recompute.ensures.refreshed
    (λ fs u h e. c.parent-upper.ensures ∙ subtree_parent g.N.NodeStore.node (g.N.NodeStore.table c.args.links.now) fs u c.args.place h e) (g.M.Summaries.summaries c.climb.new.summaries) c.in-Some.above c.in-Some.is c.climb.ensures.others

pub returns-clause-consistent : goal.returns-clause-consistent
returns-clause-consistent g t c =
    climbed_on g.N.NodeStore.node (g.N.NodeStore.table c.args.links.now) (g.M.Summaries.summaries c.args.summaries.now) (g.M.Summaries.summaries c.recompute.new.summaries) c.args.place c.args.edge c.recompute.result c.parent-upper.result (sym c.parent-upper.ensures) c.recompute.ensures.summary c.recompute.ensures.refreshed
    (g.M.Summaries.summaries c.climb.new.summaries) c.in-Some.above c.in-Some.is (λ e. is_end_no (Some c.args.place) c.args.edge (sym c.is_at.ensures ∙ c.if-is_at.false) (ap Some e)) c.climb.ensures.consistent
