use Rattle.std.proofs.Common.{rules, arith, sym, ◌∙◌}
use Rattle.ic_link_ops.proofs.Times.{times_plug}
use Rattle.ic_augmented.proofs.ChangeLemmas.{passed_stale, passed_same, passed_ends, passed_on, others_up}
use Rattle.ic_augmented.proofs.SubtreeLemmas.{subtree_parent, subtree_up, fewer_above}
use Rattle.ic_augmented.proofs.climb.+pass_on.Goals as goal

pub returns-in_default-clause-consistent : goal.returns-in_default-clause-consistent
returns-in_default-clause-consistent g t c =
    rw c.in_default.ensures.stale.1 (passed_stale g.N.NodeStore.node (g.N.NodeStore.table c.args.links.now) (g.M.Summaries.summaries c.args.summaries.now) c.args.place c.args.from c.args.to c.in_default.ensures.stale.0)

pub returns-then-is_same-clause-others : goal.returns-then-is_same-clause-others
returns-then-is_same-clause-others g t c fs u h e q out = c.recompute_at.ensures.frame fs u h e q (omega (arith, out, times_plug q fs u))

pub returns-then-is_same-clause-consistent : goal.returns-then-is_same-clause-consistent
returns-then-is_same-clause-consistent g t c =
    passed_same g.N.NodeStore.node (g.N.NodeStore.table c.args.links.now) (g.M.Summaries.summaries c.args.summaries.now) (g.M.Summaries.summaries c.recompute_at.new.summaries) c.args.place c.args.from c.args.to c.in-Some.change.0 c.in-Some.change.1 c.parent-upper.result
    (sym c.parent-upper.ensures) c.recompute_at.ensures.join c.in-Some.ensures.recomputed c.in-Some.ensures.was c.in-Some.ensures.is c.recompute_at.ensures.frame (c.is_same.ensures c.if-is_same.true)

pub returns-in_default-upper-clause-others : goal.returns-in_default-upper-clause-others
returns-in_default-upper-clause-others g t c fs u h e q out = c.recompute_at.ensures.frame fs u h e q (omega (arith, out, times_plug q fs u))

pub returns-in_default-upper-clause-consistent : goal.returns-in_default-upper-clause-consistent
returns-in_default-upper-clause-consistent g t c =
    passed_ends g.N.NodeStore.node (g.N.NodeStore.table c.args.links.now) (g.M.Summaries.summaries c.args.summaries.now) (g.M.Summaries.summaries c.recompute_at.new.summaries) c.args.place c.args.from c.args.to c.in-Some.change.0 c.in-Some.change.1 c.parent-upper.result
    (sym c.parent-upper.ensures) c.recompute_at.ensures.join c.in-Some.ensures.recomputed c.in-Some.ensures.was c.in-Some.ensures.is c.recompute_at.ensures.frame c.in_default-upper.is

pub pass_on-requires : goal.pass_on-requires
pass_on-requires g t c κs within =
    let n = g.N.NodeStore.node in
    let v = g.N.NodeStore.table c.args.links.now in
    let r = c.requires.subtree in
    let up = subtree_up n v r.0 r.1 c.in-Some-upper.above r.2 (sym (subtree_parent n v r.0 r.1 c.args.place r.2 r.3) ∙ (sym c.parent-upper.ensures ∙ c.in-Some-upper.is)) in
    let less = fewer_above n v r.0 r.1 c.args.place c.in-Some-upper.above r.2 r.3 (sym (subtree_parent n v r.0 r.1 c.args.place r.2 r.3) ∙ (sym c.parent-upper.ensures ∙ c.in-Some-upper.is)) in
    search rules

pub returns-clause-others : goal.returns-clause-others
returns-clause-others g t c =
    others_up g.N.NodeStore.node (g.N.NodeStore.table c.args.links.now) (g.M.Summaries.summaries c.args.summaries.now) (g.M.Summaries.summaries c.recompute_at.new.summaries) (g.M.Summaries.summaries c.pass_on.new.summaries) c.args.place c.in-Some-upper.above
    c.recompute_at.ensures.frame (sym c.parent-upper.ensures ∙ c.in-Some-upper.is) c.pass_on.ensures.others

pub returns-clause-consistent : goal.returns-clause-consistent
returns-clause-consistent g t c =
    passed_on g.N.NodeStore.node (g.N.NodeStore.table c.args.links.now) (g.M.Summaries.summaries c.args.summaries.now) (g.M.Summaries.summaries c.recompute_at.new.summaries) c.args.place c.args.from c.args.to c.in-Some.change.0 c.in-Some.change.1 c.parent-upper.result
    (sym c.parent-upper.ensures) c.recompute_at.ensures.join c.in-Some.ensures.recomputed c.in-Some.ensures.was c.in-Some.ensures.is c.recompute_at.ensures.frame
    (g.M.Summaries.summaries c.pass_on.new.summaries) c.in-Some-upper.above c.in-Some-upper.is c.pass_on.ensures.consistent
