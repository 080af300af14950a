use Rattle.std.proofs.Common.{refl, ap, ◌∙◌}
use Rattle.ic_link_ops.specs.Prelude.{times, fork}
use Rattle.ic_link_ops.proofs.RepresentedTrees.{holds_out}
use Rattle.ic_augmented.proofs.EditLemmas.{still_consistent}
use Rattle.ic_augmented.proofs.PathLemmas.{propagated}
use Rattle.ic_augmented.proofs.SubtreeLemmas.{member_subtree}
use Rattle.ic_augmented.proofs.edits.propagate.Goals as goal

pub refresh_path-requires-clause-subtree : goal.refresh_path-requires-clause-subtree
refresh_path-requires-clause-subtree g c =
    let m = c.requires.member.1 in
    let x = member_subtree g.N.NodeStore.node (g.N.NodeStore.table c.args.summed.now.links) c.requires.member.0 m.front c.args.place m.back m.shown in
    (x.fs, fork x.c x.a c.args.place x.b, x.subtree, refl)

pub returns-clause-summed : goal.returns-clause-summed
returns-clause-summed g c root front back h =
    propagated g.N.NodeStore.node (g.N.NodeStore.table c.args.summed.now.links) (g.M.Summaries.summaries c.args.summed.now.summaries) (g.M.Summaries.summaries c.refresh_path.new.summaries) root front c.args.place back c.refresh_path.ensures.summed h

pub returns-clause-consistent : goal.returns-clause-consistent
returns-clause-consistent g c root front back h = still_consistent g.N.NodeStore.node _ _ root _ (returns-clause-summed g c root front back h)

pub returns-clause-others : goal.returns-clause-others
returns-clause-others g c root front back h q out =
    let x = member_subtree g.N.NodeStore.node (g.N.NodeStore.table c.args.summed.now.links) root front c.args.place back h in
    c.refresh_path.ensures.others x.fs (fork x.c x.a c.args.place x.b) x.subtree refl q (ap (times q) x.same ∙ holds_out h.held q out)
