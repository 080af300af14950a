use Rattle.std.proofs.Common.{◌∙◌}
use Rattle.ic_rbtree.proofs.Builders.{back_linked, hung_alone, hung_last}
use Rattle.ic_tree_merges.proofs.vine.Vine.push_back.Goals as goal
use Rattle.ic_tree_merges.proofs.vine.Vine.push_back.Goals.{in-Some, in-None}

pub set_right-requires-in-Some-clause-linked : goal.set_right-requires-in-Some-clause-linked
set_right-requires-in-Some-clause-linked g c =
    g.met.N.NodeStore.keeps_links_keeps _ _ c.set_right.ensures.keeps_links c.in-Some.last ∙ back_linked g.N.NodeStore.node c.requires.shown.1 c.in-Some.is

pub returns-clause-hung : goal.returns-clause-hung
returns-clause-hung g c s x out = elim c.match-self.branch [
  | in-Some w ↦ rw (w.self-is, w.nodes-is) (hung_last g.N.NodeStore.node x out c.requires.linked c.set_right.ensures.set c.set_right.ensures.frame w.in-Some.is w.set_right-in-Some.ensures.set w.set_right-in-Some.ensures.frame)
  | in-None w ↦ rw (w.self-is, w.nodes-is) (hung_alone g.N.NodeStore.node x out c.requires.linked c.set_right.ensures.set c.set_right.ensures.frame w.in-None.is)
]
