use Rattle.std.proofs.Common.{refl, sym, ap, ◌∙◌}
use Rattle.ic_link_ops.specs.Links.{link_with, words_of}
use Rattle.ic_link_ops.specs.RedBlackTree.{Node}
use Rattle.ic_link_ops.specs.PlainTables.{entries}
use Rattle.ic_link_ops.proofs.SeenEntries.{changes_only, says_written, linked_seen, keeps_linked}
use Rattle.ic_link_ops.proofs.rbtree.PlainTableRBTreeOps.set_left.Goals as goal

pub returns-clause-set : goal.returns-clause-set
returns-clause-set g c =
    says_written g.W.Words.is_linked g.W.Words.width (link_with g.W.Words.unlinked g.V.LinkValue.initial) g.met.W.Words.starts_unlinked (λ l. g.W.NodeWords.node (words_of l)) (λ (r : Node). record r { left = c.args.left }) (entries c.args.self.now) c.args.place c.index_mut-entry.result.now _ _ _
    c.slot-index.ensures.value c.requires.linked c.index_mut-entry.ensures.value c.set_left.ensures

pub returns-clause-frame : goal.returns-clause-frame
returns-clause-frame g c =
    changes_only g.V.LinkValue.printed g.W.Words.width _ _ _ c.index_mut-entry.result.now _ _ _ c.slot-index.ensures.value
    (linked_seen g.W.Words.is_linked g.W.Words.width _ g.met.W.Words.starts_unlinked _ _ c.requires.linked) c.index_mut-entry.ensures.value refl

pub returns-clause-trace_stays : goal.returns-clause-trace_stays
returns-clause-trace_stays g c =
    keeps_linked g.W.Words.is_linked g.W.Words.width (link_with g.W.Words.unlinked g.V.LinkValue.initial) (entries c.args.self.now) c.args.place c.index_mut-entry.result.now _ _ _ c.slot-index.ensures.value
    (linked_seen g.W.Words.is_linked g.W.Words.width _ g.met.W.Words.starts_unlinked _ _ c.requires.linked) c.index_mut-entry.ensures.value
    (sym (g.met.W.NodeWords.node_linked _) ∙ ap (λ (r : Node). r.linked) c.set_left.ensures ∙ g.met.W.NodeWords.node_linked _)
