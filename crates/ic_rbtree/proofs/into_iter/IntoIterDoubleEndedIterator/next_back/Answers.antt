use Rattle.std.proofs.Common.{sym, ap, Some, ◌∙◌}
use Rattle.ic_link_ops.specs.Sequences.{last, but_last}
use Rattle.ic_link_ops.proofs.SequenceLemmas.{fewer_back}
use Rattle.ic_link_ops.proofs.Taking.{goes}
use Rattle.ic_rbtree.specs.IntoIter.{Leaves, members_left}
use Rattle.ic_rbtree.proofs.Members.{nodes_covered, members_between_ends}
use Rattle.ic_rbtree.proofs.into_iter.IntoIterDoubleEndedIterator.next_back.Goals as goal

pub returns-clause-goes : goal.returns-clause-goes
returns-clause-goes g c =
    let n = g.L.RBTreeOps.node in
    let table = g.L.LinkOps.table in
    goes (Leaves n table) (members_left n table)
    (λ s. members_between_ends n (table s.links.now) (nodes_covered n table g.met.L.LinkOps.linked_is_covered g.met.L.RBTreeOps.linked_alike s.links.now) s.front s.back)
    last but_last fewer_back c.args.self.now _ (Some c.new.result) c.requires
    (ap Some c.new.ensures ∙ (sym c.in_ok-place.was ∙ c.take_end.ensures.answer c.requires.0 c.requires.1)) (c.take_end.ensures.removed c.requires.0 c.requires.1)
