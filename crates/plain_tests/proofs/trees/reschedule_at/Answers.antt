use Rattle.std.proofs.Common.{rules}
use Rattle.ic_link_ops.proofs.Calling.{has_member}
use Rattle.ic_plain.specs.SortedTrees.{IsInOrder}
use Rattle.ic_rbtree.specs.Prelude.{PlainRepresents, root_of}
use Rattle.plain_tests.proofs.trees.reschedule_at.Goals as goal

pub reschedule-requires-clause-member : goal.reschedule-requires-clause-member
reschedule-requires-clause-member g c =
    let s = c.requires.shown in
    rw c.new.ensures (has_member (PlainRepresents c.args.links.now (root_of c.args.tree.now)) s.0 s.1 ((c.contains.ensures s.0 s.1).0 (search rules)))

pub returns-clause-shown : goal.returns-clause-shown
unfolding IsInOrder
returns-clause-shown g c = let s = c.reschedule.ensures.sorted.placed in (s.members, s.shown)
