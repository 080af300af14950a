use Rattle.ic_link_ops.proofs.Positions.{moves_back}
use Rattle.ic_rbtree.proofs.KeptHeads.{shown, stands_root}
use Rattle.ic_rbtree.proofs.edits.RBTreeBidirectional.prev_of.Goals as goal

pub step-requires : goal.step-requires
step-requires g c = record { stands = rw (c.root.ensures, c.get.ensures) (stands_root g.E.TreeHead.kept c.requires.stands) }

pub returns-clause-moved : goal.returns-clause-moved
returns-clause-moved g c = moves_back c.requires.stands (λ gap h here. rw c.of.ensures (c.step.ensures.leads gap (rw c.root.ensures (shown (g.E.TreeHead.kept c.args.self.now.head) h)) (rw c.get.ensures here)))

pub returns-clause-kept : goal.returns-clause-kept
returns-clause-kept g c = (returns-clause-moved g c).stands
