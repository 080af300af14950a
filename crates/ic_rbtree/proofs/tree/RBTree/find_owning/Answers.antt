use Rattle.ic_rbtree.proofs.Sending.{found_stands}
use Rattle.ic_rbtree.proofs.tree.RBTree.find_owning.Goals as goal

pub returns-clause-stands : goal.returns-clause-stands
returns-clause-stands g c = let r = c.requires.placed in rw c.new-2.ensures.list (found_stands r.shown c.new-2.ensures.position (c.first_equal-current.ensures.found r.members r.shown))
