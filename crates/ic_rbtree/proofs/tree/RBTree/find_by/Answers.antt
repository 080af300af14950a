use Rattle.ic_rbtree.proofs.Sending.{found_stands}
use Rattle.ic_rbtree.proofs.tree.RBTree.find_by.Goals as goal

pub returns-clause-stands : goal.returns-clause-stands
returns-clause-stands g c = let r = c.requires.placed in rw (c.new.ensures.list, c.new.ensures.links) (found_stands r.shown c.new.ensures.position (c.first_equal.ensures.found r.members r.shown))
