use Rattle.ic_rbtree.proofs.tree.RBTree.take_place.Goals as goal

pub returns-clause-linked : goal.returns-clause-linked
returns-clause-linked g c = g.met.N.NodeStore.keeps_links_keeps _ _ c.take_place.ensures.keeps_links
