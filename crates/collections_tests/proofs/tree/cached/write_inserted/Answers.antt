use Rattle.ic_rbtree.specs.Kept.{RepresentsWithEnds}
use Rattle.ic_rbtree.specs.Tree.{ends_of}
use Rattle.ic_rbtree.proofs.PlacedMembers.{inserted_placed}
use Rattle.collections_tests.proofs.tree.cached.write_inserted.Goals as goal

pub returns-clause-placed : goal.returns-clause-placed
returns-clause-placed g c =
    let e = c.insert.ensures in
    let r = c.requires.placed in
    (inserted_placed ends_of (RepresentsWithEnds g.L.RBTreeOps.node) g.L.LinkOps.table _ _ c.args.objects.now g.L.LinkOps.Refused g.met.L.LinkOps.refused_keeps _ c.insert.result c.requires.object r (e.inserted r.members r.shown) e.refused e.unchanged).0

pub returns-clause-extent : goal.returns-clause-extent
returns-clause-extent g c =
    let e = c.insert.ensures in
    let r = c.requires.placed in
    (inserted_placed ends_of (RepresentsWithEnds g.L.RBTreeOps.node) g.L.LinkOps.table _ _ c.args.objects.now g.L.LinkOps.Refused g.met.L.LinkOps.refused_keeps _ c.insert.result c.requires.object r (e.inserted r.members r.shown) e.refused e.unchanged).1
