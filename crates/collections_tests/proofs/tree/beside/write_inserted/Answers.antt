use Rattle.std.proofs.Common.{sym, subst}
use Rattle.ic_link_ops.specs.PlacedObjects.{RepresentsPlaced}
use Rattle.ic_link_ops.specs.RedBlackTree.{Represents}
use Rattle.ic_rbtree.specs.Tree.{root_of}
use Rattle.ic_rbtree.proofs.PlacedMembers.{inserted_placed}
use Rattle.collections_tests.proofs.tree.beside.write_inserted.Goals as goal

pub insert_keyed-requires-clause-shown : goal.insert_keyed-requires-clause-shown
insert_keyed-requires-clause-shown g c = let r = c.requires.placed in (r.members, r.shown)

pub front-requires : goal.front-requires
front-requires g c =
    let e = c.insert_keyed.ensures in
    let r = c.requires.placed in
    let here = g.met.L.LinkValues.covered_has_value _ _ c.requires.covered in
    let put = inserted_placed root_of (Represents g.L.RBTreeOps.node) g.L.LinkOps.table _ _ (g.L.Values.values c.args.links.now) g.L.LinkOps.Refused g.met.L.LinkOps.refused_keeps _ c.insert_keyed.result here r (e.inserted r.members r.shown) e.refused e.unchanged in
    record { shown = (put.0.members, put.0.shown) }

pub returns : goal.returns
returns g c =
    let e = c.insert_keyed.ensures in
    let r = c.requires.placed in
    let here = g.met.L.LinkValues.covered_has_value _ _ c.requires.covered in
    let put = inserted_placed root_of (Represents g.L.RBTreeOps.node) g.L.LinkOps.table _ _ (g.L.Values.values c.args.links.now) g.L.LinkOps.Refused g.met.L.LinkOps.refused_keeps _ c.insert_keyed.result here r (e.inserted r.members r.shown) e.refused e.unchanged in
    record {
      placed = subst (RepresentsPlaced (Represents g.L.RBTreeOps.node (g.L.LinkOps.table c.insert_keyed.new.links) (root_of c.insert_keyed.new.self))) (sym e.values) put.0;
      extent = put.1;
    }
