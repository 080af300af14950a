use Rattle.ic_rbtree.proofs.PlacedMembers.{members_placed}
use Rattle.keyed_tests.proofs.augmented.first_overlapping.Goals as goal

pub first_overlap-requires : goal.first_overlap-requires
first_overlap-requires g c =
    let q = c.requires.ready in
    let placed = members_placed g.L.RBTreeOps.node g.L.LinkOps.table g.L.Values.values g.met.L.RBTreeOps.linked_alike g.met.L.LinkOps.linked_is_covered g.met.L.LinkValues.covered_has_value c.args.summed.now.links (q.members, q.shown.shows) in
    (placed.members, placed.shown, placed.placed)
