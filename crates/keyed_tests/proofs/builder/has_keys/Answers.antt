use Rattle.ic_rbtree.proofs.PlacedMembers.{members_placed}
use Rattle.keyed_tests.proofs.builder.has_keys.Goals as goal

pub iter-requires : goal.iter-requires
iter-requires g c = record { placed = members_placed g.L.RBTreeOps.node g.L.LinkOps.table g.L.Values.values g.met.L.RBTreeOps.linked_alike g.met.L.LinkOps.linked_is_covered g.met.L.LinkValues.covered_has_value c.args.links.now c.requires.shown }
