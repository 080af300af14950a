use Rattle.std.proofs.Common.{rules}
use Rattle.ic_link_ops.proofs.Calling.{has_member}
use Rattle.ic_rbtree.specs.Prelude.{PlainRepresents, root_of}
use Rattle.plain_tests.proofs.trees.beside.Goals as goal

pub prev-requires : goal.prev-requires
prev-requires g c =
    let s = c.requires.shown in
    record { member = has_member (PlainRepresents c.args.links.now (root_of c.args.tree.now)) s.0 s.1 ((c.contains.ensures s.0 s.1).0 (search rules)) }

pub next-requires : goal.next-requires
next-requires g c =
    let s = c.requires.shown in
    record { member = has_member (PlainRepresents c.args.links.now (root_of c.args.tree.now)) s.0 s.1 ((c.contains.ensures s.0 s.1).0 (search rules)) }
