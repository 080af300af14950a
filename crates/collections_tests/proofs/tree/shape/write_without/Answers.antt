use Rattle.std.proofs.Common.{subst}
use Rattle.ic_link_ops.specs.Prelude.{Place, HasMember}
use Rattle.ic_link_ops.proofs.Calling.{has_member}
use Rattle.ic_rbtree.specs.Prelude.{PlainRepresents, root_of}
use Rattle.collections_tests.proofs.tree.shape.write_without.Goals as goal

pub cursor_mut_from_ptr-cursor-requires : goal.cursor_mut_from_ptr-cursor-requires
cursor_mut_from_ptr-cursor-requires c =
    let s = c.requires.shown in
    let shows = PlainRepresents c.args.fixture.now.links (root_of c.args.fixture.now.tree) in
    let member = has_member shows s.0 s.1 ((c.contains.ensures s.0 s.1).0 c.if-contains.true) in
    record { member = subst (λ (q : Place). HasMember shows q) (c.place.ensures) member }
