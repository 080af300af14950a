use Rattle.std.proofs.Common.{rules}
use Rattle.ic_link_ops.proofs.Calling.{has_member}
use Rattle.ic_rbtree.specs.Prelude.{PlainRepresents, root_of}
use Rattle.collections_tests.proofs.tree.cursors.write_kept.Goals as goal

pub cursor_owning_from_ptr-cursor-requires : goal.cursor_owning_from_ptr-cursor-requires
cursor_owning_from_ptr-cursor-requires g c =
    let s = c.requires.shown in
    let shows = PlainRepresents c.args.fixture.now.links (root_of c.args.fixture.now.tree) in
    let member = has_member shows s.members s.shown ((c.contains.ensures s.members s.shown).0 (search rules)) in
    record { member = rw (c.take.ensures.whole, ← c.place.ensures) member }
