use Rattle.std.proofs.Common.{rules}
use Rattle.ic_link_ops.specs.Chains.{RepresentsChain, RepresentsSomeChain}
use Rattle.ic_link_ops.proofs.Calling.{has_member}
use Rattle.collections_tests.proofs.doubly.write_on_member.Goals as goal

pub cursor_from_ptr-requires : goal.cursor_from_ptr-requires
cursor_from_ptr-requires g c =
    let s : RepresentsSomeChain g.K.ForwardLinks.Between g.K.ListKind.kept (g.L.LinkOps.table c.args.links.now) c.args.list = c.requires.shown in
    let member = has_member (RepresentsChain g.K.ForwardLinks.Between g.K.ListKind.kept (g.L.LinkOps.table c.args.links.now) c.args.list) s.0 s.1 ((c.contains.ensures s.0 s.1).0 (search rules)) in
    record { member = rw c.new.ensures member }

pub cursor_owning_from_ptr-on_second-requires : goal.cursor_owning_from_ptr-on_second-requires
cursor_owning_from_ptr-on_second-requires g c =
    let s : RepresentsSomeChain g.K.ForwardLinks.Between g.K.ListKind.kept (g.L.LinkOps.table c.args.links.now) c.args.list = c.requires.shown in
    let member = has_member (RepresentsChain g.K.ForwardLinks.Between g.K.ListKind.kept (g.L.LinkOps.table c.args.links.now) c.args.list) s.0 s.1 ((c.contains.ensures s.0 s.1).0 (search rules)) in
    record { member = rw c.new-2.ensures member }
