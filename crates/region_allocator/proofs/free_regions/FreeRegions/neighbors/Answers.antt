use Rattle.std.proofs.Common.{sym, subst}
use Rattle.ic_rbtree.specs.PlainTrees.{PlainRepresents}
use Rattle.region_allocator.proofs.Keeping.{neighbors_are}
use Rattle.region_allocator.proofs.free_regions.FreeRegions.neighbors.Goals as goal

pub returns : goal.returns
returns g c =
    let e = c.upper_bound-below.ensures in
    let k = c.requires.kept in
    let b = e.border k.by_start.sorted.members k.by_start.sorted.shown in
    let shown = subst (PlainRepresents c.args.self.now.pool.links.links c.args.self.now.by_start.head) (sym b.same) k.by_start.sorted.shown in
    rw (c.look_up.ensures, c.look_up-2.ensures, c.clone_pointer.ensures, c.clone_pointer-2.ensures) (neighbors_are k c.args.address b.gap b.same b.border b.after (c.peek_next-above.ensures.moved.leads b.gap (rw (e.links, e.tree) shown) b.after))
