use Rattle.std.proofs.Common.{refl}
use Rattle.region_allocator.specs.Neighbors.{found_at}
use Rattle.ic_link_ops.specs.Sequences.{first}
use Rattle.region_allocator.proofs.Keeping.{neighbors_are}
use Rattle.region_allocator.proofs.free_regions.FreeRegions.below.Goals as goal

pub returns : goal.returns
returns g c =
    let k = c.requires.kept in
    let b = c.upper_bound-cursor.ensures.border k.by_start.sorted.members k.by_start.sorted.shown in
    rw (c.look_up.ensures, c.clone_pointer.ensures) (found_at c.args.self.now.pool.objects (first b.gap.back), neighbors_are k c.args.address b.gap b.same b.border b.after refl)
