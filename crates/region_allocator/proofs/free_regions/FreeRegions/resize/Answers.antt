use Rattle.region_allocator.proofs.Keeping.{region_there, has_room, resize}
use Rattle.region_allocator.proofs.free_regions.FreeRegions.resize.Goals as goal

pub set_value-requires : goal.set_value-requires
set_value-requires g c = record { covered = rw c.place.ensures (has_room c.requires.kept c.args.object (region_there _ c.requires.placed).1) }

pub returns : goal.returns
returns g c =
    let e = c.set_value.ensures in
    let after = c.set_value.new.summed in
    let t = resize c.requires.kept c.args.object after.links e.links after.summaries (rw c.place.ensures at e.set) (rw c.place.ensures at e.values) e.consistent c.requires.fits in
    record { kept = (t _ (region_there _ c.requires.placed).1).0; resized = λ out there. (t out there).1 }
