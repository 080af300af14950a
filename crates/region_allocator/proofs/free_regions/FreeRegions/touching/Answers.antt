use Rattle.std.proofs.Common.{ℕ, ◌^◌, leb, Ok, subst}
use Rattle.region_allocator.specs.Neighbors.{StartsFrom}
use Rattle.region_allocator.proofs.Keeping.{represented_apart}
use Rattle.region_allocator.proofs.Joining.{touches, overlaps_front, overlaps_back}
use Rattle.region_allocator.proofs.free_regions.FreeRegions.touching.Goals as goal

pub returns-in-Err-clause-refused : goal.returns-in-Err-clause-refused
returns-in-Err-clause-refused g c = overlaps_front c.neighbors-below.ensures c.requires.region (leb (2 ^ 32) c.args.self.now.pool.objects.next) c.in-Err.error c.in-Err.ensures

pub returns-in-Ok-starting_at-clause-touched : goal.returns-in-Ok-starting_at-clause-touched
returns-in-Ok-starting_at-clause-touched g c =
    touches c.requires.region (represented_apart c.requires.kept) c.neighbors-below.ensures c.in-Ok.ensures
    (subst (λ (n : ℕ). StartsFrom c.neighbors-below.result.1 n (Ok c.in-Ok-starting_at.back)) c.end.ensures c.in-Ok-starting_at.ensures)

pub returns-in-Err-starting_at-clause-refused : goal.returns-in-Err-starting_at-clause-refused
returns-in-Err-starting_at-clause-refused g c = overlaps_back c.neighbors-below.ensures c.requires.region (leb (2 ^ 32) c.args.self.now.pool.objects.next) c.in-Err-starting_at.error (rw c.end.ensures at c.in-Err-starting_at.ensures)
