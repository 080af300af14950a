use Rattle.region_allocator.proofs.Keeping.{represented_apart}
use Rattle.region_allocator.proofs.region_allocator.RegionAllocator.allocate.Goals as goal

pub returns-clause-apart : goal.returns-clause-apart
returns-clause-apart g c = represented_apart c.cut.ensures.kept
