use Rattle.std.proofs.lemmas.Result.{on_ok_weaker}
use Rattle.region_allocator.proofs.Keeping.{represented_apart}
use Rattle.region_allocator.proofs.region_allocator.RegionAllocator.free.Goals as goal

pub returns-clause-refused : goal.returns-clause-refused
returns-clause-refused g c = rw (← c.self.view_is) c.add.ensures.refused

pub returns-clause-apart : goal.returns-clause-apart
returns-clause-apart g c = on_ok_weaker c.add.result (λ freed. represented_apart c.add.ensures.kept) c.add.ensures.freed
