use Rattle.region_allocator.proofs.Keeping.{has_no_root}
use Rattle.region_allocator.proofs.region_allocator.RegionAllocator.is_empty.Goals as goal

pub returns : goal.returns
returns g c = let e = has_no_root c.self.invariant in rw (← c.self.view_is) (λ yes. e.0 (c.is_empty.ensures.0 yes), λ empty. c.is_empty.ensures.1 (e.1 empty))
