use Rattle.region_allocator.proofs.Keeping.{kept_none, has_no_root}
use Rattle.region_allocator.proofs.region_allocator.RegionAllocator.new.Goals as goal

pub invariant_of-result : goal.invariant_of-result
invariant_of-result g c = rw c.new-3.ensures.links (kept_none c.new-3.result.objects c.new.result _ c.new-2.result c.new-3.ensures.vacant c.new.ensures c.new-4.ensures.empty)

pub returns-clause-empty : goal.returns-clause-empty
returns-clause-empty g c =
    rw c.new-3.ensures.links ((has_no_root (kept_none c.new-3.result.objects c.new.result _ c.new-2.result c.new-3.ensures.vacant c.new.ensures c.new-4.ensures.empty)).0 c.new-4.ensures.empty)
