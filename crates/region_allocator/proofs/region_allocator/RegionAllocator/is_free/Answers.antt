use Rattle.std.proofs.Common.{lt-ltb, ltb-true}
use Rattle.region_allocator.proofs.Keeping.{represented_apart}
use Rattle.region_allocator.proofs.Joining.{free_there, none_below}
use Rattle.region_allocator.proofs.region_allocator.RegionAllocator.is_free.Goals as goal

pub returns-in-Some : goal.returns-in-Some
returns-in-Some g c =
    let n = rw c.in-Some.is at c.below.ensures.1 in
    let both = free_there c.args.address (represented_apart c.self.invariant) n in
    rw (← c.self.view_is, c.end.ensures) (λ yes. both.1 (ltb-true c.args.address _ yes), λ free. lt-ltb c.args.address _ (both.0 free))

pub returns-in-None : goal.returns-in-None
returns-in-None g c =
    let n = rw c.in-None.is at c.below.ensures.1 in
    rw (← c.self.view_is) (λ never. absurd (cc), λ free. absurd (none_below c.args.address n free))
