-- The reasons why a call that frees a region is refused.
use Rattle.std.specs.Prelude.{◌≡◌, ℕ, ◌^◌, ◌<◌, ◌≤◌, true, false}
use Rattle.std.specs.List.{AllByRecursion}
use Rattle.region_allocator.specs.declared.region.Region.{Region}
use Rattle.region_allocator.specs.declared.free_error.FreeError.{FreeError}
use Rattle.region_allocator.specs.declared.free_error.FreeError.TheVariants.{Empty, TooLong, Overlaps, TooManyRegions, OutOfMemory}
use Rattle.region_allocator.specs.Regions.{Space, end_of, Has, IsFree, IsRegion, AreApart}

-- the region is new: no free region touches it or shares an address with it. So it needs a place of its own
abbrev pub IsNew : Region → Space → Type 0
IsNew region space = IsRegion region × AllByRecursion (AreApart region) space.regions

-- each refusal has its own reason, and no two reasons hold at once. `Empty`: the region is empty. `TooLong`: it ends after `u64::MAX`. `Overlaps`: one of
-- its addresses is already free. `TooManyRegions`: it is new and all places are in use. `OutOfMemory`: it is new and some place is not in use
abbrev pub IsRefused : Region → Space → FreeError → Type 0
IsRefused region space Empty = region.length ≡ 0
IsRefused region space TooLong = (0 < region.length) × (2 ^ 64 ≤ end_of region)
IsRefused region space Overlaps = IsRegion region × ((address : ℕ) × Has region address × IsFree space.regions address)
IsRefused region space TooManyRegions = IsNew region space × (space.is_full ≡ true)
IsRefused region space OutOfMemory = IsNew region space × (space.is_full ≡ false)
