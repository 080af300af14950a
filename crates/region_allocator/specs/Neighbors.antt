-- The free regions that a search finds.
use Rattle.std.specs.Prelude.{◌≡◌, ◌≢◌, ℕ, ◌<◌, ◌≤◌, ◌⊎◌, Option, None, Some, Result, Ok, Err, List, [], ◌∷◌, ◌++◌}
use Rattle.std.specs.List.{AllByRecursion}
use Rattle.ic_link_ops.specs.Prelude.{Place, Objects, object_at}
use Rattle.region_allocator.specs.declared.region.Region.{Region}
use Rattle.region_allocator.specs.declared.neighbors.Found.{Found}
use Rattle.region_allocator.specs.declared.free_error.FreeError.{FreeError}
use Rattle.region_allocator.specs.declared.free_error.FreeError.TheVariants.{Overlaps}
use Rattle.region_allocator.specs.Regions.{region_of, end_of, IsRegion, IsFirstFit, AreApart, AreShorter}

-- the result of a search that ends at the place `p`: the place and its region, or `None` if there is no region
abbrev pub found_with : Place → Option Region → Option Found
found_with p None = None
found_with p (Some region) = Some (record { object = p; region = region })

abbrev pub found_at : Objects Region → Option Place → Option Found
found_at objects None = None
found_at objects (Some p) = found_with p (object_at objects p)

module _ (objects : Objects Region) where
  -- the search result `found` is right: its object has the value `found.region`, which is not empty and ends at `u64::MAX` or before
  pub record IsFound (found : Found) : Type 0 where
    pub there : object_at objects found.object ≡ Some found.region
    pub is_region : IsRegion found.region

  -- the search found the first of `regions` with at least the length `length`, or `None` because all are shorter
  abbrev pub FitsFirst : List Region → ℕ → Option Found → Type 0
  FitsFirst regions length None = AreShorter regions length
  FitsFirst regions length (Some found) = IsFound found × (length ≤ found.region.length) × IsFirstFit (region_of found.region.start length) regions

  -- `IsLast`: the search found the last of the regions. `IsFirst`: it found the first of them. It found `None` if there is no region
  abbrev pub IsLast : List Region → Option Found → Type 0
  IsLast regions None = regions ≡ []
  IsLast regions (Some found) = IsFound found × ((front : List Region) × (regions ≡ front ++ found.region ∷ []))

  abbrev pub IsFirst : List Region → Option Found → Type 0
  IsFirst regions None = regions ≡ []
  IsFirst regions (Some found) = IsFound found × ((back : List Region) × (regions ≡ found.region ∷ back))

  -- THE NEIGHBORS OF AN ADDRESS are the last region that starts at the address or below it, and the first region that starts above it
  pub record AreNeighbors (regions : List Region) (address : ℕ) (below above : Option Found) : Type 0 where
    pub front : List Region
    pub back : List Region
    pub cut : regions ≡ front ++ back
    pub starts_below : AllByRecursion (λ region. region.start ≤ address) front
    pub starts_above : AllByRecursion (λ region. address < region.start) back
    pub below_is : IsLast front below
    pub above_is : IsFirst back above

  -- `IsEnding`: the search found the region that ends at the address. `IsStarting`: it found the region that starts there. `None` means that no region does
  abbrev pub IsEnding : List Region → ℕ → Option Found → Type 0
  IsEnding regions address None = AllByRecursion (λ region. end_of region ≢ address) regions
  IsEnding regions address (Some found) = IsFound found × (end_of found.region ≡ address)

  abbrev pub IsStarting : List Region → ℕ → Option Found → Type 0
  IsStarting regions address None = AllByRecursion (λ region. region.start ≢ address) regions
  IsStarting regions address (Some found) = IsFound found × (found.region.start ≡ address)

  -- `region` touches `front` and `back`, and no other region. `front` ends where `region` starts, and `back` starts where `region` ends. `region` shares no
  -- address with any of `regions`
  pub record Touches (regions : List Region) (region : Region) (front back : Option Found) : Type 0 where
    pub each : AllByRecursion (λ other. AreApart region other ⊎ ((end_of other ≡ region.start) ⊎ (other.start ≡ end_of region))) regions
    pub front_is : IsEnding regions region.start front
    pub back_is : IsStarting regions (end_of region) back

-- The call returns the region `below` if this region ends at the address `start`. It returns `None` if `below` ends earlier or there is no such region. If
-- `below` ends later, the call is refused
abbrev pub EndsBy : Option Found → ℕ → Result (Option Found) FreeError → Type 0
EndsBy below start (Ok (Some found)) = (below ≡ Some found) × (end_of found.region ≡ start)
EndsBy None start (Ok None) = Unit {0}
EndsBy (Some found) start (Ok None) = end_of found.region < start
EndsBy None start (Err error) = ⊥
EndsBy (Some found) start (Err error) = (error ≡ Overlaps) × start < end_of found.region

-- The call returns the region `above` if this region starts at the address `end`. It returns `None` if `above` starts later or there is no such region. If
-- `above` starts earlier, the call is refused
abbrev pub StartsFrom : Option Found → ℕ → Result (Option Found) FreeError → Type 0
StartsFrom above end (Ok (Some found)) = (above ≡ Some found) × (found.region.start ≡ end)
StartsFrom None end (Ok None) = Unit {0}
StartsFrom (Some found) end (Ok None) = end < found.region.start
StartsFrom None end (Err error) = ⊥
StartsFrom (Some found) end (Err error) = (error ≡ Overlaps) × found.region.start < end
