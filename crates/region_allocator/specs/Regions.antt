-- Regions of addresses, and which addresses are free.
use Rattle.std.specs.Prelude.{◌≡◌, ℕ, ◌+◌, ◌^◌, ◌<◌, ◌≤◌, ◌↔◌, ◌⊎◌, Bool, List, [], ◌∷◌, ◌++◌}
use Rattle.std.specs.List.{AllByRecursion}
use Rattle.region_allocator.specs.declared.region.Region.{Region}

-- the region that consists of `length` addresses from the address `start` on
abbrev pub region_of : ℕ → ℕ → Region
region_of start length = record { start = start; length = length }

-- the first address after a region
abbrev pub end_of : Region → ℕ
end_of region = region.start + region.length

-- the region has the address: the address is not below the region's start, and is below its end
abbrev pub Has : Region → ℕ → Type 0
Has region address = (region.start ≤ address) × (address < end_of region)

-- an address is free if one of the free regions has it
abbrev pub IsFree : List Region → ℕ → Type 0
IsFree [] address = ⊥
IsFree (region ∷ regions) address = Has region address ⊎ IsFree regions address

-- A REGION is not empty, and ends at `u64::MAX` or before
pub record IsRegion (region : Region) : Type 0 where
  pub some : 0 < region.length
  pub fits : end_of region < 2 ^ 64

-- two regions are apart if they neither share an address nor touch
abbrev pub AreApart : Region → Region → Type 0
AreApart region other = (end_of region < other.start) ⊎ (end_of other < region.start)

-- the regions of a list are apart if they are sorted by their addresses, and between any two of them is an address that is not free
abbrev pub AreRegionsApart : List Region → Type 0
AreRegionsApart [] = Unit {0}
AreRegionsApart (region ∷ regions) = IsRegion region × AllByRecursion (λ later. end_of region < later.start) regions × AreRegionsApart regions

-- a contract sees the allocator's free regions, in the order of their addresses, and whether all places are in use
pub record Space : Type 0 where
  pub regions : List Region
  pub is_full : Bool

abbrev pub space_of : List Region → Bool → Space
space_of regions is_full = record { regions = regions; is_full = is_full }

-- none of the addresses of `region` was free, and now all of them are free. No other address has changed
pub record FreesRegion (region : Region) (old new : List Region) : Type 0 where
  pub is_region : IsRegion region
  pub was_taken : (address : ℕ) → Has region address → ¬ IsFree old address
  pub free : (address : ℕ) → IsFree new address ↔ (IsFree old address ⊎ Has region address)

-- each of the addresses of `region` was free, and now none of them is free. No other address has changed
pub record AllocatesRegion (region : Region) (old new : List Region) : Type 0 where
  pub was_free : (address : ℕ) → Has region address → IsFree old address
  pub free : (address : ℕ) → IsFree new address ↔ (IsFree old address × ¬ Has region address)

-- all regions are shorter than this length
abbrev pub AreShorter : List Region → ℕ → Type 0
AreShorter regions length = AllByRecursion (λ region. region.length < length) regions

-- the `length` consecutive addresses from `address` on are all free
abbrev pub FitsAt : List Region → ℕ → ℕ → Type 0
FitsAt regions length address = (a : ℕ) → Has (region_of address length) a → IsFree regions a

-- `region` is the beginning of the free region `whole`, and all free regions before `whole` are shorter than `region`. Therefore the length of `region`
-- fits at no lower address
pub record IsFirstFit (region : Region) (old : List Region) : Type 0 where
  pub front : List Region
  pub whole : Region
  pub back : List Region
  pub was : old ≡ front ++ whole ∷ back
  pub start : region.start ≡ whole.start
  pub long_enough : region.length ≤ whole.length
  pub shorter : AreShorter front region.length
  pub lowest : (address : ℕ) → 0 < region.length → FitsAt old region.length address → region.start ≤ address
