-- Definitions that say how the list of free regions changes if one region is added or replaced.
use Rattle.std.specs.Prelude.{◌≡◌, ◌<◌, ◌⊎◌, List, ◌∷◌, ◌++◌}
use Rattle.std.specs.List.{AllByRecursion}
use Rattle.region_allocator.specs.declared.region.Region.{Region}
use Rattle.region_allocator.specs.Regions.{end_of, IsRegion, AreApart}

-- `new` is the list `old` with `region` inserted at some position
pub record Adds (region : Region) (old new : List Region) : Type 0 where
  pub front : List Region
  pub back : List Region
  pub was : old ≡ front ++ back
  pub is : new ≡ front ++ region ∷ back

-- `new` is the list `old` with `region` at the position of `out`
pub record Changes (out region : Region) (old new : List Region) : Type 0 where
  pub front : List Region
  pub back : List Region
  pub was : old ≡ front ++ out ∷ back
  pub is : new ≡ front ++ region ∷ back

-- `region` can replace `out` in the list `regions`: it shares an address with `out`, and is apart from all other regions
pub record FitsFor (out region : Region) (regions : List Region) : Type 0 where
  pub is_region : IsRegion region
  pub low : region.start < end_of out
  pub high : out.start < end_of region
  pub apart : AllByRecursion (λ other. (other ≡ out) ⊎ AreApart region other) regions
