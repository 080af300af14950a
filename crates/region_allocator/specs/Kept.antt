-- The facts that an allocator maintains for its objects, their links and lengths, and its tree.
use Rattle.std.specs.Prelude.{◌≡◌, ℕ, ◌^◌, leb, Option, Some, List}
use Rattle.ic_link_ops.specs.Prelude.{Place, Objects, object_at, values_at, node_of}
use Rattle.ic_rbtree.specs.Prelude.{TreeLinkOps, PlainRepresents, plain_table, members_of, root_of}
use Rattle.ic_rbtree.specs.EachObject.{HasEach}
use Rattle.ic_augmented.specs.Prelude.{IsConsistent, greatest, number_at, links_of, summaries_of}
use Rattle.ic_augmented.specs.declared.augmented_table.AugmentedTable.{AugmentedTable}
use Rattle.region_allocator.specs.declared.region.Region.{Region}
use Rattle.region_allocator.specs.declared.free_regions.FreeRegions.{FreeRegions}
use Rattle.region_allocator.specs.Regions.{Space, space_of, AreRegionsApart}

-- the first address of a region
abbrev pub start_of : Region → ℕ
start_of region = region.start

-- An allocator maintains these facts. The tree has every object, sorted by the starts of the regions. The table stores, for each link, the length of the
-- link's region. Each greatest length that is not stale is right. The regions are apart
pub record Keeps {A B : Type 0} (objects : Objects Region) (links : TreeLinkOps A) (root : Option Place) (lengths : AugmentedTable ℕ ℕ B) : Type 0 where
  pub starts : List Region
  pub by_start : HasEach start_of links root objects starts
  pub beside : (p : Place) (region : Region) → object_at objects p ≡ Some region → number_at lengths p ≡ region.length
  pub consistent : (s : List Place) → PlainRepresents links root s → IsConsistent node_of (plain_table links) (greatest lengths) s
  pub apart : AreRegionsApart starts

-- the regions at the members of the tree, in the order of their addresses
abbrev pub represented_regions : {A : Type 0} → Objects Region → TreeLinkOps A → Option Place → List Region
represented_regions objects links root = values_at objects (members_of links root)

module _ {A : Type 0} (regions : FreeRegions A) where
  -- the free regions of an allocator maintain `Keeps` for their objects, their links, their tree and their lengths
  abbrev pub IsKept : Type 0
  IsKept = Keeps regions.pool.objects (links_of regions.pool.links) (root_of regions.by_start) (summaries_of regions.pool.links)

  abbrev pub regions_of : List Region
  regions_of = represented_regions regions.pool.objects (links_of regions.pool.links) (root_of regions.by_start)

  abbrev pub represented_space : Space
  represented_space = space_of regions_of (leb (2 ^ 32) regions.pool.objects.next)
