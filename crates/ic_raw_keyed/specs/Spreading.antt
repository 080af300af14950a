-- The state of the buckets while the members of a list are moved to them, one after the other.
use Rattle.std.specs.Prelude.{◌<◌, ℕ, List, [], ◌∷◌, length}
use Rattle.ic_link_ops.specs.Prelude.{Place, IsDisjoint, ChangesOnlyIn}
use Rattle.ic_link_ops.specs.NumberedCollections.{with_at}
use Rattle.ic_raw.specs.declared.table.RawTable.{RawTable}
use Rattle.ic_raw.specs.declared.words.RawFront.{RawFront}
use Rattle.ic_raw.specs.declared.words.RawOne.{RawOne}
use Rattle.ic_raw.specs.Prelude.{HoldsChains, raw_entries}
use Rattle.ic_raw.specs.Singly.{lent_table}
use Rattle.ic_raw_keyed.specs.Growth.{StaysOrGets, slot_for}

-- the chains after each member of r, one after the other, was moved to the front of the chain to which the hash of the member leads
abbrev pub spread_over : (hashes : List ℕ) → (count : ℕ) → (ℕ → List Place) → List Place → ℕ → List Place
spread_over hashes count chains [] = chains
spread_over hashes count chains (p ∷ r) =
    spread_over hashes count (with_at chains (slot_for hashes count p) (p ∷ chains (slot_for hashes count p))) r

-- the members of r were moved to the buckets, one after the other: each bucket's chain begins with the members of r that came to this bucket, the last of them
-- first
pub record Spreads (hashes : List ℕ) (t u : RawTable RawOne) (buckets buckets' : List RawFront) (r : List Place) : Type 0 where
  pub holds : (chains : ℕ → List Place) → HoldsChains (raw_entries t) buckets chains → ((i : ℕ) → i < length buckets → IsDisjoint (chains i) r)
      → HoldsChains (raw_entries u) buckets' (spread_over hashes (length buckets) chains r)
  pub frame : ChangesOnlyIn (lent_table t) (lent_table u) r
  pub own : (i : ℕ) → StaysOrGets hashes buckets buckets' r i
