use Rattle.std.proofs.Common.{◌≡◌, ◌<◌, ◌≤◌, ◌-◌, ℕ, None, List, length, slice_index_or}
use Rattle.ic_unsafe_ref.specs.declared.place.Place.{Place}
use Rattle.ic_hash_table.specs.HashTable.{IsRepresented}
use Rattle.ic_hash_table.proofs.EmptiedChains.{Empties}
use Rattle.ic_hash_table.proofs.table.HashTable.clear.Given as goal

abbrev pub invariant-loop-at : goal.invariant-loop-at
invariant-loop-at g l = record {
  adapter : l.self.adapter ≡ l.fn.self.adapter;
  slots : l.self.slots ≡ l.fn.self.slots;
  count : length (g.B.BucketRow.fronts l.self.buckets) ≡ l.count;
  was : length (g.B.BucketRow.fronts l.fn.self.buckets) ≡ l.count;
  rewrites : g.B.BucketRow.Rewrites l.fn.self.buckets l.self.buckets;
  in_bounds : l.at ≤ l.count;
  none : (j : ℕ) → j < l.at → slice_index_or (g.B.BucketRow.fronts l.self.buckets) j None ≡ None;
  each : (s : List Place) → IsRepresented g.L.SinglyLinkedListOps.successor g.B.BucketRow.fronts (g.L.LinkOps.table l.fn.links) l.fn.self s
      → Empties g.L.SinglyLinkedListOps.successor g.L.LinkOps.table g.L.LinkOps.Trace l.fn.links l.links l.at (g.B.BucketRow.fronts l.self.buckets) s;
}

abbrev pub decreases-loop-at : goal.decreases-loop-at
decreases-loop-at g l = l.count - l.at
