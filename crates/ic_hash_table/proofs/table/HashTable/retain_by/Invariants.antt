use Rattle.std.proofs.Common.{◌≡◌, List, length}
use Rattle.std.specs.Fn.{CalledAt}
use Rattle.ic_unsafe_ref.specs.declared.place.Place.{Place}
use Rattle.ic_hash_table.specs.HashTable.{number, Holds}
use Rattle.ic_hash_table.specs.Iter.{members_of}
use Rattle.ic_hash_table.proofs.RetainedMembers.{ahead_of, Retains}
use Rattle.ic_hash_table.proofs.table.HashTable.retain_by.Given as goal

-- whichever sequence the table held, the test was called for the members before `at`. Those that passed were kept, and those that failed were removed
abbrev pub invariant-loop-at : goal.invariant-loop-at
invariant-loop-at g l = record {
  adapter : l.self.adapter ≡ l.fn.self.adapter;
  slots : l.self.slots ≡ l.fn.self.slots;
  rewrites : g.B.BucketRow.Rewrites l.fn.self.buckets l.self.buckets;
  callable : goal.F-IsAlwaysCallable g l.keeps;
  each : (s : List Place) → Holds g.L.SinglyLinkedListOps.successor (number g.A.HashAdapter.key_of g.A.HashAdapter.hash_of) g.B.BucketRow.fronts (g.L.LinkOps.table l.fn.links) l.fn.self (g.O.Values.values l.fn.objects) s
      → Retains g.L.SinglyLinkedListOps.successor g.L.LinkOps.table g.L.LinkOps.Trace (number g.A.HashAdapter.key_of g.A.HashAdapter.hash_of) g.B.BucketRow.fronts (g.O.Values.values l.fn.objects) (CalledAt g.F.FnMut)
      l.fn.links l.links l.self s l.at l.fn.keeps l.keeps;
}

abbrev pub decreases-loop-at : goal.decreases-loop-at
decreases-loop-at g l = length (ahead_of l.at (members_of g.L.SinglyLinkedListOps.successor (g.L.LinkOps.table l.links) (g.B.BucketRow.fronts l.self.buckets)))
