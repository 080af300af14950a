use Rattle.std.proofs.Common.{◌-◌, drop}
use Rattle.ic_hash_table.specs.HashTable.{number}
use Rattle.ic_check.proofs.HashTables.{ChecksChains}
use Rattle.ic_check.proofs.hash_table.check_hash_table.Given as goal

-- the chains with numbers below `at` are checked
abbrev pub invariant-loop-at : goal.invariant-loop-at
invariant-loop-at g l = record {
  checks : ChecksChains g.L.SinglyLinkedListOps.successor (number g.A.HashAdapter.key_of g.A.HashAdapter.hash_of) g.B.BucketRow.fronts (g.L.LinkOps.table l.links) l.table (g.O.Values.values l.objects)
      l.at (drop l.at (g.B.BucketRow.fronts l.table.buckets)) l.members;
}

abbrev pub decreases-loop-at : goal.decreases-loop-at
decreases-loop-at g l = l.count - l.at
