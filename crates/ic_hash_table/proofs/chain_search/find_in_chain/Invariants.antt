use Rattle.std.proofs.Common.{◌≡◌, ◌+◌, List, length}
use Rattle.ic_link_ops.specs.Prelude.{Place, IsFollowed, members_from}
use Rattle.ic_hash_table.specs.Prelude.{matches, RepresentsFrom}
use Rattle.ic_hash_table.proofs.ChainWalks.{HasPassed}
use Rattle.ic_hash_table.proofs.chain_search.find_in_chain.Given as goal

-- whichever sequence the chain represents, no member before `current` equals the searched key, and the search has compared each of them once
abbrev pub invariant-loop-current : goal.invariant-loop-current
invariant-loop-current g l = record {
  passed : (s : List Place) → RepresentsFrom g.L.SinglyLinkedListOps.successor (g.L.LinkOps.table l.fn.links) l.fn.front s
      → (k : HasPassed (IsFollowed g.L.SinglyLinkedListOps.successor) (matches (g.P.Probe.equal l.fn.probe) (g.O.Values.values l.fn.objects)) (g.L.LinkOps.table l.fn.links) s l.before l.current)
      × (g.P.Probe.count l.probe ≡ g.P.Probe.count l.fn.probe + length k.walk.done);
  same : g.P.Probe.equal l.probe ≡ g.P.Probe.equal l.fn.probe;
  hash : g.P.Probe.hash l.probe ≡ g.P.Probe.hash l.fn.probe;
}

abbrev pub decreases-loop-current : goal.decreases-loop-current
decreases-loop-current g l = length (members_from g.L.SinglyLinkedListOps.successor (g.L.LinkOps.table l.fn.links) l.current)
