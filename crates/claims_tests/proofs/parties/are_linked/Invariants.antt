use Rattle.std.proofs.Common.{◌≡◌}
use Rattle.claims_tests.proofs.parties.are_linked.Given as goal

abbrev pub invariant-loop-index : goal.invariant-loop-index
invariant-loop-index g l = g.L.LinkOps.table l.links ≡ g.L.LinkOps.table l.fn.links
