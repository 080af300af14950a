use Rattle.std.proofs.Common.{◌≡◌}
use Rattle.ic_link_ops.specs.Chains.{RepresentsSomeChain}
use Rattle.structure_tests.proofs.algorithms.filled.Given as goal

abbrev pub invariant-loop-given : goal.invariant-loop-given
invariant-loop-given g l = record {
  covers : (g.L.LinkOps.table l.links).extent.places ≡ 8;
  shown : RepresentsSomeChain g.K.ForwardLinks.Between g.K.ListKind.kept (g.L.LinkOps.table l.links) l.list;
}
