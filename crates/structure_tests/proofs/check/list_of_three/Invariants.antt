use Rattle.std.proofs.Common.{◌≡◌}
use Rattle.ic_link_ops.specs.Prelude.{RepresentsSomeChain, table}
use Rattle.structure_tests.proofs.check.list_of_three.Given as goal

abbrev pub invariant-loop-index : goal.invariant-loop-index
invariant-loop-index g l = record {
  covers : (table g.W.Words.width g.W.Words.unlinked l.links).extent.places ≡ 3;
  shown : RepresentsSomeChain g.K.ForwardLinks.Between g.K.ListKind.kept (table g.W.Words.width g.W.Words.unlinked l.links) l.list;
}
