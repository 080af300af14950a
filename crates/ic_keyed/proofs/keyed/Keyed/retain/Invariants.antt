use Rattle.std.proofs.Common.{◌≡◌}
use Rattle.std.specs.Fn.{FnReturnsAt}
use Rattle.ic_keyed.proofs.RetainLemmas.{Asked}
use Rattle.ic_keyed.proofs.keyed.Keyed.retain.Given as goal

abbrev pub invariant-loop-asked : goal.invariant-loop-asked
invariant-loop-asked g l = record {
  parts : l.self.parts ≡ l.fn.self.parts;
  asked : Asked (FnReturnsAt g.F.Fn l.keeps) l.fn.self.values l.self.values l._asked;
}
