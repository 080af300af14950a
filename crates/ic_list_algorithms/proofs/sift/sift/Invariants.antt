use Rattle.std.proofs.Common.{None, IsSome, List, length}
use Rattle.ic_link_ops.specs.Prelude.{Place, object_at, ArePlaced, RepresentsChain, walked}
use Rattle.ic_list_algorithms.specs.Asked.{AsksBeside}
use Rattle.ic_list_algorithms.specs.Sifts.{keep_at}
use Rattle.ic_list_algorithms.proofs.AskedLemmas.{AskedSoFar}
use Rattle.ic_list_algorithms.proofs.SiftLemmas.{Sifting}
use Rattle.ic_list_algorithms.proofs.sift.sift.Given as goal

abbrev pub invariant-loop-current : goal.invariant-loop-current
invariant-loop-current g l = record {
  ready : g.S.Keeps.ready l.keep;
  obeys : (test : _) → g.S.Keeps.obeys l.fn.keep test → g.S.Keeps.obeys l.keep test;
  sifts : (s : List Place) (test : _) → RepresentsChain g.K.ForwardLinks.Between g.K.ListKind.kept (g.L.LinkOps.table l.fn.links) l.fn.list s
      → ArePlaced (g.O.Values.values l.objects) s
      → (k : Sifting g.K.ForwardLinks.Between g.K.ListKind.kept g.L.LinkOps.table g.L.LinkOps.Trace (λ p. IsSome (object_at (g.O.Values.values l.objects) p))
      (g.S.Keeps.obeys l.fn.keep test) (keep_at test (g.O.Values.values l.objects)) l.fn.links l.links l.list s l.prev l.current)
      × AskedSoFar (AsksBeside (g.O.Values.values l.objects) g.S.Keeps.asks) l.fn.keep s k.done k.rest l.prev l.keep;
}

abbrev pub decreases-loop-current : goal.decreases-loop-current
decreases-loop-current g l = length (walked g.K.ForwardLinks.step (g.L.LinkOps.table l.links) l.prev l.current None)
