use Rattle.std.proofs.Common.{◌≡◌, None, List, length}
use Rattle.ic_link_ops.specs.Prelude.{Place, RepresentsChain, walked}
use Rattle.ic_list_algorithms.proofs.AskedLemmas.{OrderedSoFar}
use Rattle.ic_list_algorithms.proofs.WalkLemmas.{WalksTo}
use Rattle.ic_list_algorithms.specs.Asked.{AsksAfter}
use Rattle.ic_list_algorithms.specs.Runs.{less_at}
use Rattle.ic_list_algorithms.specs.Walks.{ordered_from, are_neighbors_ordered}
use Rattle.ic_list_algorithms.proofs.walks.is_sorted_by.Given as goal

abbrev pub invariant-loop-current : goal.invariant-loop-current
invariant-loop-current g l = record {
  ready : g.C.Precedes.ready l.order;
  obeys : (lt : _) → g.C.Precedes.obeys l.fn.order lt → g.C.Precedes.obeys l.order lt;
  passed : (s : List Place) → RepresentsChain g.K.ForwardLinks.Between g.K.ListKind.kept (g.L.LinkOps.table l.fn.links) l.fn.list s
      → (k : WalksTo g.K.ForwardLinks.Between (g.L.LinkOps.table l.fn.links) s l.prev l.current)
      × ((lt : _) → g.C.Precedes.obeys l.fn.order lt
      → are_neighbors_ordered (less_at lt (g.O.Values.values l.objects)) s ≡ ordered_from (less_at lt (g.O.Values.values l.objects)) l.prev k.rest)
      × OrderedSoFar (AsksAfter (g.O.Values.values l.objects) g.C.Precedes.asks) l.fn.order s k.rest l.prev l.order;
}

abbrev pub decreases-loop-current : goal.decreases-loop-current
decreases-loop-current g l = length (walked g.K.ForwardLinks.step (g.L.LinkOps.table l.fn.links) l.prev l.current None)
