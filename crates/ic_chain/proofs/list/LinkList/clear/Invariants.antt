use Rattle.std.proofs.Common.{◌≡◌, None, List, length}
use Rattle.ic_link_ops.specs.Prelude.{Place, last, releases_each, walked, RepresentsChain}
use Rattle.ic_link_ops.proofs.Clearing.{Releases}
use Rattle.ic_chain.proofs.list.LinkList.clear.Given as goal

abbrev pub invariant-loop-current : goal.invariant-loop-current
invariant-loop-current g l = record {
  extent : (g.L.LinkOps.table l.links).extent ≡ (g.L.LinkOps.table l.fn.links).extent;
  released : (s : List Place) → RepresentsChain g.K.ForwardLinks.Between g.K.ListKind.kept (g.L.LinkOps.table l.fn.links) l.fn.self s
      → (k : Releases g.K.ForwardLinks.Between (g.L.LinkOps.table l.fn.links) (g.L.LinkOps.table l.links) s l.current)
      × (l.prev ≡ last k.done) × g.L.LinkOps.Trace l.fn.links l.links (releases_each k.done);
}

abbrev pub decreases-loop-current : goal.decreases-loop-current
decreases-loop-current g l = length (walked g.K.ForwardLinks.step (g.L.LinkOps.table l.links) l.prev l.current None)
