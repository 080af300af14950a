use Rattle.std.proofs.Common.{◌≡◌, ◌+◌, None, List, length}
use Rattle.ic_link_ops.specs.Prelude.{Place, RepresentsChain, walked}
use Rattle.ic_list_algorithms.proofs.WalkLemmas.{WalksTo}
use Rattle.ic_list_algorithms.proofs.whole.gap_at.Given as goal

abbrev pub invariant-loop-current : goal.invariant-loop-current
invariant-loop-current g l = record {
  passed : (s : List Place) → RepresentsChain g.K.ForwardLinks.Between g.K.ListKind.kept (g.L.LinkOps.table l.fn.links) l.fn.list s
      → (k : WalksTo g.K.ForwardLinks.Between (g.L.LinkOps.table l.fn.links) s l.prev l.current) × (l.fn.n ≡ length k.done + l.left);
}

abbrev pub decreases-loop-current : goal.decreases-loop-current
decreases-loop-current g l = length (walked g.K.ForwardLinks.step (g.L.LinkOps.table l.fn.links) l.prev l.current None)
