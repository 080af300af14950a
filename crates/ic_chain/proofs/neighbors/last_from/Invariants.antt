use Rattle.std.proofs.Common.{◌≡◌, Some, None, List, length}
use Rattle.ic_link_ops.specs.Prelude.{Place, last, IsStretch, walked}
use Rattle.ic_chain.proofs.neighbors.last_from.Given as goal

-- the members left to walk over, from `member` on, have the same last member as the whole list, whichever sequence the list has
abbrev pub invariant-loop-next : goal.invariant-loop-next
invariant-loop-next g l = record {
  rest : (s : List Place) → IsStretch g.K.ForwardLinks.Between (g.L.LinkOps.table l.fn.links).entry None (Some l.fn.first) (last s) None s
      → (w : List Place) × IsStretch g.K.ForwardLinks.Between (g.L.LinkOps.table l.fn.links).entry l.prev (Some l.member) (last w) None w × (last s ≡ last w);
}

abbrev pub decreases-loop-next : goal.decreases-loop-next
decreases-loop-next g l = length (walked g.K.ForwardLinks.step (g.L.LinkOps.table l.fn.links) l.prev (Some l.member) None)
