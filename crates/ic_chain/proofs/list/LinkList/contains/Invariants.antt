use Rattle.std.proofs.Common.{◌≡◌, None, List, length}
use Rattle.ic_link_ops.specs.Prelude.{Place, last, walked, RepresentsChain}
use Rattle.ic_link_ops.proofs.Membership.{Seeks}
use Rattle.ic_chain.proofs.list.LinkList.contains.Given as goal

-- whichever sequence is represented, the place is none of the members before `current`, and `prev` is the member right before `current`
abbrev pub invariant-loop-current : goal.invariant-loop-current
invariant-loop-current g l = record {
  sought : (s : List Place) → RepresentsChain g.K.ForwardLinks.Between g.K.ListKind.kept (g.L.LinkOps.table l.fn.links) l.fn.self s
      → (k : Seeks g.K.ForwardLinks.Between (g.L.LinkOps.table l.fn.links) s l.fn.place l.current) × (l.prev ≡ last k.walk.done);
}

abbrev pub decreases-loop-current : goal.decreases-loop-current
decreases-loop-current g l = length (walked g.K.ForwardLinks.step (g.L.LinkOps.table l.fn.links) l.prev l.current None)
