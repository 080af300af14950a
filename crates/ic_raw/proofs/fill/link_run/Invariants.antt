use Rattle.std.proofs.Common.{◌≡◌, ◌<◌, true, Option}
use Rattle.ic_link_ops.specs.Prelude.{Place, Cut, join, RepresentsChain}
use Rattle.ic_raw.specs.Fills.{IsFreeRun}
use Rattle.ic_raw.specs.Prelude.{IsNoneOrLinked, gap_of, nameable_table}
use Rattle.ic_raw.proofs.Runs.{Fills, LinksRun}
use Rattle.ic_raw.proofs.fill.link_run.Given as goal

-- before each step, the places beside the gap are none or linked. If the run is free, the places of the run with a number below `number` are linked
-- and in the list, and the other places of the run are free
abbrev pub invariant-loop-left : goal.invariant-loop-left
invariant-loop-left g l = record {
  small : l.number < 4294967296;
  extent : (nameable_table g.W.Words.width g.W.Words.unlinked l.links).extent ≡ (nameable_table g.W.Words.width g.W.Words.unlinked l.fn.links).extent;
  before : IsNoneOrLinked g.W.Words.is_linked (nameable_table g.W.Words.width g.W.Words.unlinked l.links) l.before;
  after : IsNoneOrLinked g.W.Words.is_linked (nameable_table g.W.Words.width g.W.Words.unlinked l.links) l.fn.gap.after;
  links : (free : IsFreeRun g.W.Words.is_linked (nameable_table g.W.Words.width g.W.Words.unlinked l.fn.links) l.fn.first l.fn.count)
      → (rest : IsFreeRun g.W.Words.is_linked (nameable_table g.W.Words.width g.W.Words.unlinked l.links) l.number l.left)
      × LinksRun g.W.Words.is_linked g.K.ListKind.kept g.K.ForwardLinks.NamesPrev (nameable_table g.W.Words.width g.W.Words.unlinked l.fn.links) (nameable_table g.W.Words.width g.W.Words.unlinked l.links) l.fn.list l.list
      l.fn.gap l.before free.run rest.run;
  fills : ((e : g.row.W.Denot) (b a : Option Place) → g.K.ForwardLinks.Between e b a → g.W.Words.is_linked e ≡ true) → (cut : Cut) (free : IsFreeRun g.W.Words.is_linked (nameable_table g.W.Words.width g.W.Words.unlinked l.fn.links) l.fn.first l.fn.count)
      → RepresentsChain g.K.ForwardLinks.Between g.K.ListKind.kept (nameable_table g.W.Words.width g.W.Words.unlinked l.fn.links) l.fn.list (join cut) → l.fn.gap ≡ gap_of cut
      → (rest : IsFreeRun g.W.Words.is_linked (nameable_table g.W.Words.width g.W.Words.unlinked l.links) l.number l.left)
      × Fills g.K.ForwardLinks.Between g.K.ListKind.kept (nameable_table g.W.Words.width g.W.Words.unlinked l.fn.links) (nameable_table g.W.Words.width g.W.Words.unlinked l.links) l.list cut l.before free.run rest.run;
}

abbrev pub decreases-loop-left : goal.decreases-loop-left
decreases-loop-left g l = l.left
