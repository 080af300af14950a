use Rattle.std.proofs.Common.{◌≡◌, None, List, length}
use Rattle.std.specs.Fn.{ComputesKey, CalledAt}
use Rattle.ic_link_ops.specs.Prelude.{Place, RepresentsChain, walked}
use Rattle.ic_list_algorithms.proofs.WalkLemmas.{WalksTo}
use Rattle.ic_list_algorithms.specs.Asked.{AnswersNo, AsksAt}
use Rattle.ic_list_algorithms.specs.Walks.{test_at, HoldsNowhere}
use Rattle.ic_list_algorithms.proofs.walks.find_first.Given as goal

abbrev pub invariant-loop-current : goal.invariant-loop-current
invariant-loop-current g l = record {
  callable : goal.F-IsAlwaysCallable g l.test;
  answers : (holds : _) → ComputesKey g.F.FnMut holds l.fn.test → ComputesKey g.F.FnMut holds l.test;
  passed : (s : List Place) → RepresentsChain g.K.ForwardLinks.Between g.K.ListKind.kept (g.L.LinkOps.table l.fn.links) l.fn.list s
      → (k : WalksTo g.K.ForwardLinks.Between (g.L.LinkOps.table l.fn.links) s l.prev l.current) × (l.at ≡ length k.done)
      × ((holds : _) → ComputesKey g.F.FnMut holds l.fn.test → HoldsNowhere (test_at holds (g.O.Values.values l.objects)) k.done)
      × AnswersNo (AsksAt (g.O.Values.values l.objects) (CalledAt g.F.FnMut)) l.fn.test k.done l.test;
}

abbrev pub decreases-loop-current : goal.decreases-loop-current
decreases-loop-current g l = length (walked g.K.ForwardLinks.step (g.L.LinkOps.table l.fn.links) l.prev l.current None)
