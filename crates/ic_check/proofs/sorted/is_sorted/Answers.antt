use Rattle.std.proofs.Common.{not, sym, ap, ◌∙◌}
use Rattle.ic_rbtree.specs.Iter.{objects_left}
use Rattle.ic_rbtree.specs.Tree.{adapter_of}
use Rattle.ic_check.proofs.SortedTrees.{on_some, first_given, goes, goes_on}
use Rattle.ic_check.proofs.sorted.is_sorted.Goals as goal

pub loop-value-init : goal.loop-value-init
loop-value-init g c =
    let some = c.is_none.ensures ∙ ap not c.if-is_none.false in (
      on_some c.next.result some c.next.ensures.goes.keeps,
      tt,
      c.iter-after.ensures.can_walk,
      tt,
      λ s shown.
          let first = first_given (objects_left g.L.RBTreeOps.node g.L.LinkOps.table g.O.Values.values) c.iter-walk.result c.next.new.self c.next.result some c.next.ensures.steps in
          goes g.A.Key.Ord.cmp (g.A.KeyAdapter.key_of (adapter_of c.args.tree.now)) (c.iter-after.ensures.walks s shown) (sym (c.iter-walk.ensures.walks s shown) ∙ first.1),
    )

pub loop-value-preserved : goal.loop-value-preserved
loop-value-preserved g c = (
  c.in-Some.ensures.goes.keeps,
  tt,
  c.in-Some-next.ensures.goes.keeps,
  tt,
  λ s shown.
      goes_on g.A.Key.Ord.cmp (g.A.KeyAdapter.key_of (adapter_of c.args.tree.now)) (c.loop-value.invariant.4 s shown) c.in-Some.ensures.steps.0 c.in-Some-next.ensures.steps.0
      (λ less. let met = c.falls.ensures.1 (rw c.adapter.ensures less) in cc met),
)
