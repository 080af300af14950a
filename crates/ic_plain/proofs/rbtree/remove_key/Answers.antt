use Rattle.std.proofs.Common.{Some, ap, ◌∙◌}
use Rattle.ic_rbtree.specs.Prelude.{equal_at, compared, order_of}
use Rattle.ic_rbtree.specs.Tree.{adapter_of}
use Rattle.ic_plain.specs.SortedTrees.{IsInOrder}
use Rattle.ic_plain.proofs.KeyOrder.{passing_member}
use Rattle.ic_plain.proofs.rbtree.remove_key.Goals as goal

pub remove-requires : goal.remove-requires
unfolding IsInOrder
remove-requires g c =
    let p = c.requires.sorted.placed in
    record {
      member = rw c.new-object.ensures (passing_member p.members p.shown
          (equal_at (compared (order_of g.K.Key.Ord.cmp (g.K.KeyAdapter.key_of (adapter_of c.args.tree.now)) c.args.key.now) c.args.objects.now)) (c.in_ok-find.ensures.found p.members p.shown));
    }

pub returns-in_err-find-clause-answer : goal.returns-in_err-find-clause-answer
returns-in_err-find-clause-answer g c s shown = let none = c.in_err-find.ensures.found s shown in cc

pub returns-clause-answer : goal.returns-clause-answer
returns-clause-answer g c s shown = ap Some c.new-object.ensures ∙ c.in_ok-find.ensures.found s shown

pub returns-in_err-find-clause-shows : goal.returns-in_err-find-clause-shows
unfolding IsInOrder
returns-in_err-find-clause-shows g c = let p = c.requires.sorted.placed in (p.members, p.shown)
