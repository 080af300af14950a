use Rattle.std.proofs.Common.{sym, ◌∙◌, subst}
use Rattle.ic_link_ops.proofs.Positions.{member_there}
use Rattle.ic_rbtree.specs.Prelude.{IsBeside, IsInsertPos}
use Rattle.ic_rbtree.proofs.Removing.{spot_linked}
use Rattle.ic_rbtree.proofs.Beside.{root_can, member_spot, below_can, null_end, null_insert_pos, member_end, outermost_here}
use Rattle.ic_rbtree.proofs.steps.insert_pos_beside.Goals as goal
use Rattle.ic_rbtree.proofs.steps.insert_pos_beside.Goals.{in-None, in-Some}

pub child-below-requires : goal.child-below-requires
child-below-requires g c =
    let x = member_spot g.L.RBTreeOps.node (member_there c.requires.stands c.in-Some.is) in
    spot_linked g.L.RBTreeOps.node x.2

pub outermost-requires : goal.outermost-requires
outermost-requires g c = elim c.match-current.branch [
  | in-None w ↦ root_can g.L.RBTreeOps.node c.requires.stands.shown (sym w.below-is ∙ c.in-Some-below.is)
  | in-Some w ↦
      let x = member_spot g.L.RBTreeOps.node (member_there c.requires.stands w.in-Some.is) in
      below_can g.L.RBTreeOps.node x.2 c.args.side (sym w.child-below.ensures ∙ (sym w.below-is ∙ c.in-Some-below.is))
]

pub returns-in-None-below : goal.returns-in-None-below
returns-in-None-below g c gap shown here = elim c.match-current.branch [
  | in-None w ↦
      subst (λ o. IsInsertPos g.L.RBTreeOps.node (g.L.LinkOps.table c.args.links.now) o c.args.side gap) (sym (w.current-is ∙ w.in-None.is))
      (null_insert_pos g.L.RBTreeOps.node c.args.side gap shown (subst (λ o. IsBeside c.args.side gap o) w.in-None.is here) (sym w.below-is ∙ c.in-None-below.is))
  | in-Some w ↦
      subst (λ o. IsInsertPos g.L.RBTreeOps.node (g.L.LinkOps.table c.args.links.now) o c.args.side gap) (sym w.current-is)
      (sym w.child-below.ensures ∙ (sym w.below-is ∙ c.in-None-below.is), subst (λ o. IsBeside c.args.side gap o) w.in-Some.is here)
]

pub returns-in-Some-below : goal.returns-in-Some-below
returns-in-Some-below g c gap shown here = elim c.match-current.branch [
  | in-None w ↦
      null_end g.L.RBTreeOps.node c.args.side gap shown c.other-end.ensures (subst (λ o. IsBeside c.args.side gap o) w.in-None.is here) (sym w.below-is ∙ c.in-Some-below.is) (outermost_here g.L.RBTreeOps.node _ c.outermost.ensures)
  | in-Some w ↦
      member_end g.L.RBTreeOps.node c.args.side gap shown w.in-Some.place c.other-end.ensures (subst (λ o. IsBeside c.args.side gap o) w.in-Some.is here)
      (sym w.child-below.ensures ∙ (sym w.below-is ∙ c.in-Some-below.is)) (outermost_here g.L.RBTreeOps.node _ c.outermost.ensures)
]
