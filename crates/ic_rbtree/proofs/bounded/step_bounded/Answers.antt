use Rattle.std.proofs.Common.{Some, inl, inr, sym, ap, ◌∙◌, subst}
use Rattle.ic_link_ops.specs.Frames.{across, child_on}
use Rattle.ic_link_ops.specs.RedBlackTree.{node_at}
use Rattle.ic_link_ops.proofs.SequenceLemmas.{none_not, some_same}
use Rattle.ic_rbtree.specs.Prelude.{IsBeside, IsIn}
use Rattle.ic_rbtree.specs.StepsTo.{ComesUpTo, IsBelow, StepEnds, StepsTo}
use Rattle.ic_rbtree.proofs.Beside.{null_alone, null_end, member_end, member_above}
use Rattle.ic_rbtree.proofs.Closed.{in_there, in_child}
use Rattle.ic_rbtree.proofs.bounded.step_bounded.Goals as goal
use Rattle.ic_rbtree.proofs.bounded.step_bounded.Goals.{in-None, in-Some}

pub returns-in_err-current-in-None-below-clause-leads : goal.returns-in_err-current-in-None-below-clause-leads
returns-in_err-current-in-None-below-clause-leads g c gap shown here = elim c.match-current.branch [
  | in-None w ↦
      subst (λ o. IsBeside (across c.args.side) gap o) (sym c.from_residual.ensures)
      (null_alone g.N.NodeStore.node c.args.side gap shown (subst (λ o. IsBeside c.args.side gap o) w.in-None.is here) (sym w.below-is ∙ c.in-None-below.is))
  | in-Some w ↦ absurd (none_not w.in-Some.place (sym c.in_err-current-in-None-below.was ∙ w.current-is))
]

pub returns-in-Some-below-clause-leads : goal.returns-in-Some-below-clause-leads
returns-in-Some-below-clause-leads g c gap shown here = elim c.match-current.branch [
  | in-None w ↦
      subst (λ k. IsBeside k gap (Some c.outermost_bounded.result)) c.other.ensures
      (null_end g.N.NodeStore.node c.args.side gap shown c.other.ensures (subst (λ o. IsBeside c.args.side gap o) w.in-None.is here) (sym w.below-is ∙ c.in-Some-below.is)
      c.outermost_bounded.ensures.outermost).1
  | in-Some w ↦
      subst (λ k. IsBeside k gap (Some c.outermost_bounded.result)) c.other.ensures
      (member_end g.N.NodeStore.node c.args.side gap shown w.in-Some.place c.other.ensures (subst (λ o. IsBeside c.args.side gap o) w.in-Some.is here)
      (sym w.child-below.ensures ∙ (sym w.below-is ∙ c.in-Some-below.is)) c.outermost_bounded.ensures.outermost).1
]

pub returns-in_ok-current-in-None-below-clause-leads : goal.returns-in_ok-current-in-None-below-clause-leads
returns-in_ok-current-in-None-below-clause-leads g c gap shown here = elim c.match-current.branch [
  | in-None w ↦ absurd (none_not c.in_ok-current-in-None-below.field-0 (sym (w.current-is ∙ w.in-None.is) ∙ c.in_ok-current-in-None-below.was))
  | in-Some w ↦
      let same = some_same (sym w.current-is ∙ c.in_ok-current-in-None-below.was) in
      member_above g.N.NodeStore.node c.args.side gap shown c.in_ok-current-in-None-below.field-0 (subst (λ o. IsBeside c.args.side gap o) (w.in-Some.is ∙ (sym w.current-is ∙ c.in_ok-current-in-None-below.was)) here)
      (sym (ap (λ q. child_on c.args.side (node_at g.N.NodeStore.node (g.N.NodeStore.table c.args.nodes.now) q)) same) ∙ (sym w.child-below.ensures ∙ (sym w.below-is ∙ c.in-None-below.is)))
      c.above_bounded.ensures.nearest
]

pub returns-in_err-current-in-None-below-clause-ended : goal.returns-in_err-current-in-None-below-clause-ended
returns-in_err-current-in-None-below-clause-ended g c none = elim c.match-current.branch [
  | in-None w ↦ subst (StepEnds g.N.NodeStore.node (g.N.NodeStore.table c.args.nodes.now) c.args.root c.args.side) (sym w.in-None.is) (sym w.below-is ∙ c.in-None-below.is)
  | in-Some w ↦ absurd (none_not w.in-Some.place (sym c.in_err-current-in-None-below.was ∙ w.current-is))
]

pub returns-in-Some-below-clause-reached : goal.returns-in-Some-below-clause-reached
returns-in-Some-below-clause-reached g c y is =
    let down : IsBelow g.N.NodeStore.node (g.N.NodeStore.table c.args.nodes.now) (across c.args.side) c.in-Some-below.below y =
    subst (IsBelow g.N.NodeStore.node (g.N.NodeStore.table c.args.nodes.now) (across c.args.side) c.in-Some-below.below) (some_same is)
    (subst (λ k. IsBelow g.N.NodeStore.node (g.N.NodeStore.table c.args.nodes.now) k c.in-Some-below.below c.outermost_bounded.result) c.other.ensures c.outermost_bounded.ensures.below) in
    elim c.match-current.branch [
      | in-None w ↦ subst (λ o. StepsTo g.N.NodeStore.node (g.N.NodeStore.table c.args.nodes.now) c.args.root c.args.side o y) (sym w.in-None.is) (c.in-Some-below.below, sym w.below-is ∙ c.in-Some-below.is, down)
      | in-Some w ↦
          subst (λ o. StepsTo g.N.NodeStore.node (g.N.NodeStore.table c.args.nodes.now) c.args.root c.args.side o y) (sym w.in-Some.is)
          (inl (c.in-Some-below.below, sym w.child-below.ensures ∙ (sym w.below-is ∙ c.in-Some-below.is), down))
    ]

-- the step goes up from a place that has no child on side `side`, and the climb reaches the place y
pub returns-in_ok-current-in-None-below-clause-reached : goal.returns-in_ok-current-in-None-below-clause-reached
returns-in_ok-current-in-None-below-clause-reached g c y is = elim c.match-current.branch [
  | in-None w ↦ absurd (none_not c.in_ok-current-in-None-below.field-0 (sym (w.current-is ∙ w.in-None.is) ∙ c.in_ok-current-in-None-below.was))
  | in-Some w ↦
      let same = some_same (sym w.current-is ∙ c.in_ok-current-in-None-below.was) in
      subst (λ o. StepsTo g.N.NodeStore.node (g.N.NodeStore.table c.args.nodes.now) c.args.root c.args.side o y) (sym (w.in-Some.is ∙ (sym w.current-is ∙ c.in_ok-current-in-None-below.was)))
      (inr (
        sym (ap (λ q. child_on c.args.side (node_at g.N.NodeStore.node (g.N.NodeStore.table c.args.nodes.now) q)) same) ∙ (sym w.child-below.ensures ∙ (sym w.below-is ∙ c.in-None-below.is)),
        subst (ComesUpTo g.N.NodeStore.node (g.N.NodeStore.table c.args.nodes.now) c.args.side c.in_ok-current-in-None-below.field-0) is c.above_bounded.ensures.up,
      ))
]

pub returns-in_ok-current-in-None-below-clause-ended : goal.returns-in_ok-current-in-None-below-clause-ended
returns-in_ok-current-in-None-below-clause-ended g c none = elim c.match-current.branch [
  | in-None w ↦ absurd (none_not c.in_ok-current-in-None-below.field-0 (sym (w.current-is ∙ w.in-None.is) ∙ c.in_ok-current-in-None-below.was))
  | in-Some w ↦
      let same = some_same (sym w.current-is ∙ c.in_ok-current-in-None-below.was) in
      subst (StepEnds g.N.NodeStore.node (g.N.NodeStore.table c.args.nodes.now) c.args.root c.args.side) (sym (w.in-Some.is ∙ (sym w.current-is ∙ c.in_ok-current-in-None-below.was))) (
        sym (ap (λ q. child_on c.args.side (node_at g.N.NodeStore.node (g.N.NodeStore.table c.args.nodes.now) q)) same) ∙ (sym w.child-below.ensures ∙ (sym w.below-is ∙ c.in-None-below.is)),
        subst (ComesUpTo g.N.NodeStore.node (g.N.NodeStore.table c.args.nodes.now) c.args.side c.in_ok-current-in-None-below.field-0) none c.above_bounded.ensures.up,
      )
]

pub returns-in_err-current-in-None-below-clause-safe : goal.returns-in_err-current-in-None-below-clause-safe
returns-in_err-current-in-None-below-clause-safe g c S h i = subst (λ o. IsIn S o) (sym c.from_residual.ensures) tt

pub returns-in-Some-below-clause-safe : goal.returns-in-Some-below-clause-safe
returns-in-Some-below-clause-safe g c S h i = elim c.match-current.branch [
  | in-None w ↦ (c.outermost_bounded.ensures.safe c.args.root S h (in_there S h.starts (sym w.below-is ∙ c.in-Some-below.is), tt)).1.0
  | in-Some w ↦
      let down = in_child g.N.NodeStore.node h c.args.side w.in-Some.place (in_there S i w.in-Some.is) (w.below-is ∙ w.child-below.ensures) in
      (c.outermost_bounded.ensures.safe c.args.root S h (in_there S down c.in-Some-below.is, tt)).1.0
]

pub returns-in_ok-current-in-None-below-clause-safe : goal.returns-in_ok-current-in-None-below-clause-safe
returns-in_ok-current-in-None-below-clause-safe g c S h i = elim c.match-current.branch [
  | in-None w ↦ absurd (none_not c.in_ok-current-in-None-below.field-0 (sym (w.current-is ∙ w.in-None.is) ∙ c.in_ok-current-in-None-below.was))
  | in-Some w ↦ (c.above_bounded.ensures.safe c.args.root S h (in_there S i (w.in-Some.is ∙ (sym w.current-is ∙ c.in_ok-current-in-None-below.was)), tt)).1.0
]
