use Rattle.std.proofs.Common.{refl, sym, ◌∙◌, arith}
use Rattle.ic_tree_merges.specs.Merges.{compared_at}
use Rattle.ic_tree_merges.proofs.MergedRuns.{merging_first, merging_last, few_merged, left_ready, right_ready, left_linked, right_linked, left_absent, right_absent, take_left, take_right, over_left, one_look}
use Rattle.ic_tree_merges.proofs.merging.merge_runs.Goals as goal
use Rattle.ic_tree_merges.proofs.merging.merge_runs.Goals.{then-takes_left+in-Some, else-takes_left+in-Some-right}

pub loop-count-init : goal.loop-count-init
loop-count-init g c = record {
  merging = λ s u a b d.
      merging_first g.N.NodeStore.node (compared_at (g.C.Compares.order c.args.order.now) (g.O.Values.values c.args.objects.now)) (g.O.Values.values c.args.objects.now) a b d c.new-merged.ensures;
  few = omega arith;
  same = refl;
  keeps_links = g.met.N.NodeStore.keeps_links_still _;
}

pub takes_left-requires-clause-placed : goal.takes_left-requires-clause-placed
takes_left-requires-clause-placed g c =
    let r = c.requires.runs in
    left_ready g.N.NodeStore.node (compared_at (g.C.Compares.order c.args.order.now) (g.O.Values.values c.args.objects.now)) (g.O.Values.values c.args.objects.now) (c.loop-count.invariant.merging r.0 r.1 r.2 r.3 r.4)

pub takes_left-requires-clause-other_placed : goal.takes_left-requires-clause-other_placed
takes_left-requires-clause-other_placed g c =
    let r = c.requires.runs in
    right_ready g.N.NodeStore.node (compared_at (g.C.Compares.order c.args.order.now) (g.O.Values.values c.args.objects.now)) (g.O.Values.values c.args.objects.now) (c.loop-count.invariant.merging r.0 r.1 r.2 r.3 r.4)

pub returns-in_default-clause-merged : goal.returns-in_default-clause-merged
returns-in_default-clause-merged g c s u a b d =
    merging_last g.N.NodeStore.node (compared_at (g.C.Compares.order c.args.order.now) (g.O.Values.values c.args.objects.now)) (g.O.Values.values c.args.objects.now) (c.loop-count.invariant.merging s u a b d) c.in_default.is
    (over_left (compared_at (g.C.Compares.order c.loop-count.order) (g.O.Values.values c.args.objects.now)) c.loop-count.left c.loop-count.right (sym c.if-takes_left.ensures.taken) c.in_default.is)

pub push_back-left-requires-clause-linked : goal.push_back-left-requires-clause-linked
push_back-left-requires-clause-linked g c =
    let r = c.requires.runs in
    left_linked g.N.NodeStore.node (compared_at (g.C.Compares.order c.args.order.now) (g.O.Values.values c.args.objects.now)) (g.O.Values.values c.args.objects.now) (c.loop-count.invariant.merging r.0 r.1 r.2 r.3 r.4) c.in-Some.is

pub push_back-right-requires-clause-linked : goal.push_back-right-requires-clause-linked
push_back-right-requires-clause-linked g c =
    let r = c.requires.runs in
    right_linked g.N.NodeStore.node (compared_at (g.C.Compares.order c.args.order.now) (g.O.Values.values c.args.objects.now)) (g.O.Values.values c.args.objects.now) (c.loop-count.invariant.merging r.0 r.1 r.2 r.3 r.4) c.in-Some-right.is

pub loop-count-preserved : goal.loop-count-preserved
loop-count-preserved g c = record {
  merging = λ s u a b d.
      let n = g.N.NodeStore.node in
      let objects = g.O.Values.values c.args.objects.now in
      let k = c.loop-count.invariant.merging s u a b d in
      elim c.if-takes_left.branch [
        | then-takes_left+in-Some w ↦ rw (w.nodes-is, w.left-is, w.right-is, w.merged-is)
            (take_left n (compared_at (g.C.Compares.order c.args.order.now) objects) objects k w.in-Some.is (rw c.loop-count.invariant.same at (sym w.if-takes_left.ensures.taken)) w.push_back-left.ensures.after
            (w.push_back-left.ensures.hung k.done k.vine (left_absent n (compared_at (g.C.Compares.order c.args.order.now) objects) objects k w.in-Some.is)))
        | else-takes_left+in-Some-right w ↦ rw (w.nodes-is, w.left-is, w.right-is, w.merged-is)
            (take_right n (compared_at (g.C.Compares.order c.args.order.now) objects) objects k w.in-Some-right.is (rw c.loop-count.invariant.same at (sym w.if-takes_left.ensures.taken)) w.push_back-right.ensures.after
            (w.push_back-right.ensures.hung k.done k.vine (right_absent n (compared_at (g.C.Compares.order c.args.order.now) objects) objects k w.in-Some-right.is)))
      ];
  few = omega (arith, c.takes_left.ensures.counted, one_look c.loop-count.left c.loop-count.right, c.loop-count.invariant.few);
  same = c.takes_left.ensures.same ∙ c.loop-count.invariant.same;
  keeps_links = elim c.if-takes_left.branch [
    | then-takes_left+in-Some w ↦ rw w.nodes-is (g.met.N.NodeStore.keeps_links_on _ _ _ c.loop-count.invariant.keeps_links w.push_back-left.ensures.keeps_links)
    | else-takes_left+in-Some-right w ↦ rw w.nodes-is (g.met.N.NodeStore.keeps_links_on _ _ _ c.loop-count.invariant.keeps_links w.push_back-right.ensures.keeps_links)
  ];
}

pub returns-clause-merged : goal.returns-clause-merged
returns-clause-merged g c s u a b d =
    absurd (omega (
      arith,
      few_merged g.N.NodeStore.node (compared_at (g.C.Compares.order c.args.order.now) (g.O.Values.values c.args.objects.now)) (g.O.Values.values c.args.objects.now) (c.loop-count.invariant.merging s u a b d),
      c.loop-count-test.false,
    ))
