use Rattle.std.proofs.Common.{refl, sym, ◌∙◌, subst, arith}
use Rattle.ic_link_ops.specs.PlacedObjects.{ArePlaced}
use Rattle.ic_link_ops.proofs.RepresentedTrees.{one_sequence}
use Rattle.ic_rbtree.specs.Tree.{root_of}
use Rattle.ic_tree_merges.specs.Merges.{compared_at}
use Rattle.ic_tree_merges.proofs.PartedRuns.{safe_null, sifting_first, sifting_last, few_sifted, sift_linked, sift_there, absent_common, absent_rest, sift_equal, sift_less, sift_pass, step_safe}
use Rattle.ic_tree_merges.proofs.parting.part_run.Goals as goal
use Rattle.ic_tree_merges.proofs.parting.part_run.Goals.{in-Less, in-Equal, in-Greater}

pub step-right-requires : goal.step-right-requires
step-right-requires g c = let r = c.requires.run in safe_null g.N.NodeStore.node r.4

pub loop-count-init : goal.loop-count-init
loop-count-init g c = record {
  sifting = λ s u run d other placed apart.
      sifting_first g.N.NodeStore.node (compared_at (g.C.Compares.order c.args.order.now) (g.O.Values.values c.args.objects.now)) (g.O.Values.values c.args.objects.now) (root_of c.args.other.now)
      run d other placed apart c.step-right.ensures c.new-common.ensures c.new-rest.ensures;
  few = omega arith;
  same = refl;
  keeps_links = g.met.N.NodeStore.keeps_links_still _;
}

pub returns-in_default-clause-parted : goal.returns-in_default-clause-parted
returns-in_default-clause-parted g c s u run d other apart =
    let objects = g.O.Values.values c.args.objects.now in
    let placed = subst (ArePlaced objects) (one_sequence c.requires.run.4 other) c.requires.run.5 in
    sifting_last g.N.NodeStore.node (compared_at (g.C.Compares.order c.args.order.now) objects) objects (root_of c.args.other.now) (c.loop-count.invariant.sifting s u run d other placed apart) c.in_default.is

pub returns-in_default-clause-few : goal.returns-in_default-clause-few
returns-in_default-clause-few g c s u run d other apart =
    let objects = g.O.Values.values c.args.objects.now in
    let placed = subst (ArePlaced objects) (one_sequence c.requires.run.4 other) c.requires.run.5 in
    let k = c.loop-count.invariant.sifting s u run d other placed apart in
    omega (arith, c.loop-count.invariant.few, k.all)

pub standing-requires-clause-placed : goal.standing-requires-clause-placed
standing-requires-clause-placed g c =
    let r = c.requires.run in
    let objects = g.O.Values.values c.args.objects.now in
    sift_there g.N.NodeStore.node (compared_at (g.C.Compares.order c.args.order.now) objects) objects (root_of c.args.other.now) (c.loop-count.invariant.sifting r.0 r.1 r.2 r.3 r.4 r.5 r.6) c.in-Some.is

pub push_back-left-requires-clause-linked : goal.push_back-left-requires-clause-linked
push_back-left-requires-clause-linked g c =
    let r = c.requires.run in
    let objects = g.O.Values.values c.args.objects.now in
    sift_linked g.N.NodeStore.node (compared_at (g.C.Compares.order c.args.order.now) objects) objects (root_of c.args.other.now) (c.loop-count.invariant.sifting r.0 r.1 r.2 r.3 r.4 r.5 r.6) c.in-Some.is

pub push_back-left-requires-in-Equal-clause-linked : goal.push_back-left-requires-in-Equal-clause-linked
push_back-left-requires-in-Equal-clause-linked g c =
    let r = c.requires.run in
    let objects = g.O.Values.values c.args.objects.now in
    sift_linked g.N.NodeStore.node (compared_at (g.C.Compares.order c.args.order.now) objects) objects (root_of c.args.other.now) (c.loop-count.invariant.sifting r.0 r.1 r.2 r.3 r.4 r.5 r.6) c.in-Some.is

pub step-right-requires-in-Greater : goal.step-right-requires-in-Greater
step-right-requires-in-Greater g c =
    let r = c.requires.run in
    let objects = g.O.Values.values c.args.objects.now in
    step_safe g.N.NodeStore.node (compared_at (g.C.Compares.order c.args.order.now) objects) objects (root_of c.args.other.now) (c.loop-count.invariant.sifting r.0 r.1 r.2 r.3 r.4 r.5 r.6)
    (compared_at (g.C.Compares.order c.loop-count.order) objects) c.in-Some.place c.in-Greater.ensures.answer

pub loop-count-preserved : goal.loop-count-preserved
loop-count-preserved g c = record {
  sifting = λ s u run d other placed apart.
      let n = g.N.NodeStore.node in
      let objects = g.O.Values.values c.args.objects.now in
      let root = root_of c.args.other.now in
      let k = c.loop-count.invariant.sifting s u run d other placed apart in
      elim c.match-standing.branch [
        | in-Less w ↦ rw (w.nodes-is, w.left-is, w.right-is, w.common-is, w.rest-is)
            (sift_less n (compared_at (g.C.Compares.order c.args.order.now) objects) objects root k c.in-Some.is w.push_back-left.ensures.after
            (w.push_back-left.ensures.hung k.rest k.rest_vine (absent_rest n (compared_at (g.C.Compares.order c.args.order.now) objects) objects root k c.in-Some.is))
            (rw c.loop-count.invariant.same at (sym w.in-Less.ensures.answer)))
        | in-Equal w ↦ rw (w.nodes-is, w.left-is, w.right-is, w.common-is, w.rest-is)
            (sift_equal n (compared_at (g.C.Compares.order c.args.order.now) objects) objects root k c.in-Some.is w.push_back-left-in-Equal.ensures.after
            (w.push_back-left-in-Equal.ensures.hung k.common k.common_vine (absent_common n (compared_at (g.C.Compares.order c.args.order.now) objects) objects root k c.in-Some.is))
            (rw c.loop-count.invariant.same at (sym w.in-Equal.ensures.answer)))
        | in-Greater w ↦ rw (w.nodes-is, w.left-is, w.right-is, w.common-is, w.rest-is)
            (sift_pass n (compared_at (g.C.Compares.order c.args.order.now) objects) objects root k c.in-Some.place c.in-Some.is (rw c.loop-count.invariant.same at w.in-Greater.ensures.answer)
            w.step-right-in-Greater.ensures)
      ];
  few = omega (arith, c.standing.ensures.counted, c.loop-count.invariant.few);
  same = c.standing.ensures.same ∙ c.loop-count.invariant.same;
  keeps_links = elim c.match-standing.branch [
    | in-Less w ↦ rw w.nodes-is (g.met.N.NodeStore.keeps_links_on _ _ _ c.loop-count.invariant.keeps_links w.push_back-left.ensures.keeps_links)
    | in-Equal w ↦ rw w.nodes-is (g.met.N.NodeStore.keeps_links_on _ _ _ c.loop-count.invariant.keeps_links w.push_back-left-in-Equal.ensures.keeps_links)
    | in-Greater w ↦ rw w.nodes-is c.loop-count.invariant.keeps_links
  ];
}

pub returns-clause-parted : goal.returns-clause-parted
returns-clause-parted g c s u run d other apart =
    let objects = g.O.Values.values c.args.objects.now in
    let placed = subst (ArePlaced objects) (one_sequence c.requires.run.4 other) c.requires.run.5 in
    absurd (omega (arith, few_sifted g.N.NodeStore.node (compared_at (g.C.Compares.order c.args.order.now) objects) objects (root_of c.args.other.now) (c.loop-count.invariant.sifting s u run d other placed apart), c.loop-count-test.false))

pub returns-clause-few : goal.returns-clause-few
returns-clause-few g c s u run d other apart =
    let objects = g.O.Values.values c.args.objects.now in
    let placed = subst (ArePlaced objects) (one_sequence c.requires.run.4 other) c.requires.run.5 in
    absurd (omega (arith, few_sifted g.N.NodeStore.node (compared_at (g.C.Compares.order c.args.order.now) objects) objects (root_of c.args.other.now) (c.loop-count.invariant.sifting s u run d other placed apart), c.loop-count-test.false))
