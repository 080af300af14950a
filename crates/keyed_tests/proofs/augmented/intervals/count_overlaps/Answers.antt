use Rattle.std.proofs.Common.{List, map, subst, arith, nat_cmp}
use Rattle.ic_link_ops.specs.Prelude.{Place, ArePlaced}
use Rattle.ic_link_ops.specs.RedBlackTree.{Represents}
use Rattle.ic_rbtree.specs.Borders.{IsSorted}
use Rattle.ic_augmented.specs.Prelude.{RepresentsAugmented, greatest, start_in}
use Rattle.keyed_tests.proofs.Intervals.{in_order_at, none_counted, found, in_front, parted, one_more, few_counted, all_counted}
use Rattle.keyed_tests.proofs.augmented.intervals.count_overlaps.Goals as goal

pub first_overlap-at-requires : goal.first_overlap-at-requires
first_overlap-at-requires g c = let p = c.requires.intervals.sorted.placed in (p.members, p.shown, p.placed)

pub loop-at-init : goal.loop-at-init
loop-at-init g c = record { counted = λ s shown. none_counted _ s (c.first_overlap-at.ensures s shown (in_order_at shown.shows c.requires.intervals.sorted).1) }

pub overflow_add-count : goal.overflow_add-count
overflow_add-count g c =
    let q = c.requires.intervals.ready in
    let few = few_counted _ q.members (c.loop-at.invariant.counted q.members q.shown) c.in-Some.is q.shown.shows.held.distinct in
    omega (arith, few)

pub next_overlap-at-requires : goal.next_overlap-at-requires
next_overlap-at-requires g c =
    let q = c.requires.intervals.ready in
    let k = c.loop-at.invariant.counted q.members q.shown in
    let parts = parted _ q.members k c.in-Some.is in (
      _,
      in_front _ q.members k c.in-Some.is,
      (found _ q.members k c.in-Some.is).back,
      subst (Represents g.L.RBTreeOps.node (g.L.LinkOps.table c.args.summed.now.links) _) parts q.shown.shows,
      subst (ArePlaced (g.L.Values.values c.args.summed.now.links)) parts (in_order_at q.shown.shows c.requires.intervals.sorted).0,
    )

pub loop-at-smaller : goal.loop-at-smaller
loop-at-smaller g c =
    let q = c.requires.intervals.ready in
    let few = few_counted _ q.members (c.loop-at.invariant.counted q.members q.shown) c.in-Some.is q.shown.shows.held.distinct in
    omega (arith, few)

pub loop-at-preserved : goal.loop-at-preserved
loop-at-preserved g c = record {
  counted = λ s shown.
      let k = c.loop-at.invariant.counted s shown in
      let parts = parted _ s k c.in-Some.is in
      let starts = g.L.Values.values c.args.summed.now.links in
      one_more _ s k c.in-Some.is
      (c.next_overlap-at.ensures _ (in_front _ s k c.in-Some.is) (found _ s k c.in-Some.is).back
      (subst (RepresentsAugmented g.L.RBTreeOps.node (greatest c.args.summed.now.summaries) (g.L.LinkOps.table c.args.summed.now.links) _) parts shown)
      (subst (λ (t : List Place). IsSorted nat_cmp (map (start_in starts) t)) parts (in_order_at shown.shows c.requires.intervals.sorted).1));
}

pub returns : goal.returns
returns g c = record { counted = λ s shown. all_counted _ s (c.loop-at.invariant.counted s shown) c.in_default.is }
