use Rattle.std.proofs.Common.{IsSome, refl, sym, drop}
use Rattle.ic_unsafe_ref.specs.Objects.{object_at}
use Rattle.ic_list_algorithms.specs.Asked.{AsksAfter}
use Rattle.ic_list_algorithms.specs.Runs.{less_at}
use Rattle.ic_list_algorithms.proofs.AskedLemmas.{ordered_begins, ordered_turns, ordered_stops, ordered_all}
use Rattle.ic_list_algorithms.proofs.SortedFronts.{places_are_ordered}
use Rattle.ic_list_algorithms.proofs.WalkLemmas.{walk_begins, walk_ends, walk_at, walk_between, walk_goes, walk_fewer, walk_holds, walk_held, order_goes, order_breaks, order_ends, tells_order}
use Rattle.ic_list_algorithms.proofs.walks.is_sorted_by.Goals as goal

pub loop-current-init : goal.loop-current-init
loop-current-init g c = record {
  ready = c.requires.ready;
  obeys = λ lt h. h;
  passed = λ s shown.
      let k = walk_begins shown c.first-current.ensures in
      (k.0, (λ lt h. rw k.2 refl), ordered_begins (AsksAfter (g.O.Values.values c.args.objects.now) g.C.Precedes.asks) c.args.order.now s k.0.rest k.2);
}

pub may_stand_after-requires : goal.may_stand_after-requires
may_stand_after-requires g c =
    let p = c.requires.placed in
    let k = c.loop-current.invariant.passed p.members p.shown in
    record {
      ready = c.loop-current.invariant.ready;
      placed = walk_holds (λ p. IsSome (object_at (g.O.Values.values c.args.objects.now) p)) k.0 c.in-Some.is p.placed;
      prev = λ q on. walk_held (λ p. IsSome (object_at (g.O.Values.values c.args.objects.now) p)) k.0 on p.placed;
    }

pub next-current-requires : goal.next-current-requires
next-current-requires g c =
    let k = c.loop-current.invariant.passed c.requires.placed.members c.requires.placed.shown in
    record { linked = g.met.K.ForwardLinks.between_linked _ _ _ (walk_between k.0 c.in-Some.is) }

pub loop-current-smaller : goal.loop-current-smaller
loop-current-smaller g c =
    let k = c.loop-current.invariant.passed c.requires.placed.members c.requires.placed.shown in
    walk_fewer g.K.ForwardLinks.step g.met.K.ForwardLinks.leads (g.L.LinkOps.table c.args.links.now)
    (λ q b a h. g.met.L.LinkOps.linked_is_covered _ q (g.met.K.ForwardLinks.between_linked _ b a h)) c.requires.placed.shown.distinct k.0 c.in-Some.is c.next-current.ensures

pub returns-then-not-may_stand_after-clause-neighbors : goal.returns-then-not-may_stand_after-clause-neighbors
returns-then-not-may_stand_after-clause-neighbors g c s lt shown h =
    let k = c.loop-current.invariant.passed s shown in
    order_breaks (less_at lt (g.O.Values.values c.args.objects.now)) c.loop-current.prev (k.1 lt h) (walk_at k.0 c.in-Some.is).0
    (sym (c.if-not-may_stand_after.ensures.answer lt (c.loop-current.invariant.obeys lt h)))

pub returns-then-not-may_stand_after-clause-ordered : goal.returns-then-not-may_stand_after-clause-ordered
returns-then-not-may_stand_after-clause-ordered g c s lt shown law =
    let k = c.loop-current.invariant.passed s shown in
    tells_order (less_at lt (g.O.Values.values c.args.objects.now)) (places_are_ordered lt (g.O.Values.values c.args.objects.now) law.1) s
    (order_breaks (less_at lt (g.O.Values.values c.args.objects.now)) c.loop-current.prev (k.1 lt law.0) (walk_at k.0 c.in-Some.is).0
    (sym (c.if-not-may_stand_after.ensures.answer lt (c.loop-current.invariant.obeys lt law.0))))

pub returns-then-not-may_stand_after-clause-asked : goal.returns-then-not-may_stand_after-clause-asked
returns-then-not-may_stand_after-clause-asked g c s shown =
    let k = c.loop-current.invariant.passed s shown in
    ordered_stops (AsksAfter (g.O.Values.values c.args.objects.now) g.C.Precedes.asks) c.args.order.now s k.0.rest c.loop-current.prev c.loop-current.order k.2
    c.may_stand_after.new.order c.in-Some.member (drop 1 k.0.rest) (walk_at k.0 c.in-Some.is).0 c.if-not-may_stand_after.ensures.asked

pub returns-clause-asked : goal.returns-clause-asked
returns-clause-asked g c s shown =
    let k = c.loop-current.invariant.passed s shown in
    ordered_all (AsksAfter (g.O.Values.values c.args.objects.now) g.C.Precedes.asks) c.args.order.now s k.0.rest c.loop-current.prev c.loop-current.order k.2
    (walk_ends k.0 c.in_default.is).0

pub loop-current-preserved : goal.loop-current-preserved
loop-current-preserved g c = record {
  ready = c.may_stand_after.ensures.again;
  obeys = λ lt h. c.may_stand_after.ensures.obeys lt (c.loop-current.invariant.obeys lt h);
  passed = λ s shown.
      let k = c.loop-current.invariant.passed s shown in
      let m = walk_goes g.K.ForwardLinks.step g.met.K.ForwardLinks.leads k.0 c.in-Some.is c.next-current.ensures in (
        m.0,
        (
            λ lt h.
            order_goes (less_at lt (g.O.Values.values c.args.objects.now)) c.loop-current.prev (k.1 lt h) m.1
            (sym (c.if-not-may_stand_after.ensures.answer lt (c.loop-current.invariant.obeys lt h)))
            ),
        ordered_turns (AsksAfter (g.O.Values.values c.args.objects.now) g.C.Precedes.asks) c.args.order.now s k.0.rest c.loop-current.prev c.loop-current.order k.2
            c.may_stand_after.new.order c.in-Some.member m.0.rest m.1 c.if-not-may_stand_after.ensures.asked,
      );
}

pub returns-clause-neighbors : goal.returns-clause-neighbors
returns-clause-neighbors g c s lt shown h =
    let k = c.loop-current.invariant.passed s shown in
    order_ends (less_at lt (g.O.Values.values c.args.objects.now)) c.loop-current.prev (k.1 lt h) (walk_ends k.0 c.in_default.is).0

pub returns-clause-ordered : goal.returns-clause-ordered
returns-clause-ordered g c s lt shown law =
    let k = c.loop-current.invariant.passed s shown in
    tells_order (less_at lt (g.O.Values.values c.args.objects.now)) (places_are_ordered lt (g.O.Values.values c.args.objects.now) law.1) s
    (order_ends (less_at lt (g.O.Values.values c.args.objects.now)) c.loop-current.prev (k.1 lt law.0) (walk_ends k.0 c.in_default.is).0)
