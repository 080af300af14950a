use Rattle.std.proofs.Common.{length, ap, arith}
use Rattle.ic_list_algorithms.proofs.WalkLemmas.{walk_begins, walk_between, walk_goes, walk_fewer, nth_is, gap_here, all_few, nth_beyond, gap_beyond, one_left}
use Rattle.ic_list_algorithms.proofs.whole.gap_at.Goals as goal

pub loop-current-init : goal.loop-current-init
loop-current-init g c = record { passed = λ s shown. let k = walk_begins shown c.first-current.ensures in (k.0, omega (arith, ap length k.1)) }

pub returns-then-left-eq0 : goal.returns-then-left-eq0
returns-then-left-eq0 g c s shown =
    let k = c.loop-current.invariant.passed s shown in
    (gap_here k.0 (omega (arith, k.1, c.if-left-eq0.true)), nth_is k.0 c.in-Some.is (omega (arith, k.1, c.if-left-eq0.true)))

pub next-current-requires : goal.next-current-requires
next-current-requires g c =
    let k = c.loop-current.invariant.passed c.requires.shown.0 c.requires.shown.1 in
    record { linked = g.met.K.ForwardLinks.between_linked _ _ _ (walk_between k.0 c.in-Some.is) }

pub loop-current-smaller : goal.loop-current-smaller
loop-current-smaller g c =
    let k = c.loop-current.invariant.passed c.requires.shown.0 c.requires.shown.1 in
    walk_fewer g.K.ForwardLinks.step g.met.K.ForwardLinks.leads (g.L.LinkOps.table c.args.links.now)
    (λ q b a h. g.met.L.LinkOps.linked_is_covered _ q (g.met.K.ForwardLinks.between_linked _ b a h)) c.requires.shown.1.distinct k.0 c.in-Some.is c.next-current.ensures

pub loop-current-preserved : goal.loop-current-preserved
loop-current-preserved g c = record {
  passed = λ s shown.
      let k = c.loop-current.invariant.passed s shown in
      let m = walk_goes g.K.ForwardLinks.step g.met.K.ForwardLinks.leads k.0 c.in-Some.is c.next-current.ensures in
      (m.0, one_left k.0.done c.in-Some.member k.1 m.2 (omega (arith, c.if-left-eq0.false)));
}

pub returns : goal.returns
returns g c s shown =
    let k = c.loop-current.invariant.passed s shown in
    let few = all_few k.0 _ c.in_default.is k.1 in
    (gap_beyond k.0 c.in_default.is few, nth_beyond k.0 c.in_default.is few)
