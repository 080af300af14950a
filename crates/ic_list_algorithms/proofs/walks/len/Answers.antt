use Rattle.std.proofs.Common.{length, length-append, sym, ap, ◌∙◌, arith}
use Rattle.ic_link_ops.proofs.Walks.{few_places}
use Rattle.ic_list_algorithms.proofs.WalkLemmas.{walk_begins, walk_ends, walk_between, walk_goes, walk_fewer, one_more}
use Rattle.ic_list_algorithms.proofs.walks.len.Goals as goal

pub loop-current-init : goal.loop-current-init
loop-current-init g c = record { passed = λ s shown. let k = walk_begins shown c.first-current.ensures in (k.0, sym (ap length k.1)) }

pub overflow_add-count : goal.overflow_add-count
overflow_add-count g c =
    let shown = c.requires.shown.1 in
    let k = c.loop-current.invariant.passed c.requires.shown.0 shown in
    omega (arith, k.1, few_places c.requires.shown.0 shown.distinct, ap length k.0.parts, length-append k.0.done k.0.rest)

pub next-current-requires : goal.next-current-requires
next-current-requires g c =
    let k = c.loop-current.invariant.passed c.requires.shown.0 c.requires.shown.1 in
    record { linked = g.met.K.ForwardLinks.between_linked _ _ _ (walk_between k.0 c.in-Some.is) }

pub loop-current-smaller : goal.loop-current-smaller
loop-current-smaller g c =
    let k = c.loop-current.invariant.passed c.requires.shown.0 c.requires.shown.1 in
    walk_fewer g.K.ForwardLinks.step g.met.K.ForwardLinks.leads (g.L.LinkOps.table c.args.links.now)
    (λ q b a h. g.met.L.LinkOps.linked_is_covered _ q (g.met.K.ForwardLinks.between_linked _ b a h)) c.requires.shown.1.distinct k.0 c.in-Some.is c.next-current.ensures

pub loop-current-preserved : goal.loop-current-preserved
loop-current-preserved g c = record {
  passed = λ s shown.
      let k = c.loop-current.invariant.passed s shown in
      let m = walk_goes g.K.ForwardLinks.step g.met.K.ForwardLinks.leads k.0 c.in-Some.is c.next-current.ensures in
      (m.0, one_more k.0.done c.in-Some.member k.1 m.2);
}

pub returns : goal.returns
returns g c s shown =
    let k = c.loop-current.invariant.passed s shown in k.1 ∙ ap length (walk_ends k.0 c.in_default.is).1
