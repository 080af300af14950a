use Rattle.std.proofs.Common.{◌≡◌, IsSome, drop, length, length-append, refl, sym, ap, ◌∙◌, arith, of_calls}
use Rattle.std.specs.Fn.{CalledAt}
use Rattle.std.proofs.lemmas.Fn.{called_at}
use Rattle.ic_list_algorithms.specs.Asked.{AsksAt}
use Rattle.ic_list_algorithms.proofs.AskedLemmas.{no_more, no_all}
use Rattle.std.proofs.slice.Orders.{answers_next}
use Rattle.ic_unsafe_ref.specs.Objects.{object_at}
use Rattle.ic_link_ops.proofs.Walks.{few_places}
use Rattle.ic_list_algorithms.specs.Walks.{test_at}
use Rattle.ic_list_algorithms.proofs.WalkLemmas.{walk_begins, walk_ends, walk_at, walk_between, walk_goes, walk_fewer, walk_holds, one_more, nowhere_more, nowhere_all, test_there}
use Rattle.ic_list_algorithms.proofs.walks.find_first.Goals as goal

pub loop-current-init : goal.loop-current-init
loop-current-init g c = record {
  callable = c.requires.callable;
  answers = λ holds h. h;
  passed = λ s shown. let k = walk_begins shown c.first-current.ensures in (k.0, sym (ap length k.1), (λ holds h. rw k.1 tt), rw k.1 refl);
}

pub value-requires : goal.value-requires
value-requires g c =
    let p = c.requires.placed in
    let k = c.loop-current.invariant.passed p.members p.shown in
    record { placed = walk_holds (λ p. IsSome (object_at (g.O.Values.values c.args.objects.now) p)) k.0 c.in-Some.is p.placed }

pub returns-then-found : goal.returns-then-found
returns-then-found g c = record {
  found = λ s holds shown computes.
      let k = c.loop-current.invariant.passed s shown in
      let e = answers_next g.F.FnMut (λ a r. r ≡ holds a.0.now) _ _ _ _ c.test-found.ensures (c.loop-current.invariant.answers holds computes) in
      record {
        front = k.0.done;
        back = drop 1 k.0.rest;
        parts = (walk_at k.0 c.in-Some.is).1;
        index = k.1;
        before = k.2 holds computes;
        here = test_there holds (g.O.Values.values c.args.objects.now) c.in-Some.member c.value.ensures (sym e.0) ∙ c.if-found.true;
      };
  asked = λ s shown.
      let k = c.loop-current.invariant.passed s shown in
      record {
        front = k.0.done;
        back = drop 1 k.0.rest;
        parts = (walk_at k.0 c.in-Some.is).1;
        index = k.1;
        then = c.loop-current.test;
        before = k.3;
        here = record { value = c.value.result.now; stands = c.value.ensures; asked = called_at g.F.FnMut c.test-found.ensures c.if-found.true };
      };
}

pub overflow_add-at : goal.overflow_add-at
overflow_add-at g c =
    let p = c.requires.placed in
    let k = c.loop-current.invariant.passed p.members p.shown in
    omega (arith, k.1, few_places p.members p.shown.distinct, ap length k.0.parts, length-append k.0.done k.0.rest)

pub next-current-requires : goal.next-current-requires
next-current-requires g c =
    let k = c.loop-current.invariant.passed c.requires.placed.members c.requires.placed.shown in
    record { linked = g.met.K.ForwardLinks.between_linked _ _ _ (walk_between k.0 c.in-Some.is) }

pub loop-current-smaller : goal.loop-current-smaller
loop-current-smaller g c =
    let k = c.loop-current.invariant.passed c.requires.placed.members c.requires.placed.shown in
    walk_fewer g.K.ForwardLinks.step g.met.K.ForwardLinks.leads (g.L.LinkOps.table c.args.links.now)
    (λ q b a h. g.met.L.LinkOps.linked_is_covered _ q (g.met.K.ForwardLinks.between_linked _ b a h)) c.requires.placed.shown.distinct k.0 c.in-Some.is c.next-current.ensures

pub loop-current-preserved : goal.loop-current-preserved
loop-current-preserved g c =
    record {
      callable = search of_calls parts 8;
      answers = λ holds computes. (answers_next g.F.FnMut (λ a r. r ≡ holds a.0.now) _ _ _ _ c.test-found.ensures (c.loop-current.invariant.answers holds computes)).1;
      passed = λ s shown.
          let k = c.loop-current.invariant.passed s shown in
          let m = walk_goes g.K.ForwardLinks.step g.met.K.ForwardLinks.leads k.0 c.in-Some.is c.next-current.ensures in (
            m.0,
            one_more k.0.done c.in-Some.member k.1 m.2,
            λ holds computes.
                let e = answers_next g.F.FnMut (λ a r. r ≡ holds a.0.now) _ _ _ _ c.test-found.ensures (c.loop-current.invariant.answers holds computes) in
                nowhere_more (test_at holds (g.O.Values.values c.args.objects.now)) k.0.done (k.2 holds computes) (test_there holds (g.O.Values.values c.args.objects.now) c.in-Some.member c.value.ensures (sym e.0) ∙ c.if-found.false) m.2,
            no_more (AsksAt (g.O.Values.values c.args.objects.now) (CalledAt g.F.FnMut)) c.args.test.now k.0.done c.loop-current.test c.test-found.new.self c.in-Some.member k.3 (record { value = c.value.result.now; stands = c.value.ensures; asked = called_at g.F.FnMut c.test-found.ensures c.if-found.false }) m.2,
          );
    }

pub returns : goal.returns
returns g c = record {
  found = λ s holds shown computes.
      let k = c.loop-current.invariant.passed s shown in
      nowhere_all (test_at holds (g.O.Values.values c.args.objects.now)) (walk_ends k.0 c.in_default.is).1 (k.2 holds computes);
  asked = λ s shown.
      let k = c.loop-current.invariant.passed s shown in
      no_all (AsksAt (g.O.Values.values c.args.objects.now) (CalledAt g.F.FnMut)) c.args.test.now c.loop-current.test (walk_ends k.0 c.in_default.is).1 k.3;
}
