use Rattle.std.proofs.Common.{◌∷◌, ◌∙◌, ap, sym, IsSome, drop}
use Rattle.ic_link_ops.proofs.SequenceLemmas.{nothing_first}
use Rattle.ic_list_algorithms.proofs.AskedLemmas.{asked_begins, asked_turns, asked_all}
use Rattle.ic_unsafe_ref.specs.Objects.{object_at}
use Rattle.ic_list_algorithms.specs.Asked.{AsksBeside}
use Rattle.ic_list_algorithms.specs.Sifts.{keep_at}
use Rattle.ic_list_algorithms.proofs.SiftLemmas.{no_keep, sift_begins, sift_at, sift_represented, sift_holds, sift_held, sift_whole, sift_ends, sift_turns, sift_fewer, placed_here}
use Rattle.ic_list_algorithms.proofs.sift.sift.Goals as goal

pub loop-current-init : goal.loop-current-init
loop-current-init g c = record {
  ready = c.requires.ready;
  obeys = λ test h. h;
  sifts = λ s test shown placed.
      let k = sift_begins g.K.ForwardLinks.Between g.K.ListKind.kept g.L.LinkOps.table g.L.LinkOps.Trace (λ p. IsSome (object_at (g.O.Values.values c.args.objects.now) p))
      (g.S.Keeps.obeys c.args.keep.now test) (keep_at test (g.O.Values.values c.args.objects.now)) (g.met.L.LinkOps.does_nothing _) shown c.first-current.ensures placed in
      (k.0, asked_begins (AsksBeside (g.O.Values.values c.args.objects.now) g.S.Keeps.asks) c.args.keep.now s k.0.done k.0.rest k.1 k.2);
}

pub sift_one-last_kept-requires-clause-ready : goal.sift_one-last_kept-requires-clause-ready
sift_one-last_kept-requires-clause-ready g c = c.loop-current.invariant.ready

pub sift_one-last_kept-requires-clause-shown : goal.sift_one-last_kept-requires-clause-shown
sift_one-last_kept-requires-clause-shown g c =
    let p = c.requires.placed in
    let k = (c.loop-current.invariant.sifts p.members no_keep p.shown p.placed).0 in
    (k.done, drop 1 k.rest, sift_represented g.K.ForwardLinks.Between g.K.ListKind.kept g.L.LinkOps.table g.L.LinkOps.Trace (λ p. IsSome (object_at (g.O.Values.values c.args.objects.now) p)) (g.S.Keeps.obeys c.args.keep.now no_keep) (keep_at no_keep (g.O.Values.values c.args.objects.now)) k c.in-Some.is, k.keeps)

pub sift_one-last_kept-requires-clause-placed : goal.sift_one-last_kept-requires-clause-placed
sift_one-last_kept-requires-clause-placed g c =
    let p = c.requires.placed in
    sift_holds g.K.ForwardLinks.Between g.K.ListKind.kept g.L.LinkOps.table g.L.LinkOps.Trace (λ p. IsSome (object_at (g.O.Values.values c.args.objects.now) p)) (g.S.Keeps.obeys c.args.keep.now no_keep) (keep_at no_keep (g.O.Values.values c.args.objects.now)) (c.loop-current.invariant.sifts p.members no_keep p.shown p.placed).0 c.in-Some.is

pub sift_one-last_kept-requires-clause-prev_placed : goal.sift_one-last_kept-requires-clause-prev_placed
sift_one-last_kept-requires-clause-prev_placed g c q on =
    let p = c.requires.placed in
    sift_held g.K.ForwardLinks.Between g.K.ListKind.kept g.L.LinkOps.table g.L.LinkOps.Trace (λ p. IsSome (object_at (g.O.Values.values c.args.objects.now) p)) (g.S.Keeps.obeys c.args.keep.now no_keep) (keep_at no_keep (g.O.Values.values c.args.objects.now)) (c.loop-current.invariant.sifts p.members no_keep p.shown p.placed).0 on

pub loop-current-smaller : goal.loop-current-smaller
loop-current-smaller g c =
    let p = c.requires.placed in
    let k = (c.loop-current.invariant.sifts p.members no_keep p.shown p.placed).0 in
    let one = c.sift_one-last_kept.ensures.sifted in
    let m = sift_turns g.K.ForwardLinks.Between g.K.ListKind.kept g.L.LinkOps.table g.L.LinkOps.Trace (λ p. IsSome (object_at (g.O.Values.values c.args.objects.now) p)) (g.S.Keeps.obeys c.args.keep.now no_keep) (keep_at no_keep (g.O.Values.values c.args.objects.now)) g.met.L.LinkOps.does_on k (sift_at g.K.ForwardLinks.Between g.K.ListKind.kept g.L.LinkOps.table g.L.LinkOps.Trace (λ p. IsSome (object_at (g.O.Values.values c.args.objects.now) p)) (g.S.Keeps.obeys c.args.keep.now no_keep) (keep_at no_keep (g.O.Values.values c.args.objects.now)) k c.in-Some.is) one.0 (λ law. one.1 no_keep (c.loop-current.invariant.obeys no_keep law))
    (one.2 k.done (drop 1 k.rest) (sift_represented g.K.ForwardLinks.Between g.K.ListKind.kept g.L.LinkOps.table g.L.LinkOps.Trace (λ p. IsSome (object_at (g.O.Values.values c.args.objects.now) p)) (g.S.Keeps.obeys c.args.keep.now no_keep) (keep_at no_keep (g.O.Values.values c.args.objects.now)) k c.in-Some.is) k.keeps) in
    sift_fewer g.K.ForwardLinks.Between g.K.ListKind.kept g.L.LinkOps.table g.L.LinkOps.Trace (λ p. IsSome (object_at (g.O.Values.values c.args.objects.now) p)) (g.S.Keeps.obeys c.args.keep.now no_keep) (keep_at no_keep (g.O.Values.values c.args.objects.now)) g.K.ForwardLinks.step g.met.K.ForwardLinks.leads (λ t q b a h. g.met.L.LinkOps.linked_is_covered t q (g.met.K.ForwardLinks.between_linked _ b a h)) k m.0 m.1

pub loop-current-preserved : goal.loop-current-preserved
loop-current-preserved g c =
    let one = c.sift_one-last_kept.ensures.sifted in
    record {
      ready = c.sift_one-last_kept.ensures.again;
      obeys = λ test h. c.sift_one-last_kept.ensures.obeys test (c.loop-current.invariant.obeys test h);
      sifts = λ s test shown placed.
          let i = c.loop-current.invariant.sifts s test shown placed in
          let k = i.0 in
          let at = sift_at g.K.ForwardLinks.Between g.K.ListKind.kept g.L.LinkOps.table g.L.LinkOps.Trace (λ p. IsSome (object_at (g.O.Values.values c.args.objects.now) p)) (g.S.Keeps.obeys c.args.keep.now test) (keep_at test (g.O.Values.values c.args.objects.now)) k c.in-Some.is in
          let m = sift_turns g.K.ForwardLinks.Between g.K.ListKind.kept g.L.LinkOps.table g.L.LinkOps.Trace (λ p. IsSome (object_at (g.O.Values.values c.args.objects.now) p)) (g.S.Keeps.obeys c.args.keep.now test) (keep_at test (g.O.Values.values c.args.objects.now)) g.met.L.LinkOps.does_on k at one.0 (λ law. one.1 test (c.loop-current.invariant.obeys test law))
          (one.2 k.done (drop 1 k.rest) (sift_represented g.K.ForwardLinks.Between g.K.ListKind.kept g.L.LinkOps.table g.L.LinkOps.Trace (λ p. IsSome (object_at (g.O.Values.values c.args.objects.now) p)) (g.S.Keeps.obeys c.args.keep.now test) (keep_at test (g.O.Values.values c.args.objects.now)) k c.in-Some.is) k.keeps) in (
            m.0,
            asked_turns (AsksBeside (g.O.Values.values c.args.objects.now) g.S.Keeps.asks) c.args.keep.now s k.done k.rest m.0.done m.0.rest c.loop-current.prev c.sift_one-last_kept.result.0 c.loop-current.keep
                c.sift_one-last_kept.new.keep c.in-Some.member one.0 i.1 (at ∙ ap (λ l. c.in-Some.member ∷ l) (sym m.3)) one.3 m.2 k.keeps m.0.keeps,
          );
    }

pub returns : goal.returns
returns g c = record {
  sifted = λ s test shown.
      sift_ends g.K.ForwardLinks.Between g.K.ListKind.kept g.L.LinkOps.table g.L.LinkOps.Trace (λ p. IsSome (object_at (g.O.Values.values c.args.objects.now) p)) (g.S.Keeps.obeys c.args.keep.now test) (keep_at test (g.O.Values.values c.args.objects.now)) (c.loop-current.invariant.sifts s test shown (placed_here g.met.K.ForwardLinks.leads c.requires.placed shown)).0 c.in_default.is;
  asked = λ s shown.
      let i = c.loop-current.invariant.sifts s no_keep shown (placed_here g.met.K.ForwardLinks.leads c.requires.placed shown) in
      let end = sift_whole g.K.ForwardLinks.Between g.K.ListKind.kept g.L.LinkOps.table g.L.LinkOps.Trace (λ p. IsSome (object_at (g.O.Values.values c.args.objects.now) p)) (g.S.Keeps.obeys c.args.keep.now no_keep) (keep_at no_keep (g.O.Values.values c.args.objects.now)) i.0 c.in_default.is in
      (i.0.done, end, asked_all (AsksBeside (g.O.Values.values c.args.objects.now) g.S.Keeps.asks) c.args.keep.now s i.0.done i.0.rest c.loop-current.prev c.loop-current.keep i.1 (nothing_first i.0.rest (sym c.in_default.is ∙ i.0.at)));
}
