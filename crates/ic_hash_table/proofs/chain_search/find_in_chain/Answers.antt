use Rattle.std.proofs.Common.{◌≡◌, ◌+◌, false, length, refl, sym, ap, ◌∙◌, arith}
use Rattle.ic_link_ops.proofs.Prelude.{next_between, releases_fewer, few_places}
use Rattle.ic_link_ops.proofs.SinglyLists.{successors_covered, members_uncleared}
use Rattle.ic_hash_table.specs.Searches.{matches}
use Rattle.ic_hash_table.proofs.ChainWalks.{passed_none, passed_more, stops_there, stops_last, done_all, done_length, done_fewer, rest_placed}
use Rattle.ic_hash_table.proofs.chain_search.find_in_chain.Goals as goal

pub loop-current-init : goal.loop-current-init
loop-current-init g c = record {
  passed = λ s shown. let k = passed_none shown.chain shown.head in (k.0, omega (arith, k.1));
  same = refl;
  hash = refl;
}

pub is_match-requires-clause-placed : goal.is_match-requires-clause-placed
is_match-requires-clause-placed g c =
    let r = c.requires.placed in
    let k = (rw c.in-Some.is at (c.loop-current.invariant.passed r.members r.shown)).0 in
    (rest_placed (g.O.Values.values c.args.objects.now) k r.placed).0

pub is_match-requires-clause-room : goal.is_match-requires-clause-room
is_match-requires-clause-room g c =
    let r = c.requires.placed in
    let k = rw c.in-Some.is at (c.loop-current.invariant.passed r.members r.shown) in
    omega (arith, k.1, done_fewer k.0, few_places r.members r.shown.distinct, c.requires.room)

pub returns-then-is_match-clause-stops : goal.returns-then-is_match-clause-stops
returns-then-is_match-clause-stops g c s shown =
    let k = (rw c.in-Some.is at (c.loop-current.invariant.passed s shown)).0 in
    stops_there k (ap (λ e. matches e (g.O.Values.values c.args.objects.now) c.in-Some.place) (sym c.loop-current.invariant.same) ∙ sym c.is_match.ensures.answer ∙ c.if-is_match.true)

pub returns-then-is_match-clause-looks : goal.returns-then-is_match-clause-looks
returns-then-is_match-clause-looks g c s shown =
    let k = rw c.in-Some.is at (c.loop-current.invariant.passed s shown) in
    record {
      looks = length k.0.walk.done + 1;
      counted = omega (arith, c.is_match.ensures.counted, k.1);
      few = done_fewer k.0;
      some = λ one. omega arith;
      same = c.is_match.ensures.same ∙ c.loop-current.invariant.same;
    }

pub loop-current-smaller : goal.loop-current-smaller
loop-current-smaller g c =
    let covered = successors_covered g.L.SinglyLinkedListOps.successor g.L.LinkOps.table g.met.L.LinkOps.linked_is_covered g.met.L.SinglyLinkedListOps.linked_alike c.args.links.now in
    let r = c.requires.placed in
    let k = (rw c.in-Some.is at (c.loop-current.invariant.passed r.members r.shown)).0 in
    let fails : matches (g.P.Probe.equal c.args.probe.now) (g.O.Values.values c.args.objects.now) c.in-Some.place ≡ false =
    ap (λ e. matches e (g.O.Values.values c.args.objects.now) c.in-Some.place) (sym c.loop-current.invariant.same) ∙ sym c.is_match.ensures.answer ∙ c.if-is_match.false in
    let more = passed_more r.shown.distinct k fails (c.next-current.ensures ∙ (next_between k.walk).next) in
    rw c.in-Some.is
    (releases_fewer (members_uncleared covered r.shown.distinct k.walk) (members_uncleared covered r.shown.distinct more.0.walk) more.1)

pub loop-current-preserved : goal.loop-current-preserved
loop-current-preserved g c = record {
  passed = λ s shown.
      let k = rw c.in-Some.is at (c.loop-current.invariant.passed s shown) in
      let fails : matches (g.P.Probe.equal c.args.probe.now) (g.O.Values.values c.args.objects.now) c.in-Some.place ≡ false =
      ap (λ e. matches e (g.O.Values.values c.args.objects.now) c.in-Some.place) (sym c.loop-current.invariant.same) ∙ sym c.is_match.ensures.answer ∙ c.if-is_match.false in
      let more = passed_more shown.distinct k.0 fails (c.next-current.ensures ∙ (next_between k.0.walk).next) in
      (more.0, omega (arith, c.is_match.ensures.counted, k.1, more.2));
  same = c.is_match.ensures.same ∙ c.loop-current.invariant.same;
  hash = c.is_match.ensures.hash ∙ c.loop-current.invariant.hash;
}

pub returns-clause-stops : goal.returns-clause-stops
returns-clause-stops g c s shown = stops_last (c.loop-current.invariant.passed s shown).0 c.in_default.is

pub returns-clause-looks : goal.returns-clause-looks
returns-clause-looks g c s shown =
    let k = c.loop-current.invariant.passed s shown in
    record { looks = length k.0.walk.done; counted = k.1; few = done_length k.0; some = λ one. omega (arith, one, done_all k.0 c.in_default.is); same = c.loop-current.invariant.same }
