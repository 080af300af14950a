use Rattle.std.proofs.Common.{sym, ◌∙◌}
use Rattle.ic_link_ops.proofs.Clearing.{next_between, releases_fewer}
use Rattle.ic_link_ops.proofs.SinglyLists.{successors_covered, members_uncleared}
use Rattle.ic_hash_table.proofs.ChainWalks.{passed_none, passed_more, stops_there, stops_last}
use Rattle.ic_hash_table.proofs.chain_search.find_place_in_chain.Goals as goal

pub loop-current-init : goal.loop-current-init
loop-current-init g c = record { passed = λ s shown. (passed_none shown.chain shown.head).0 }

pub returns-then-eq : goal.returns-then-eq
returns-then-eq g c = record {
  stops = λ s shown.
      let k = rw c.in-Some.is at (c.loop-current.invariant.passed s shown) in
      stops_there k (sym c.eq.ensures ∙ c.if-eq.true);
}

pub loop-current-smaller : goal.loop-current-smaller
loop-current-smaller g c =
    let covered = successors_covered g.L.SinglyLinkedListOps.successor g.L.LinkOps.table g.met.L.LinkOps.linked_is_covered g.met.L.SinglyLinkedListOps.linked_alike c.args.links.now in
    let shown = c.requires.shown.1 in
    let k = rw c.in-Some.is at (c.loop-current.invariant.passed c.requires.shown.0 shown) in
    let more = passed_more shown.distinct k (sym c.eq.ensures ∙ c.if-eq.false) (c.next-current.ensures ∙ (next_between k.walk).next) in
    rw c.in-Some.is
    (releases_fewer (members_uncleared covered shown.distinct k.walk) (members_uncleared covered shown.distinct more.0.walk) more.1)

pub loop-current-preserved : goal.loop-current-preserved
loop-current-preserved g c = record {
  passed = λ s shown.
      let k = rw c.in-Some.is at (c.loop-current.invariant.passed s shown) in
      (passed_more shown.distinct k (sym c.eq.ensures ∙ c.if-eq.false) (c.next-current.ensures ∙ (next_between k.walk).next)).0;
}

pub returns : goal.returns
returns g c = record { stops = λ s shown. stops_last (c.loop-current.invariant.passed s shown) c.in_default.is }
