use Rattle.std.proofs.Common.{◌≡◌, ◌+◌, ◌<◌, suc, drop, length, sym, ◌∙◌, subst, arith}
use Rattle.std.specs.Bool.{⊤}
use Rattle.ic_hash_table.specs.Chains.{AreChained}
use Rattle.ic_hash_table.proofs.FoundMembers.{none_of}
use Rattle.ic_hash_table.proofs.NextMembers.{past_empty, at_first, at_end}
use Rattle.ic_hash_table.proofs.steps.first_from.Goals as goal

pub loop-at-init : goal.loop-at-init
loop-at-init g c = record { left = λ s chained. chained }

pub returns-then-is_some : goal.returns-then-is_some
returns-then-is_some g c s chained =
    let in_bounds : c.loop-at.at < length (g.B.BucketRow.fronts c.args.buckets.now) = omega (arith, c.loop-at-test.true, c.count-count.ensures) in
    c.front-front.ensures
    ∙ at_first g.L.SinglyLinkedListOps.successor (g.L.LinkOps.table c.args.links.now) c.loop-at.at (g.B.BucketRow.fronts c.args.buckets.now) s in_bounds
    (rw (← c.front-front.ensures) (sym c.is_some.ensures ∙ c.if-is_some.true)) (c.loop-at.invariant.left s chained)

pub loop-at-preserved : goal.loop-at-preserved
loop-at-preserved g c = record {
  left = λ s chained.
      let in_bounds : c.loop-at.at < length (g.B.BucketRow.fronts c.args.buckets.now) = omega (arith, c.loop-at-test.true, c.count-count.ensures) in
      let next : suc c.loop-at.at ≡ c.loop-at.at + 1 = omega arith in
      subst (λ n. AreChained g.L.SinglyLinkedListOps.successor (λ i p. ⊤) (g.L.LinkOps.table c.args.links.now) n (drop n (g.B.BucketRow.fronts c.args.buckets.now)) s) next
      (past_empty g.L.SinglyLinkedListOps.successor (g.L.LinkOps.table c.args.links.now) c.loop-at.at (g.B.BucketRow.fronts c.args.buckets.now) s in_bounds
      (sym c.front-front.ensures ∙ none_of c.front-front.result (sym c.is_some.ensures ∙ c.if-is_some.false)) (c.loop-at.invariant.left s chained));
}

pub returns : goal.returns
returns g c s chained =
    at_end g.L.SinglyLinkedListOps.successor (g.L.LinkOps.table c.args.links.now) c.loop-at.at (g.B.BucketRow.fronts c.args.buckets.now) s (omega (arith, c.loop-at-test.false, c.count-count.ensures)) (c.loop-at.invariant.left s chained)
