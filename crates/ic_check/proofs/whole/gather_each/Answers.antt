use Rattle.std.proofs.Common.{◌+◌, ◌∷◌, drop, refl, sym, ap, ◌∙◌, arith}
use Rattle.std.proofs.lemmas.List.{drop_more}
use Rattle.ic_check.proofs.Marking.{few_gathered, gathers_one, not_gathered, gathered, drop_none, only_on}
use Rattle.ic_check.proofs.whole.gather_each.Goals as goal

pub returns-in_default-clause-gathered : goal.returns-in_default-clause-gathered
returns-in_default-clause-gathered g c =
    not_gathered (λ x. g.C.Gather.Represents x (g.L.LinkOps.table c.args.links.now)) c.loop-index.invariant.gathers
    (drop_more c.args.collections.now c.loop-index.index c.index-collections-index.result (omega (arith, c.loop-index-test.true))
    ∙ ap (λ (x : g.row.C.Denot). x ∷ drop (c.loop-index.index + 1) c.args.collections.now) (sym c.index-collections-index.is)) c.in_default.ensures.gathered

pub overflow_add-count : goal.overflow_add-count
overflow_add-count g c =
    let few = few_gathered (λ x. g.C.Gather.Represents x (g.L.LinkOps.table c.args.links.now)) c.loop-index.invariant.gathers
    (drop_more c.args.collections.now c.loop-index.index c.index-collections-index.result (omega (arith, c.loop-index-test.true))
    ∙ ap (λ (x : g.row.C.Denot). x ∷ drop (c.loop-index.index + 1) c.args.collections.now) (sym c.index-collections-index.is))
    (λ s h. g.met.C.Gather.represents_distinct _ _ s h) c.in-Some.ensures.gathered in
    omega (arith, few)

pub loop-index-preserved : goal.loop-index-preserved
loop-index-preserved g c = record {
  gathers = gathers_one (λ x. g.C.Gather.Represents x (g.L.LinkOps.table c.args.links.now)) c.loop-index.invariant.gathers
      (drop_more c.args.collections.now c.loop-index.index c.index-collections-index.result (omega (arith, c.loop-index-test.true))
      ∙ ap (λ (x : g.row.C.Denot). x ∷ drop (c.loop-index.index + 1) c.args.collections.now) (sym c.index-collections-index.is))
      (λ s r h k. g.met.C.Gather.represents_one _ _ s r h k) (λ s h. g.met.C.Gather.represents_distinct _ _ s h) c.in-Some.ensures.gathered refl;
  only = only_on g.L.LinkOps.linked (g.L.LinkOps.table c.args.links.now) c.loop-index.invariant.only c.in-Some.ensures.only;
  low = omega (arith, c.loop-index-test.true);
}

pub returns-in_default-clause-only : goal.returns-in_default-clause-only
returns-in_default-clause-only g c = only_on g.L.LinkOps.linked (g.L.LinkOps.table c.args.links.now) c.loop-index.invariant.only c.in_default.ensures.only

pub returns-clause-gathered : goal.returns-clause-gathered
returns-clause-gathered g c =
    gathered (λ x. g.C.Gather.Represents x (g.L.LinkOps.table c.args.links.now)) c.loop-index.invariant.gathers
    (drop_none c.args.collections.now c.loop-index.index (omega (arith, c.loop-index-test.false)))
