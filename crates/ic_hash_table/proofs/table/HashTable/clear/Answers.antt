use Rattle.std.proofs.Common.{◌<◌, None, length, refl, sym, ap, ◌∙◌, subst, arith, length-set}
use Rattle.ic_hash_table.specs.Slots.{IsWellFormed}
use Rattle.ic_hash_table.proofs.EmptiedChains.{empties_none, next_chain, empties_more, none_below, all_none, all_done}
use Rattle.ic_hash_table.proofs.KeptBuckets.{keeps_buckets}
use Rattle.ic_hash_table.proofs.table.HashTable.clear.Goals as goal

pub loop-at-init : goal.loop-at-init
loop-at-init g c = record {
  adapter = refl;
  slots = refl;
  count = sym c.count-count.ensures;
  was = sym c.count-count.ensures;
  rewrites = g.met.B.BucketRow.rewrites_none c.args.self.now.buckets;
  in_bounds = omega arith;
  none = λ j less. absurd (omega (arith, less));
  each = λ s shown. empties_none g.L.SinglyLinkedListOps.successor g.L.LinkOps.table g.L.LinkOps.Trace g.met.L.LinkOps.does_nothing c.args.links.now (g.B.BucketRow.fronts c.args.self.now.buckets) s shown.chained;
}

pub clear_chain-requires-clause-shown : goal.clear_chain-requires-clause-shown
clear_chain-requires-clause-shown g c =
    let in_bounds : c.loop-at.at < length (g.B.BucketRow.fronts c.loop-at.self.buckets) = omega (arith, c.loop-at-test.true, c.loop-at.invariant.count) in
    let k = next_chain g.L.SinglyLinkedListOps.successor g.L.LinkOps.table g.L.LinkOps.Trace in_bounds (c.loop-at.invariant.each c.requires.shown.0 c.requires.shown.1) in
    (k.chain, k.shown)

pub loop-at-preserved : goal.loop-at-preserved
loop-at-preserved g c =
    let i = c.loop-at.invariant in
    let in_bounds : c.loop-at.at < length (g.B.BucketRow.fronts c.loop-at.self.buckets) = omega (arith, c.loop-at-test.true, i.count) in
    record {
      adapter = i.adapter;
      slots = i.slots;
      count = ap length c.clear_chain.ensures.empty ∙ length-set (g.B.BucketRow.fronts c.loop-at.self.buckets) c.loop-at.at None ∙ i.count;
      was = i.was;
      rewrites = g.met.B.BucketRow.rewrites_on _ _ _ i.rewrites c.clear_chain.ensures.rewrites;
      in_bounds = omega (arith, c.loop-at-test.true);
      none = rw c.clear_chain.ensures.empty (none_below c.loop-at.at (g.B.BucketRow.fronts c.loop-at.self.buckets) in_bounds i.none);
      each = λ s shown.
          let k = i.each s shown in
          let n = next_chain g.L.SinglyLinkedListOps.successor g.L.LinkOps.table g.L.LinkOps.Trace in_bounds k in
          rw c.clear_chain.ensures.empty
          (empties_more g.L.SinglyLinkedListOps.successor g.L.LinkOps.table g.L.LinkOps.Trace in_bounds k g.met.L.LinkOps.does_on c.clear_chain.new.links i.none shown.distinct
          (c.clear_chain.ensures.released n.chain n.shown) (c.clear_chain.ensures.frame n.chain n.shown));
    }

pub returns-clause-empty : goal.returns-clause-empty
returns-clause-empty g c =
    let i = c.loop-at.invariant in
    let shown = c.requires.shown.1 in
    record {
      none = all_none (g.B.BucketRow.fronts c.loop-at.self.buckets) (λ j less. i.none j (omega (arith, less, i.count, c.loop-at-test.false)));
      counted = refl;
      well_formed = subst IsWellFormed (sym i.slots) shown.well_formed;
      enough = omega (arith, shown.enough, ap (λ s. s.used) i.slots, i.count, i.was);
    }

pub returns-clause-released : goal.returns-clause-released
returns-clause-released g c s shown =
    let i = c.loop-at.invariant in
    all_done (i.each s shown) (all_none (g.B.BucketRow.fronts c.loop-at.self.buckets) (λ j less. i.none j (omega (arith, less, i.count, c.loop-at-test.false))))

pub returns-clause-kept : goal.returns-clause-kept
returns-clause-kept g c =
    let i = c.loop-at.invariant in
    record {
      chains = record {
        adapter = i.adapter;
        buckets = keeps_buckets g.met.B.BucketRow.rewrites_count i.rewrites;
        frame = λ s shown. (i.each s shown).frame;
      };
      slots = i.slots;
    }
