use Rattle.std.proofs.Common.{◌≡◌, ◌<◌, true, false, refl, sym, ◌∙◌, arith, ltb-true}
use Rattle.ic_unsafe_ref.specs.Places.{index_of}
use Rattle.ic_link_ops.proofs.RepresentedTrees.{holds_linked}
use Rattle.ic_raw.specs.Tree.{lent_table}
use Rattle.ic_raw_augmented.proofs.Recomputing.{from_first, past_last}
use Rattle.ic_raw_augmented.proofs.recompute.recompute_all.Goals as goal

pub loop-index-init : goal.loop-index-init
loop-index-init c = record {
  right = λ root s shown q m off. let k : true ≡ false = sym (from_first q) ∙ off in cc;
  kept = record { count = refl; values = λ q. refl };
  in_bounds = omega arith;
}

pub loop-index-smaller : goal.loop-index-smaller
loop-index-smaller c = let less = c.loop-index-test.true in let e = c.places.ensures in omega (arith, less, e)

pub loop-index-preserved : goal.loop-index-preserved
loop-index-preserved c = record {
  right = λ root s shown. c.recompute_index.ensures.right root s shown (c.loop-index.invariant.right root s shown);
  kept = record {
    count = c.recompute_index.ensures.kept.count ∙ c.loop-index.invariant.kept.count;
    values = λ q. c.recompute_index.ensures.kept.values q ∙ c.loop-index.invariant.kept.values q;
  };
  in_bounds = let less = c.loop-index-test.true in let e = c.places.ensures in omega (arith, less, e);
}

pub returns-clause-right : goal.returns-clause-right
returns-clause-right c root s shown q m =
    let inside : index_of q < (lent_table c.args.links.now).extent.places = ltb-true (index_of q) (lent_table c.args.links.now).extent.places (holds_linked shown.held m) in
    let done = c.loop-index-test.false in
    let e = c.places.ensures in
    c.loop-index.invariant.right root s shown q m (past_last c.loop-index.index q (omega (arith, inside, done, e)))

pub returns-clause-kept : goal.returns-clause-kept
returns-clause-kept c = c.loop-index.invariant.kept
