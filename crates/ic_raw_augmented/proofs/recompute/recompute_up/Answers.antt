use Rattle.std.proofs.Common.{◌≡◌, ◌+◌, ◌-◌, ◌<◌, ℕ, true, false, Some, None, refl, sym, ap, ◌∙◌, subst, arith, ltb-true}
use Rattle.ic_unsafe_ref.specs.Places.{index_of}
use Rattle.ic_link_ops.proofs.SequenceLemmas.{none_not}
use Rattle.ic_rbtree.proofs.Closed.{in_there, read_in}
use Rattle.ic_raw.specs.Seen.{has_place}
use Rattle.ic_raw.specs.Tree.{lent_table}
use Rattle.ic_raw.proofs.Trees.{closed}
use Rattle.ic_raw_augmented.specs.Sums.{IsNear}
use Rattle.ic_raw_augmented.proofs.Recomputing.{near_all, near_parent, no_parent, one_parent, other_parent, recomputed, spent, stopped}
use Rattle.ic_raw_augmented.proofs.recompute.recompute_up.Goals as goal

pub loop-init : goal.loop-init
loop-init c = record {
  inside = c.requires.inside;
  near = near_all (lent_table c.args.links.now) c.args.place;
  right = λ root s but shown right. right;
  kept = record { count = refl; values = λ q. refl };
  there = λ S closed here. here;
  beside = λ S closed here q off. refl;
}

pub set_sum-requires : goal.set_sum-requires
set_sum-requires c =
    let inside : index_of c.loop.place < (lent_table c.args.links.now).extent.places = ltb-true (index_of c.loop.place) (lent_table c.args.links.now).extent.places c.loop.invariant.inside in
    omega (arith, inside, c.requires.enough, c.loop.invariant.kept.count)

pub loop-preserved : goal.loop-preserved
loop-preserved c =
    let v = lent_table c.args.links.now in
    let i = c.loop.invariant in
    let near = near_parent v (67 - c.loop.counter) c.loop.place c.in-Some.above (sym c.is_below.ensures ∙ c.if-not-is_below.false) i.near in
    let less : (67 - c.loop.counter) - 1 ≡ 67 - (c.loop.counter + 1) = omega arith in
    record {
      inside = in_there (has_place v) (read_in (has_place v) ((closed v None tt).parent c.loop.place i.inside (none_not c.loop.place)) c.parent.ensures) c.in-Some.is;
      near = subst (λ (n : ℕ). IsNear v n c.in-Some.above) less near;
      right = λ root s but shown right.
          recomputed c.args.kind v c.loop.sums c.set_sum.new.sums c.loop.place (c.set_sum.ensures.set ∙ c.joined-sum.ensures) c.set_sum.ensures.others c.set_sum.ensures.kept.values (Some c.in-Some.above) but shown
          (one_parent v shown c.loop.place c.in-Some.above (sym c.parent.ensures ∙ c.in-Some.is)) (i.right root s but shown right);
      kept = record { count = c.set_sum.ensures.kept.count ∙ i.kept.count; values = λ q. c.set_sum.ensures.kept.values q ∙ i.kept.values q };
      there = λ S closed here. in_there S (read_in S (closed.parent c.loop.place (i.there S closed here) (none_not c.loop.place)) c.parent.ensures) c.in-Some.is;
      beside = λ S closed here q off.
          c.set_sum.ensures.others q (λ e. let k : S q ≡ true = ap S e ∙ i.there S closed here in let l : true ≡ false = sym k ∙ off in cc) ∙ i.beside S closed here q off;
    }

pub returns-then-sum_below-sum-clause-right : goal.returns-then-sum_below-sum-clause-right
returns-then-sum_below-sum-clause-right c root s but shown right =
    stopped c.args.kind (lent_table c.args.links.now) c.loop.sums c.loop.place but shown (c.loop.invariant.right root s but shown right)
    (sym c.sum_below.ensures ∙ (c.if-sum_below-sum.true ∙ c.joined-sum.ensures))

pub returns-in_default-clause-right : goal.returns-in_default-clause-right
returns-in_default-clause-right c root s but shown right =
    let v = lent_table c.args.links.now in
    recomputed c.args.kind v c.loop.sums c.set_sum.new.sums c.loop.place (c.set_sum.ensures.set ∙ c.joined-sum.ensures) c.set_sum.ensures.others c.set_sum.ensures.kept.values None but shown
    (no_parent v shown c.loop.place (sym c.parent.ensures ∙ c.in_default.is)) (c.loop.invariant.right root s but shown right)

pub returns-in_default-clause-beside : goal.returns-in_default-clause-beside
returns-in_default-clause-beside c S closed here q off =
    c.set_sum.ensures.others q (λ e. let k : S q ≡ true = ap S e ∙ c.loop.invariant.there S closed here in let l : true ≡ false = sym k ∙ off in cc)
    ∙ c.loop.invariant.beside S closed here q off

pub returns-then-not-is_below-clause-right : goal.returns-then-not-is_below-clause-right
returns-then-not-is_below-clause-right c root s but shown right =
    let v = lent_table c.args.links.now in
    recomputed c.args.kind v c.loop.sums c.set_sum.new.sums c.loop.place (c.set_sum.ensures.set ∙ c.joined-sum.ensures) c.set_sum.ensures.others c.set_sum.ensures.kept.values None but shown
    (other_parent v shown c.loop.place c.in-Some.above (sym c.parent.ensures ∙ c.in-Some.is) (sym c.is_below.ensures ∙ c.if-not-is_below.true)) (c.loop.invariant.right root s but shown right)

pub returns-then-not-is_below-clause-beside : goal.returns-then-not-is_below-clause-beside
returns-then-not-is_below-clause-beside c S closed here q off =
    c.set_sum.ensures.others q (λ e. let k : S q ≡ true = ap S e ∙ c.loop.invariant.there S closed here in let l : true ≡ false = sym k ∙ off in cc)
    ∙ c.loop.invariant.beside S closed here q off

pub returns-clause-right : goal.returns-clause-right
returns-clause-right c root s but shown right =
    let v = lent_table c.args.links.now in
    let none : 67 - c.loop.counter ≡ 0 = omega arith in
    spent c.args.kind v c.loop.sums c.loop.place but shown (c.loop.invariant.right root s but shown right)
    (subst (λ (n : ℕ). IsNear v n c.loop.place) none c.loop.invariant.near)
