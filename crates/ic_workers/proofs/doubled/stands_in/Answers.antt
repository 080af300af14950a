use Rattle.std.proofs.Common.{◌≡◌, ◌<◌, ◌+◌, ◌-◌, ◌/◌, ℕ, suc, false, take, drop, length, sym, ap, ◌∙◌, subst, arith, slice_index_or}
use Rattle.ic_unsafe_ref.specs.Places.{index_of}
use Rattle.ic_workers.specs.SharedOut.{has}
use Rattle.ic_workers.proofs.Searching.{not_before, not_after, stands_there, stands_nowhere}
use Rattle.ic_workers.proofs.doubled.stands_in.Goals as goal

pub returns-then-found-index : goal.returns-then-found-index
returns-then-found-index c =
    let m : ℕ = c.loop-low.low + (c.loop-low.high - c.loop-low.low) / 2 in
    let inside : m < length c.args.list.now = omega (arith, c.loop-low-test.true, c.loop-low.invariant.inside) in
    let there : index_of (slice_index_or c.args.list.now m c.index-list-middle.result) ≡ c.index-found.result = ap index_of (sym c.index-list-middle.is) ∙ sym c.index-found.ensures.value in
    sym (stands_there c.args.list.now m c.index-list-middle.result inside c.args.index (there ∙ c.if-found-index.true))

pub loop-low-preserved-then-found-index-2 : goal.loop-low-preserved-then-found-index-2
loop-low-preserved-then-found-index-2 c =
    let i = c.loop-low.invariant in
    let m : ℕ = c.loop-low.low + (c.loop-low.high - c.loop-low.low) / 2 in
    let inside : m < length c.args.list.now = omega (arith, c.loop-low-test.true, c.loop-low.invariant.inside) in
    let there : index_of (slice_index_or c.args.list.now m c.index-list-middle.result) ≡ c.index-found.result = ap index_of (sym c.index-list-middle.is) ∙ sym c.index-found.ensures.value in
    let r = c.requires in
    let less : index_of (slice_index_or c.args.list.now m c.index-list-middle.result) < c.args.index = omega (arith, there, c.if-found-index-2.true) in
    let up : suc m ≡ m + 1 = omega arith in
    record {
      order = omega (arith, c.loop-low-test.true);
      inside = i.inside;
      front = subst (λ (k : ℕ). has (take k c.args.list.now) c.args.index ≡ false) up (not_before 0 r.0 c.args.list.now r.1 m c.index-list-middle.result inside c.args.index less);
      back = i.back;
    }

pub loop-low-preserved : goal.loop-low-preserved
loop-low-preserved c =
    let i = c.loop-low.invariant in
    let m : ℕ = c.loop-low.low + (c.loop-low.high - c.loop-low.low) / 2 in
    let inside : m < length c.args.list.now = omega (arith, c.loop-low-test.true, c.loop-low.invariant.inside) in
    let there : index_of (slice_index_or c.args.list.now m c.index-list-middle.result) ≡ c.index-found.result = ap index_of (sym c.index-list-middle.is) ∙ sym c.index-found.ensures.value in
    let r = c.requires in
    let more : c.args.index < index_of (slice_index_or c.args.list.now m c.index-list-middle.result) = omega (arith, there, c.if-found-index-2.false, c.if-found-index.false) in
    record {
      order = omega (arith, c.loop-low-test.true);
      inside = omega (arith, c.loop-low-test.true, i.inside);
      front = i.front;
      back = not_after 0 r.0 c.args.list.now r.1 m c.index-list-middle.result inside c.args.index more;
    }

pub returns : goal.returns
returns c =
    let i = c.loop-low.invariant in
    let same : c.loop-low.high ≡ c.loop-low.low = omega (arith, c.loop-low-test.false, i.order) in
    sym (stands_nowhere c.args.list.now c.loop-low.low c.args.index i.front (subst (λ (k : ℕ). has (drop k c.args.list.now) c.args.index ≡ false) same i.back))
