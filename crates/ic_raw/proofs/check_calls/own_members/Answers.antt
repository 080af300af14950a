use Rattle.std.proofs.Common.{Some, None, refl, sym, ◌∙◌, arith}
use Rattle.ic_raw.specs.Prelude.{bucket_at, front_of, no_word}
use Rattle.ic_raw.specs.CheckCalls.{BelongsIn}
use Rattle.ic_raw.proofs.HashChecks.{own_none, own_more, own_ended, own_there, same_left}
use Rattle.ic_raw.proofs.HashWalks.{comes_first, comes_on}
use Rattle.ic_raw.proofs.Lists.{kept}
use Rattle.ic_raw.proofs.Singly.{covered}
use Rattle.ic_raw.proofs.Views.{viewed, represented_back}
use Rattle.ic_raw.proofs.check_calls.own_members.Goals as goal

pub loop-current-init : goal.loop-current-init
loop-current-init c =
    record {
      comes = λ s shown. (None, rw c.place_in-current.ensures (same_left (comes_first (covered c.args.links.now) shown) (omega arith)));
      walks = rw c.place_in-current.ensures (own_none (front_of (bucket_at c.args.buckets.now c.args.at)));
    }

pub returns-then-hashes-index : goal.returns-then-hashes-index
returns-then-hashes-index c s own =
    let k = rw c.in-Some.is at (c.loop-current.invariant.comes s (viewed no_word kept c.args.links.now refl own.shown)) in
    let here = own_there (BelongsIn c.args.hashes.now c.args.buckets.now c.args.at) k.1 own.own in
    c.if-hashes-index.true (rw c.index.ensures.value here)

pub loop-current-preserved : goal.loop-current-preserved
loop-current-preserved c =
    let linked = sym c.is_linked.ensures ∙ c.if-not-is_linked.false in
    let here : BelongsIn c.args.hashes.now c.args.buckets.now c.args.at c.in-Some.place = rw (← c.index.ensures.value) c.if-hashes-index.false in
    record {
      comes = λ s shown.
          let k = rw c.in-Some.is at (c.loop-current.invariant.comes s shown) in
          (Some c.in-Some.place, same_left (comes_on k.1 shown.distinct refl c.next-current.ensures) (omega arith));
      walks = own_more (rw c.in-Some.is at c.loop-current.invariant.walks) linked here (sym c.next-current.ensures) refl;
    }

pub returns : goal.returns
returns c =
    let k = own_ended (rw c.in_default.is at c.loop-current.invariant.walks) in
    (k.0, record { shown = represented_back no_word kept c.args.links.now refl k.1; own = k.2 }, k.3)
