use Rattle.std.proofs.Common.{◌≡◌, ◌+◌, ℕ, false, not, is_some, true≢false, Option, Some, None, refl, sym, ap, ◌∙◌, subst}
use Rattle.ic_unsafe_ref.specs.declared.place.Place.{Place}
use Rattle.ic_raw.specs.Prelude.{IsNoneOrLinked, bucket_at, is_linked_one}
use Rattle.ic_raw.specs.Singly.{front_of, lent_table}
use Rattle.ic_raw.proofs.Gaps.{never}
use Rattle.ic_raw.proofs.HashChecks.{own_ended, own_more, own_none, own_there}
use Rattle.ic_raw.proofs.HashWalks.{comes_first, comes_linked, comes_on}
use Rattle.ic_raw.proofs.Singly.{covered}
use Rattle.ic_raw_keyed.specs.Growth.{LeadsToLinked}
use Rattle.ic_raw_keyed.proofs.growth.can_move.Goals as goal

pub loop-left-init : goal.loop-left-init
loop-left-init c = record {
  comes = λ s shown. (None, rw c.places-left.ensures (comes_first (covered c.args.links.now) shown));
  walks = (0, own_none c.args.front);
}

pub returns-in_default-clause-ended : goal.returns-in_default-clause-ended
returns-in_default-clause-ended c made = let k = own_ended (rw c.in_default.is at c.loop-left.invariant.walks.1) in (k.0, k.1, k.2)

pub returns-then-not-is_linked-clause-shown : goal.returns-then-not-is_linked-clause-shown
returns-then-not-is_linked-clause-shown c s shown own =
    let k = rw c.in-Some.is at (c.loop-left.invariant.comes s shown) in
    absurd (never c.if-not-is_linked.true (c.is_linked.ensures ∙ comes_linked k.1))

pub returns-then-not-stands-clause-shown : goal.returns-then-not-stands-clause-shown
returns-then-not-stands-clause-shown c s shown own =
    let t = lent_table c.args.links.now in
    let k = rw c.in-Some.is at (c.loop-left.invariant.comes s shown) in
    let here = own_there (LeadsToLinked t c.args.hashes.now c.args.buckets.now) k.1 own in
    let there = subst (λ (n : ℕ). IsNoneOrLinked is_linked_one t (front_of (bucket_at c.args.buckets.now n))) (sym c.slot_for.ensures.slot) here in
    absurd (never c.if-not-stands.true (c.stands.ensures.1 (subst (λ (o : Option Place). IsNoneOrLinked is_linked_one t o) (sym c.front_at.ensures) there)))

pub loop-left-preserved : goal.loop-left-preserved
loop-left-preserved c =
    let t = lent_table c.args.links.now in
    let linked = sym c.is_linked.ensures ∙ c.if-not-is_linked.false in
    let there = subst (λ (o : Option Place). IsNoneOrLinked is_linked_one t o) c.front_at.ensures (c.stands.ensures.0 c.if-not-stands.false) in
    let here = subst (λ (n : ℕ). IsNoneOrLinked is_linked_one t (front_of (bucket_at c.args.buckets.now n))) c.slot_for.ensures.slot there in
    record {
      comes = λ s shown.
          let k = rw c.in-Some.is at (c.loop-left.invariant.comes s shown) in
          (Some c.in-Some.place, comes_on k.1 shown.distinct refl c.next-current.ensures);
      walks = (c.loop-left.invariant.walks.0 + 1, own_more (rw c.in-Some.is at c.loop-left.invariant.walks.1) linked here (sym c.next-current.ensures) refl);
    }

nothing : (o : Option Place) → is_some o ≡ false → o ≡ None
nothing None is = refl
nothing (Some q) is = absurd (true≢false is)

pub returns-clause-ended : goal.returns-clause-ended
returns-clause-ended c made =
    let k = own_ended (rw (nothing c.loop-left.current (c.is_none.ensures ∙ ap not made)) at c.loop-left.invariant.walks.1) in (k.0, k.1, k.2)
