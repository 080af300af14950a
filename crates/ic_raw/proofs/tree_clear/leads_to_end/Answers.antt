use Rattle.std.proofs.Common.{◌≡◌, false, not, Option, Some, None, is_some, true≢false, [], ◌∷◌, refl, sym, ap, ◌∙◌, subst, arith, rules}
use Rattle.ic_link_ops.specs.Prelude.{Place, at_front, IsLinked}
use Rattle.ic_link_ops.proofs.Prelude.{none_not, some_same, holds_linked}
use Rattle.ic_raw.specs.Prelude.{IsNoneOrLinked, is_linked_three}
use Rattle.ic_raw.specs.Tree.{lent_table}
use Rattle.ic_raw.proofs.Gaps.{never}
use Rattle.ic_raw.proofs.Trees.{in_range, end_in, seen_represents}
use Rattle.ic_raw.proofs.TreeWalks.{seen_length, walk_starts, walk_member, walk_goes_on, walk_over}
use Rattle.ic_raw.proofs.tree_clear.leads_to_end.Goals as goal

-- an option that has no place is none
nothing : (o : Option Place) → is_some o ≡ false → o ≡ None
nothing None is = refl
nothing (Some q) is = absurd (true≢false is)

pub loop-left-init : goal.loop-left-init
loop-left-init c =
    let first = c.next_of-at.ensures in
    record {
      walked = λ s shown. walk_starts (first.leads (at_front s) shown refl) (rw c.places-left.ensures (seen_length shown));
      led = (None, (λ q none. absurd (none_not q none)), first.reached, (λ root none. first.ended (tt, (root, tt)) none), (λ leads. leads));
    }

pub returns-in_default-clause-ended : goal.returns-in_default-clause-ended
returns-in_default-clause-ended c stands made =
    let led = c.loop-left.invariant.led in
    let t = lent_table c.args.links.now in
    led.4 ([], led.3 (end_in t (in_range c.args.links.now) _ stands) c.in_default.is)

pub returns-then-not-is_linked-clause-shown : goal.returns-then-not-is_linked-clause-shown
returns-then-not-is_linked-clause-shown c s shown =
    let t = lent_table c.args.links.now in
    let here = rw c.in-Some.is at (c.loop-left.invariant.walked s (seen_represents t (in_range c.args.links.now) shown)) in
    absurd (never c.if-not-is_linked.true (c.is_linked.ensures ∙ holds_linked shown.held (walk_member here)))

pub loop-left-preserved : goal.loop-left-preserved
loop-left-preserved c =
    let t = lent_table c.args.links.now in
    let p = c.in-Some.member in
    let led = c.loop-left.invariant.led in
    let next = c.next_of-at-in-loop-left.ensures in
    let linked : IsLinked is_linked_three t p = sym c.is_linked.ensures ∙ c.if-not-is_linked.false in
    let stands : IsNoneOrLinked is_linked_three t (Some p) = λ q same. subst (IsLinked is_linked_three t) (some_same same) linked in
    record {
      walked = λ s shown. let here = rw c.in-Some.is at (c.loop-left.invariant.walked s shown) in (walk_goes_on here {t = t} shown next.leads).0;
      led = (
        Some p,
        stands,
        next.reached,
        (λ root none. next.ended (end_in t (in_range c.args.links.now) (Some p) stands, (root, tt)) none),
        (λ leads. led.4 (p ∷ leads.0, (led.2 p c.in-Some.is, linked, leads.1))),
      );
    }

pub returns-clause-shown : goal.returns-clause-shown
returns-clause-shown c s shown =
    let t = lent_table c.args.links.now in
    let over = walk_over (c.loop-left.invariant.walked s (seen_represents t (in_range c.args.links.now) shown)) (omega (arith, c.loop-left-test.false)) in
    search (rules, over)

pub returns-clause-ended : goal.returns-clause-ended
returns-clause-ended c stands made =
    let led = c.loop-left.invariant.led in
    let t = lent_table c.args.links.now in
    led.4 ([], led.3 (end_in t (in_range c.args.links.now) _ stands) (nothing c.loop-left.at (c.is_none.ensures ∙ ap not made)))
