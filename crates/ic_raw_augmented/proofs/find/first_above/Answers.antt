use Rattle.std.proofs.Common.{◌≡◌, ◌+◌, ◌-◌, ◌∷◌, [], ℕ, Some, None, sym, ap, ◌∙◌, subst, arith}
use Rattle.ic_link_ops.proofs.SequenceLemmas.{none_not}
use Rattle.ic_rbtree.proofs.Closed.{in_there, read_in}
use Rattle.ic_raw.specs.Seen.{has_place}
use Rattle.ic_raw.specs.Tree.{lent_table}
use Rattle.ic_raw.proofs.Trees.{closed}
use Rattle.ic_raw_augmented.specs.Sums.{combined}
use Rattle.ic_raw_augmented.proofs.Searches.{FindsAbove, above_right, above_here, above_below, above_fails, above_none, above_on, above_spent}
use Rattle.ic_raw_augmented.proofs.find.first_above.Goals as goal
use Rattle.ic_raw_augmented.proofs.find.first_above.Goals.{then-not-is_child+else-bound-with_it+else-bound-with_right, else-not-is_child}

pub loop-init : goal.loop-init
loop-init c = record { inside = c.requires; found = λ r h. h; there = λ S closed here. here; led = λ h. h }

pub returns-in_default-clause-found : goal.returns-in_default-clause-found
returns-in_default-clause-found c =
    c.loop.invariant.found (Some None)
    (above_none c.args.kind (lent_table c.args.links.now) c.args.sums.now c.loop.place c.loop.done c.args.bound (67 - c.loop.counter) (sym c.parent.ensures ∙ c.in_default.is))

pub returns-in_default-clause-ended : goal.returns-in_default-clause-ended
returns-in_default-clause-ended c is = c.loop.invariant.led ([], sym c.parent.ensures ∙ c.in_default.is)

pub returns-then-bound-with_it-clause-found : goal.returns-then-bound-with_it-clause-found
returns-then-bound-with_it-clause-found c =
    c.loop.invariant.found (Some (Some c.in-Some.above))
    (above_here c.args.kind (lent_table c.args.links.now) c.args.sums.now c.loop.place c.in-Some.above (sym c.parent.ensures ∙ c.in-Some.is) (67 - c.loop.counter) c.loop.done c.args.bound
    c.combine-with_it.result (c.combine-with_it.ensures ∙ ap (combined c.args.kind c.loop.done) c.value_at.ensures) (sym c.is_child.ensures ∙ c.if-not-is_child.true) c.if-bound-with_it.true)

pub returns-then-bound-with_it-clause-in_closed_set : goal.returns-then-bound-with_it-clause-in_closed_set
returns-then-bound-with_it-clause-in_closed_set c S shut here =
    in_there S (read_in S (shut.parent c.loop.place (c.loop.invariant.there S shut here) (none_not c.loop.place)) c.parent.ensures) c.in-Some.is

pub returns-in_err-member-clause-found : goal.returns-in_err-member-clause-found
returns-in_err-member-clause-found c =
    c.loop.invariant.found _
    (above_fails c.args.kind (lent_table c.args.links.now) c.args.sums.now c.loop.place c.in-Some.above (sym c.parent.ensures ∙ c.in-Some.is) (67 - c.loop.counter) c.loop.done c.args.bound
    c.right-right.result c.right-right.ensures c.combine-with_it.result c.combine-with_right.result (c.combine-with_it.ensures ∙ ap (combined c.args.kind c.loop.done) c.value_at.ensures)
    (c.combine-with_right.ensures ∙ ap (combined c.args.kind c.combine-with_it.result) c.sum_below.ensures) c.if-bound-with_it.false (sym c.is_child.ensures ∙ c.if-not-is_child.true)
    c.in_ok-next.next c.first_below.result _ c.in_ok-next.was c.if-bound-with_right.true c.first_below.ensures.found c.in_err-member.was)

pub returns-then-bound-with_right-clause-found : goal.returns-then-bound-with_right-clause-found
returns-then-bound-with_right-clause-found c =
    c.loop.invariant.found (Some (Some c.in_ok-member.member))
    (above_below c.args.kind (lent_table c.args.links.now) c.args.sums.now c.loop.place c.in-Some.above (sym c.parent.ensures ∙ c.in-Some.is) (67 - c.loop.counter) c.loop.done c.args.bound
    c.right-right.result c.right-right.ensures c.combine-with_it.result c.combine-with_right.result (c.combine-with_it.ensures ∙ ap (combined c.args.kind c.loop.done) c.value_at.ensures)
    (c.combine-with_right.ensures ∙ ap (combined c.args.kind c.combine-with_it.result) c.sum_below.ensures) c.if-bound-with_it.false (sym c.is_child.ensures ∙ c.if-not-is_child.true)
    c.in_ok-next.next c.first_below.result c.in_ok-next.was c.if-bound-with_right.true c.first_below.ensures.found c.in_ok-member.member c.in_ok-member.was)

pub returns-then-bound-with_right-clause-in_closed_set : goal.returns-then-bound-with_right-clause-in_closed_set
returns-then-bound-with_right-clause-in_closed_set c S shut here =
    let up = in_there S (read_in S (shut.parent c.loop.place (c.loop.invariant.there S shut here) (none_not c.loop.place)) c.parent.ensures) c.in-Some.is in
    let next = in_there S (read_in S (shut.right c.in-Some.above up (none_not c.in-Some.above)) c.right-right.ensures) c.in_ok-next.was in
    in_there S (c.first_below.ensures.in_closed_set S shut next) c.in_ok-member.was

pub loop-preserved : goal.loop-preserved
loop-preserved c =
    let v = lent_table c.args.links.now in
    let i = c.loop.invariant in
    let p = c.loop.place in
    let named = sym c.parent.ensures ∙ c.in-Some.is in
    let less : 67 - (c.loop.counter + 1) ≡ (67 - c.loop.counter) - 1 = omega arith in
    elim c.if-not-is_child.branch [
      | then-not-is_child+else-bound-with_it+else-bound-with_right w ↦ rw w.done-is (record {
        inside = in_there (has_place v) (read_in (has_place v) ((closed v None tt).parent p i.inside (none_not p)) c.parent.ensures) c.in-Some.is;
        found = λ r h.
            i.found r (above_on c.args.kind v c.args.sums.now p c.in-Some.above named (67 - c.loop.counter) c.loop.done c.args.bound w.right-right.result w.right-right.ensures
            w.combine-with_it.result w.combine-with_right.result (w.combine-with_it.ensures ∙ ap (combined c.args.kind c.loop.done) w.value_at.ensures)
            (w.combine-with_right.ensures ∙ ap (combined c.args.kind w.combine-with_it.result) w.sum_below.ensures) w.if-bound-with_it.false (sym c.is_child.ensures ∙ w.if-not-is_child.true)
            r w.if-bound-with_right.false (subst (λ (n : ℕ). FindsAbove c.args.kind v c.args.sums.now c.in-Some.above w.combine-with_right.result c.args.bound n r) less h));
        there = λ S shut here. in_there S (read_in S (shut.parent p (i.there S shut here) (none_not p)) c.parent.ensures) c.in-Some.is;
        led = λ h. i.led (c.in-Some.above ∷ h.0, (named, h.1));
      })
      | else-not-is_child w ↦ rw w.done-is (record {
        inside = in_there (has_place v) (read_in (has_place v) ((closed v None tt).parent p i.inside (none_not p)) c.parent.ensures) c.in-Some.is;
        found = λ r h.
            i.found r (above_right c.args.kind v c.args.sums.now p c.in-Some.above named (67 - c.loop.counter) c.loop.done c.args.bound r (sym c.is_child.ensures ∙ w.if-not-is_child.false)
            (subst (λ (n : ℕ). FindsAbove c.args.kind v c.args.sums.now c.in-Some.above c.loop.done c.args.bound n r) less h));
        there = λ S shut here. in_there S (read_in S (shut.parent p (i.there S shut here) (none_not p)) c.parent.ensures) c.in-Some.is;
        led = λ h. i.led (c.in-Some.above ∷ h.0, (named, h.1));
      })
    ]

pub returns-clause-found : goal.returns-clause-found
returns-clause-found c =
    let none : 67 - c.loop.counter ≡ 0 = omega arith in
    c.loop.invariant.found None (above_spent c.args.kind (lent_table c.args.links.now) c.args.sums.now c.loop.place c.loop.done c.args.bound (67 - c.loop.counter) None none)
