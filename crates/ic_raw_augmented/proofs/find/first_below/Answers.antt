use Rattle.std.proofs.Common.{◌≡◌, ◌+◌, ◌-◌, ℕ, Some, None, refl, ap, ◌∙◌, subst, arith}
use Rattle.ic_link_ops.proofs.SequenceLemmas.{none_not}
use Rattle.ic_rbtree.proofs.Closed.{in_there, read_in}
use Rattle.ic_raw.specs.Seen.{has_place, seen, seen_node}
use Rattle.ic_raw.specs.Tree.{lent_table}
use Rattle.ic_raw.proofs.Trees.{closed}
use Rattle.ic_raw_augmented.specs.Sums.{combined}
use Rattle.ic_raw_augmented.proofs.Searches.{FindsBelow, below_left, below_no_left, below_here, below_right, below_no_right, below_spent}
use Rattle.ic_raw_augmented.proofs.find.first_below.Goals as goal
use Rattle.ic_raw_augmented.proofs.find.first_below.Goals.{then-bound-before_it+in_ok-place, else-bound-before_it+else-bound-with_it+in_ok-place-2}

pub loop-init : goal.loop-init
loop-init c = record { inside = c.requires; found = λ r h. h; there = λ S closed here. here }

pub returns-in_err-place-clause-found : goal.returns-in_err-place-clause-found
returns-in_err-place-clause-found c =
    let v = lent_table c.args.links.now in
    c.loop.invariant.found c.from_residual.result
    (below_no_left c.args.kind v c.args.sums.now c.loop.place c.left-left.result (seen_node ((seen v).entry c.loop.place)).right c.left-left.ensures refl c.loop.done c.args.bound
    (67 - c.loop.counter) c.combine-before_it.result _ (c.combine-before_it.ensures ∙ ap (combined c.args.kind c.loop.done) c.sum_below.ensures) refl _ c.in_err-place.was
    c.if-bound-before_it.true)

pub returns-then-bound-with_it-clause-found : goal.returns-then-bound-with_it-clause-found
returns-then-bound-with_it-clause-found c =
    let v = lent_table c.args.links.now in
    c.loop.invariant.found (Some c.loop.place)
    (below_here c.args.kind v c.args.sums.now c.loop.place c.left-left.result (seen_node ((seen v).entry c.loop.place)).right c.left-left.ensures refl c.loop.done c.args.bound
    (67 - c.loop.counter) c.combine-before_it.result c.combine-with_it.result (c.combine-before_it.ensures ∙ ap (combined c.args.kind c.loop.done) c.sum_below.ensures)
    (c.combine-with_it.ensures ∙ ap (combined c.args.kind c.combine-before_it.result) c.value_at.ensures) c.if-bound-before_it.false c.if-bound-with_it.true)

pub returns-in_err-place-2-clause-found : goal.returns-in_err-place-2-clause-found
returns-in_err-place-2-clause-found c =
    let v = lent_table c.args.links.now in
    c.loop.invariant.found c.from_residual-in_err-place-2.result
    (below_no_right c.args.kind v c.args.sums.now c.loop.place c.left-left.result c.right.result c.left-left.ensures c.right.ensures c.loop.done c.args.bound
    (67 - c.loop.counter) c.combine-before_it.result c.combine-with_it.result (c.combine-before_it.ensures ∙ ap (combined c.args.kind c.loop.done) c.sum_below.ensures)
    (c.combine-with_it.ensures ∙ ap (combined c.args.kind c.combine-before_it.result) c.value_at.ensures) _ c.in_err-place-2.was c.if-bound-with_it.false)

pub loop-preserved : goal.loop-preserved
loop-preserved c =
    let v = lent_table c.args.links.now in
    let i = c.loop.invariant in
    let p = c.loop.place in
    let less : 67 - (c.loop.counter + 1) ≡ (67 - c.loop.counter) - 1 = omega arith in
    let before_it = c.combine-before_it.ensures ∙ ap (combined c.args.kind c.loop.done) c.sum_below.ensures in
    elim c.if-bound-before_it.branch [
      | then-bound-before_it+in_ok-place w ↦ rw (w.place-is, w.done-is) (record {
        inside = in_there (has_place v) (read_in (has_place v) ((closed v None tt).left p i.inside (none_not p)) c.left-left.ensures) w.in_ok-place.was;
        found = λ r h.
            i.found r (below_left c.args.kind v c.args.sums.now p c.left-left.result (seen_node ((seen v).entry p)).right c.left-left.ensures refl c.loop.done c.args.bound (67 - c.loop.counter)
            c.combine-before_it.result _ before_it refl _ r w.in_ok-place.was w.if-bound-before_it.true
            (subst (λ (n : ℕ). FindsBelow c.args.kind v c.args.sums.now (Some w.in_ok-place.place) c.loop.done c.args.bound n r) less h));
        there = λ S shut here. in_there S (read_in S (shut.left p (i.there S shut here) (none_not p)) c.left-left.ensures) w.in_ok-place.was;
      })
      | else-bound-before_it+else-bound-with_it+in_ok-place-2 w ↦ rw (w.place-is, w.done-is) (record {
        inside = in_there (has_place v) (read_in (has_place v) ((closed v None tt).right p i.inside (none_not p)) w.right.ensures) w.in_ok-place-2.was;
        found = λ r h.
            i.found r (below_right c.args.kind v c.args.sums.now p c.left-left.result w.right.result c.left-left.ensures w.right.ensures c.loop.done c.args.bound (67 - c.loop.counter)
            c.combine-before_it.result w.combine-with_it.result before_it (w.combine-with_it.ensures ∙ ap (combined c.args.kind c.combine-before_it.result) w.value_at.ensures) _ r
            w.in_ok-place-2.was w.if-bound-with_it.false
            (subst (λ (n : ℕ). FindsBelow c.args.kind v c.args.sums.now (Some w.in_ok-place-2.place) w.combine-with_it.result c.args.bound n r) less h));
        there = λ S shut here. in_there S (read_in S (shut.right p (i.there S shut here) (none_not p)) w.right.ensures) w.in_ok-place-2.was;
      })
    ]

pub returns-clause-found : goal.returns-clause-found
returns-clause-found c =
    let none : 67 - c.loop.counter ≡ 0 = omega arith in
    c.loop.invariant.found None (below_spent c.args.kind (lent_table c.args.links.now) c.args.sums.now c.loop.place c.loop.done c.args.bound (67 - c.loop.counter) None none)
