use Rattle.std.proofs.Common.{◌≡◌, ◌+◌, ◌-◌, ◌∷◌, [], ℕ, Some, None, sym, ap, ◌∙◌, subst, arith}
use Rattle.ic_link_ops.proofs.SequenceLemmas.{none_not}
use Rattle.ic_rbtree.proofs.Closed.{in_there, read_in}
use Rattle.ic_raw.specs.Seen.{has_place}
use Rattle.ic_raw.specs.Tree.{lent_table}
use Rattle.ic_raw.proofs.Trees.{closed}
use Rattle.ic_raw_augmented.specs.Sums.{combined}
use Rattle.ic_raw_augmented.proofs.Searches.{SumsAbove, sums_left, sums_none, sums_right, sums_spent}
use Rattle.ic_raw_augmented.proofs.find.sum_above.Goals as goal
use Rattle.ic_raw_augmented.proofs.find.sum_above.Goals.{then-is_child, else-is_child}

pub loop-init : goal.loop-init
loop-init c = record { inside = c.requires; found = λ r h. h; led = λ h. h }

pub returns-in_default-clause-made : goal.returns-in_default-clause-made
returns-in_default-clause-made c =
    c.loop.invariant.found (Some c.loop.done)
    (sums_none c.args.kind (lent_table c.args.links.now) c.args.sums.now c.loop.place c.loop.done (67 - c.loop.counter) (sym c.parent.ensures ∙ c.in_default.is))

pub returns-in_default-clause-ended : goal.returns-in_default-clause-ended
returns-in_default-clause-ended c = c.loop.invariant.led ([], sym c.parent.ensures ∙ c.in_default.is)

pub loop-preserved : goal.loop-preserved
loop-preserved c =
    let v = lent_table c.args.links.now in
    let i = c.loop.invariant in
    let p = c.loop.place in
    let named = sym c.parent.ensures ∙ c.in-Some.is in
    let less : 67 - (c.loop.counter + 1) ≡ (67 - c.loop.counter) - 1 = omega arith in
    elim c.if-is_child.branch [
      | then-is_child w ↦ rw w.done-is (record {
        inside = in_there (has_place v) (read_in (has_place v) ((closed v None tt).parent p i.inside (none_not p)) c.parent.ensures) c.in-Some.is;
        found = λ r h.
            i.found r (sums_right c.args.kind v c.args.sums.now p c.in-Some.above named (67 - c.loop.counter) c.loop.done w.left.result r w.combine-with_it.result w.combine-done.result w.left.ensures
            (w.combine-with_it.ensures ∙ ap (λ (x : ℕ). combined c.args.kind x c.loop.done) w.value_at.ensures)
            (w.combine-done.ensures ∙ ap (λ (x : ℕ). combined c.args.kind x w.combine-with_it.result) w.sum_below.ensures) (sym c.is_child.ensures ∙ w.if-is_child.true)
            (subst (λ (n : ℕ). SumsAbove c.args.kind v c.args.sums.now c.in-Some.above w.combine-done.result n r) less h));
        led = λ h. i.led (c.in-Some.above ∷ h.0, (named, h.1));
      })
      | else-is_child w ↦ rw w.done-is (record {
        inside = in_there (has_place v) (read_in (has_place v) ((closed v None tt).parent p i.inside (none_not p)) c.parent.ensures) c.in-Some.is;
        found = λ r h.
            i.found r (sums_left c.args.kind v c.args.sums.now p c.in-Some.above named (67 - c.loop.counter) c.loop.done r (sym c.is_child.ensures ∙ w.if-is_child.false)
            (subst (λ (n : ℕ). SumsAbove c.args.kind v c.args.sums.now c.in-Some.above c.loop.done n r) less h));
        led = λ h. i.led (c.in-Some.above ∷ h.0, (named, h.1));
      })
    ]

pub returns-clause-made : goal.returns-clause-made
returns-clause-made c =
    let none : 67 - c.loop.counter ≡ 0 = omega arith in
    c.loop.invariant.found None (sums_spent c.args.kind (lent_table c.args.links.now) c.args.sums.now c.loop.place c.loop.done (67 - c.loop.counter) None none)
