use Rattle.std.proofs.Common.{◌<◌, Option, sym, ◌∙◌, subst, ltb-true}
use Rattle.ic_link_ops.specs.Prelude.{Place, index_of}
use Rattle.ic_link_ops.proofs.Prelude.{none_not, some_same, holds_linked, is_end_not}
use Rattle.ic_raw.specs.Seen.{also}
use Rattle.ic_raw.specs.Tree.{lent_table}
use Rattle.ic_raw.proofs.Gaps.{never}
use Rattle.ic_raw_augmented.specs.Sums.{IsSummedBut}
use Rattle.ic_raw_augmented.proofs.Recomputing.{off_also}
use Rattle.ic_raw_augmented.proofs.recompute.recompute_from.Goals as goal

-- if no place is given, no member is the given place, so the sums are already right at all members of s that are not in `but`
pub returns-in_default-clause-right : goal.returns-in_default-clause-right
returns-in_default-clause-right c root s but shown right q m off =
    right q m (off_also c.args.place but q (is_end_not c.args.place q (λ e. none_not q (sym c.in_default.is ∙ e))) off)

pub returns-then-not-covers-clause-right : goal.returns-then-not-covers-clause-right
returns-then-not-covers-clause-right c root s but shown right q m off =
    right q m (off_also c.args.place but q (is_end_not c.args.place q (λ e.
    let one = some_same (sym e ∙ c.in-Some.is) in
    let t = lent_table c.args.links.now in
    let inside : index_of q < t.extent.places = ltb-true (index_of q) t.extent.places (holds_linked shown.held m) in
    never c.if-not-covers.true (c.covers.ensures.1 (rw (← one) inside)))) off)

pub returns-clause-right : goal.returns-clause-right
returns-clause-right c root s but shown right =
    let t = lent_table c.args.links.now in
    c.recompute_up.ensures.right root s but shown
    (subst (λ (o : Option Place). IsSummedBut c.args.kind t c.args.sums.now s (also o but)) c.in-Some.is right)
