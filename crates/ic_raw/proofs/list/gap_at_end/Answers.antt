use Rattle.std.proofs.Common.{Some, None, refl, sym, ◌∙◌}
use Rattle.ic_link_ops.specs.Sequences.{at_front, at_back}
use Rattle.ic_link_ops.proofs.SequenceLemmas.{some_same}
use Rattle.ic_raw.proofs.Doubly.{told_after, told_before}
use Rattle.ic_raw.proofs.Gaps.{gap_is}
use Rattle.ic_raw.proofs.Own.{sides_are}
use Rattle.ic_raw.specs.LinkWords.{lent_table}
use Rattle.ic_raw.proofs.LinkViews.{link_words}
use Rattle.ic_raw.proofs.list.gap_at_end.Goals as goal

pub returns-else-not-is_after-clause-end : goal.returns-else-not-is_after-clause-end
returns-else-not-is_after-clause-end g c gap is = rw c.in-After.is (c.in-Some.first, sym c.first.ensures ∙ c.in-Some.is)

pub returns-else-not-is_after-clause-shown : goal.returns-else-not-is_after-clause-shown
returns-else-not-is_after-clause-shown g c gap s is shown =
    rw c.in-After.is (some_same (sym is ∙ gap_is (at_front s) refl (sym c.in-Some.is ∙ c.first.ensures ∙ shown.head)))

pub returns-else-not-is_before-clause-end : goal.returns-else-not-is_before-clause-end
returns-else-not-is_before-clause-end g c gap is = rw c.in-Before.is (c.in-Some-last.last, sym c.last.ensures ∙ c.in-Some-last.is)

pub returns-else-not-is_before-clause-shown : goal.returns-else-not-is_before-clause-shown
returns-else-not-is_before-clause-shown g c gap s is shown =
    rw c.in-Before.is (some_same (sym is ∙ gap_is (at_back s) (sym c.in-Some-last.is ∙ c.last.ensures ∙ shown.tail) refl))

pub returns-else-not-is_after-clause-links_back : goal.returns-else-not-is_after-clause-links_back
returns-else-not-is_after-clause-links_back g c gap is =
    let words = link_words g.W.Words g.W.NextWord g.W.PrevPlace in
    let links_back = told_after words (lent_table words c.args.links.now) c.args.list.now None (Some c.in-Some.first) (sym c.first.ensures ∙ c.in-Some.is)
    (c.is_after.ensures.stands c.if-not-is_after.false) (c.is_after.ensures.prev c.if-not-is_after.false) in
    rw c.in-After.is links_back

pub returns-else-not-is_before-clause-links_back : goal.returns-else-not-is_before-clause-links_back
returns-else-not-is_before-clause-links_back g c gap is =
    let words = link_words g.W.Words g.W.NextWord g.W.PrevPlace in
    let links_back = told_before words (lent_table words c.args.links.now) c.args.list.now None (Some c.in-Some-last.last) (sym c.last.ensures ∙ c.in-Some-last.is)
    (c.is_before.ensures.stands c.if-not-is_before.false) (c.is_before.ensures.next c.if-not-is_before.false) in
    rw c.in-Before.is links_back

pub returns-else-not-is_after-clause-sides : goal.returns-else-not-is_after-clause-sides
returns-else-not-is_after-clause-sides g c gap is =
    rw c.in-After.is (sym (some_same is) ∙ sides_are refl (sym c.in-Some.is ∙ c.first.ensures))

pub returns-else-not-is_before-clause-sides : goal.returns-else-not-is_before-clause-sides
returns-else-not-is_before-clause-sides g c gap is =
    rw c.in-Before.is (sym (some_same is) ∙ sides_are (sym c.in-Some-last.is ∙ c.last.ensures) refl)
