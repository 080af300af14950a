use Rattle.std.proofs.Common.{Some, refl, sym, ◌∙◌}
use Rattle.ic_link_ops.proofs.SequenceLemmas.{some_same}
use Rattle.ic_raw.proofs.Doubly.{next_represented, prev_represented, told_after, told_before}
use Rattle.ic_raw.proofs.Gaps.{gap_is}
use Rattle.ic_raw.proofs.Own.{sides_are}
use Rattle.ic_raw.specs.LinkWords.{lent_table}
use Rattle.ic_raw.proofs.LinkViews.{link_words}
use Rattle.ic_raw.proofs.list.gap_inside.Goals as goal

pub returns-else-not-is_after-clause-shown : goal.returns-else-not-is_after-clause-shown
returns-else-not-is_after-clause-shown g c gap list cut is shown beside' =
    let words = link_words g.W.Words g.W.NextWord g.W.PrevPlace in
    let beside = sym c.in-Some.is ∙ rw c.in-After.is at beside' in
    some_same (sym is ∙ gap_is cut beside (sym c.in-Some-next.is ∙ c.next.ensures ∙ next_represented words cut.front cut.back shown _ beside))

pub returns-else-not-is_before-clause-shown : goal.returns-else-not-is_before-clause-shown
returns-else-not-is_before-clause-shown g c gap list cut is shown beside' =
    let words = link_words g.W.Words g.W.NextWord g.W.PrevPlace in
    let beside = sym c.in-Some.is ∙ rw c.in-Before.is at beside' in
    some_same (sym is ∙ gap_is cut (sym c.in-Some-prev.is ∙ c.prev.ensures ∙ prev_represented words cut.front cut.back shown _ beside) beside)

pub returns-else-not-is_after-clause-links_back : goal.returns-else-not-is_after-clause-links_back
returns-else-not-is_after-clause-links_back g c gap list is =
    let words = link_words g.W.Words g.W.NextWord g.W.PrevPlace in
    let links_back = told_after words (lent_table words c.args.links.now) list (Some c.in-Some.at) (Some c.in-Some-next.after) (sym c.next.ensures ∙ c.in-Some-next.is)
    (c.is_after.ensures.stands c.if-not-is_after.false) (c.is_after.ensures.prev c.if-not-is_after.false) in
    rw (c.in-After.is, c.in-Some.is) links_back

pub returns-else-not-is_before-clause-links_back : goal.returns-else-not-is_before-clause-links_back
returns-else-not-is_before-clause-links_back g c gap list is =
    let words = link_words g.W.Words g.W.NextWord g.W.PrevPlace in
    let links_back = told_before words (lent_table words c.args.links.now) list (Some c.in-Some.at) (Some c.in-Some-prev.before) (sym c.prev.ensures ∙ c.in-Some-prev.is)
    (c.is_before.ensures.stands c.if-not-is_before.false) (c.is_before.ensures.next c.if-not-is_before.false) in
    rw (c.in-Before.is, c.in-Some.is) links_back

pub returns-else-not-is_after-clause-sides : goal.returns-else-not-is_after-clause-sides
returns-else-not-is_after-clause-sides g c gap list is = rw (c.in-After.is, c.in-Some.is) (sym (some_same is) ∙ sides_are refl (sym c.in-Some-next.is ∙ c.next.ensures))

pub returns-else-not-is_before-clause-sides : goal.returns-else-not-is_before-clause-sides
returns-else-not-is_before-clause-sides g c gap list is = rw (c.in-Before.is, c.in-Some.is) (sym (some_same is) ∙ sides_are (sym c.in-Some-prev.is ∙ c.prev.ensures) refl)
