use Rattle.std.proofs.Common.{Some, sym, ap, ◌∙◌}
use Rattle.ic_link_ops.proofs.Prelude.{some_same, represents_middle}
use Rattle.ic_raw.proofs.Doubly.{told_after, told_before}
use Rattle.ic_raw.proofs.Gaps.{gap_is}
use Rattle.ic_raw.proofs.Own.{sides_are}
use Rattle.ic_raw.specs.LinkWords.{lent_table}
use Rattle.ic_raw.proofs.LinkViews.{link_words}
use Rattle.ic_raw.proofs.list.between.Goals as goal

pub returns-clause-shown : goal.returns-clause-shown
returns-clause-shown g c gap list front back is shown =
    let there = represents_middle front back shown in
    some_same (sym is ∙ gap_is (record { front = front; back = back }) (sym c.in-Some.is ∙ c.prev.ensures ∙ there.prev) (sym c.in-Some-next.is ∙ c.next.ensures ∙ there.next))

pub returns-clause-prev : goal.returns-clause-prev
returns-clause-prev g c gap is = (c.in-Some.before, sym (ap (λ g. g.before) (some_same is)))

pub returns-clause-next : goal.returns-clause-next
returns-clause-next g c gap is = (c.in-Some-next.after, sym (ap (λ g. g.after) (some_same is)))

pub returns-clause-before : goal.returns-clause-before
returns-clause-before g c gap list is =
    let words = link_words g.W.Words g.W.NextWord g.W.PrevPlace in
    told_before words (lent_table words c.args.links.now) list (Some c.args.member) (Some c.in-Some.before) (sym c.prev.ensures ∙ c.in-Some.is)
    (c.is_before.ensures.stands c.if-not-is_before.false) (c.is_before.ensures.next c.if-not-is_before.false)

pub returns-clause-after : goal.returns-clause-after
returns-clause-after g c gap list is =
    let words = link_words g.W.Words g.W.NextWord g.W.PrevPlace in
    told_after words (lent_table words c.args.links.now) list (Some c.args.member) (Some c.in-Some-next.after) (sym c.next.ensures ∙ c.in-Some-next.is)
    (c.is_after.ensures.stands c.if-not-is_after.false) (c.is_after.ensures.prev c.if-not-is_after.false)

pub returns-clause-sides : goal.returns-clause-sides
returns-clause-sides g c gap list is = sym (some_same is) ∙ sides_are (sym c.in-Some.is ∙ c.prev.ensures) (sym c.in-Some-next.is ∙ c.next.ensures)
