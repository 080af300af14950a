use Rattle.std.proofs.Common.{◌≡◌, Some, [], refl, sym, ap, ◌∙◌}
use Rattle.ic_link_ops.specs.Prelude.{first, list_from}
use Rattle.ic_link_ops.proofs.Prelude.{none_not, nothing_last, each_unlinked}
use Rattle.ic_raw.specs.Words.{is_linked_one}
use Rattle.ic_raw.specs.Singly.{Represents, lent_table}
use Rattle.ic_raw.proofs.DoublyWalks.{nothing_first}
use Rattle.ic_raw.proofs.whole.clear_stack.Goals as goal

-- a list that has no first member has no members
pub returns-in_default-clause-cleared : goal.returns-in_default-clause-cleared
returns-in_default-clause-cleared c s shown =
    let nothing : s ≡ [] = nothing_first s (sym shown.head ∙ sym c.first.ensures ∙ c.in_default.is) in
    (refl, record { unlinked = λ p member. absurd (member (rw nothing tt)); frame = record { extent = refl; others = λ q out. refl } })

pub returns-in_default-clause-ended : goal.returns-in_default-clause-ended
returns-in_default-clause-ended c made = ([], record { distinct = tt; chain = tt; head = sym c.first.ensures ∙ c.in_default.is; tail = refl })

-- a list that has a first member also has a last member
pub returns-in_default-last_from-clause-cleared : goal.returns-in_default-last_from-clause-cleared
returns-in_default-last_from-clause-cleared c s shown =
    let whole : Represents (lent_table c.args.links.now) (list_from (Some c.in-Some.front)) s = rw (sym c.first.ensures ∙ c.in-Some.is) at shown in
    let nothing = nothing_last s (sym c.in_default-last_from.is ∙ c.last_from.ensures.shown s whole) in
    absurd (none_not c.in-Some.front (sym (whole.head ∙ ap first nothing)))

pub returns-clause-cleared : goal.returns-clause-cleared
returns-clause-cleared c s shown = (
  refl,
  record {
    unlinked = λ p member. each_unlinked is_linked_one s (lent_table c.args.links.now) (lent_table c.clear.new.links) p (c.clear.ensures.released s shown) member;
    frame = c.clear.ensures.frame s shown;
  },
)
