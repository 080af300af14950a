use Rattle.std.proofs.Common.{◌∙◌, sym}
use Rattle.ic_link_ops.specs.Sequences.{join, at_front}
use Rattle.ic_link_ops.proofs.Prelude.{first_of_back, moves_on}
use Rattle.ic_chain.proofs.Standing.{stands}
use Rattle.ic_chain.proofs.edits.LinkListCursorOps.next_of.Goals as goal

pub position_at-requires : goal.position_at-requires
position_at-requires g c = let at = c.requires.stands in record { shown = λ reads. (at_front (join at.gap), at.shown, c.in-None.is, c.head_from_null.ensures ∙ at.shown.head) }

pub position_at-requires-in-Some : goal.position_at-requires-in-Some
position_at-requires-in-Some g c =
    let at = c.requires.stands in record { shown = λ reads. (at.gap, at.shown, c.get-current.ensures ∙ at.after, c.after.ensures at.gap at.shown at.after) }

pub returns-in-None-clause-moved : goal.returns-in-None-clause-moved
returns-in-None-clause-moved g c = moves_on (stands c.requires.stands) (λ gap shown after.
    c.position_at.ensures.on ∙ c.head_from_null.ensures ∙ shown.head ∙ first_of_back gap.front gap.back (sym c.in-None.is ∙ c.get-current.ensures ∙ after))

pub returns-in-Some-clause-moved : goal.returns-in-Some-clause-moved
returns-in-Some-clause-moved g c = moves_on (stands c.requires.stands) (λ gap shown after. c.position_at-in-Some.ensures.on ∙ c.after.ensures gap shown after)

pub returns-in-None-clause-kept : goal.returns-in-None-clause-kept
returns-in-None-clause-kept g c =
    let at = c.requires.stands in c.position_at.ensures.kept (at_front (join at.gap)) at.shown c.in-None.is (c.head_from_null.ensures ∙ at.shown.head)

pub returns-in-Some-clause-kept : goal.returns-in-Some-clause-kept
returns-in-Some-clause-kept g c =
    let at = c.requires.stands in c.position_at-in-Some.ensures.kept at.gap at.shown (c.get-current.ensures ∙ at.after) (c.after.ensures at.gap at.shown at.after)
