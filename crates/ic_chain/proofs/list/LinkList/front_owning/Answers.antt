use Rattle.std.proofs.Common.{◌∙◌, refl}
use Rattle.ic_link_ops.specs.Sequences.{at_front}
use Rattle.ic_chain.proofs.list.LinkList.front_owning.Goals as goal

pub position_at-at-requires : goal.position_at-at-requires
position_at-at-requires g c = record { shown = λ reads. let s = c.requires.shown reads in (at_front s.0, s.1, refl, c.first.ensures ∙ s.1.head) }

pub returns-clause-position : goal.returns-clause-position
returns-clause-position g c s shown = rw c.new.ensures.position (c.position_at-at.ensures.on ∙ c.first.ensures ∙ shown.head)

pub returns-clause-kept : goal.returns-clause-kept
returns-clause-kept g c shown =
    rw (c.new.ensures.list, c.new.ensures.position) (c.position_at-at.ensures.kept (at_front shown.0) shown.1 refl (c.first.ensures ∙ shown.1.head))
