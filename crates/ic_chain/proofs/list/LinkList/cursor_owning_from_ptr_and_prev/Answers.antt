use Rattle.std.proofs.Common.{◌∙◌, ap, refl, Some}
use Rattle.ic_link_ops.proofs.RepresentedLists.{represents_middle}
use Rattle.ic_chain.proofs.Standing.{stands_on_member}
use Rattle.ic_chain.proofs.list.LinkList.cursor_owning_from_ptr_and_prev.Goals as goal

pub position_at-at-requires : goal.position_at-at-requires
position_at-at-requires g c =
    let m = c.requires.member in record { linked = λ reads. rw c.place.ensures (g.met.K.ForwardLinks.between_linked _ _ _ (represents_middle m.front m.back m.shown)) }

pub returns-clause-position : goal.returns-clause-position
returns-clause-position g c = rw c.new.ensures.position (c.position_at-at.ensures.on ∙ ap Some c.place.ensures)

pub returns-clause-kept : goal.returns-clause-kept
returns-clause-kept g c =
    let m = c.requires.member in
    rw (c.new.ensures.list, c.new.ensures.position)
    (stands_on_member m.front m.back _ m.shown (c.position_at-at.ensures.on ∙ ap Some c.place.ensures)
    (c.position_at-at.ensures.caches _ (rw (c.place.ensures, c.place_of.ensures, m.neighbor) (represents_middle m.front m.back m.shown))) refl)
