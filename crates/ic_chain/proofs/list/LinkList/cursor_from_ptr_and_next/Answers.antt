use Rattle.std.proofs.Common.{◌∙◌, ap, Some}
use Rattle.ic_chain.proofs.Standing.{stands_on_member}
use Rattle.ic_chain.proofs.list.LinkList.cursor_from_ptr_and_next.Goals as goal

pub returns-clause-position : goal.returns-clause-position
returns-clause-position g c = rw c.new.ensures.position (c.of-at.ensures.on ∙ ap Some c.place.ensures)

pub returns-clause-kept : goal.returns-clause-kept
returns-clause-kept g c =
    let m = c.requires.member in
    rw (c.new.ensures.list, c.new.ensures.links, c.new.ensures.position)
    (stands_on_member m.front m.back _ m.shown (c.of-at.ensures.on ∙ ap Some c.place.ensures) c.of-at.ensures.caches (c.place_of.ensures ∙ m.neighbor))
