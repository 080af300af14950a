use Rattle.ic_chain.proofs.Standing.{stands_at_null}
use Rattle.ic_chain.proofs.list.LinkList.cursor.Goals as goal

pub returns-clause-kept : goal.returns-clause-kept
returns-clause-kept g c shown = rw (c.new.ensures.list, c.new.ensures.links, c.new.ensures.position) (stands_at_null shown.0 shown.1 c.null-at.ensures.on)
