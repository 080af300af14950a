use Rattle.ic_ring.proofs.CursorPlaces.{stands_at}
use Rattle.ic_ring.proofs.ring.Ring.cursor_mut_at.Goals as goal

pub returns-clause-stands : goal.returns-clause-stands
returns-clause-stands g c =
    rw (c.new.ensures.borrows.1, c.new.ensures.head, c.new.ensures.at, c.head.ensures)
    (stands_at (g.L.LinkOps.table c.args.links.now) c.requires.here.0 c.requires.here.1 c.requires.here.2)
