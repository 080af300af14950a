use Rattle.std.proofs.Common.{[], refl}
use Rattle.ic_ring.proofs.ring.Ring.cursor_mut.Goals as goal

pub returns-clause-stands : goal.returns-clause-stands
returns-clause-stands g c =
    rw (c.new.ensures.borrows.1, c.new.ensures.head, c.new.ensures.at, c.head.ensures, c.head-2.ensures)
    (record { front = []; back = c.requires.shown.0 }, c.requires.shown.1, refl)
