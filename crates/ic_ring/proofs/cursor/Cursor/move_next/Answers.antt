use Rattle.std.proofs.Common.{rules}
use Rattle.ic_ring.proofs.CursorPlaces.{in_ring, moved_on, stands_on}
use Rattle.ic_ring.proofs.cursor.Cursor.move_next.Goals as goal

pub next_of-self-requires : goal.next_of-self-requires
next_of-self-requires g c = in_ring (g.L.LinkOps.table c.args.self.now.links.now) c.requires.stands

pub returns : goal.returns
returns g c =
    let t = g.L.LinkOps.table c.args.self.now.links.now in record {
      moved = λ gap. moved_on t c.next_of-self.ensures gap.front gap.back;
      stands = stands_on t c.requires.stands c.next_of-self.ensures;
      same = search rules;
    }
