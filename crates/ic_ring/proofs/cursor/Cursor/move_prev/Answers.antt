use Rattle.std.proofs.Common.{rules}
use Rattle.ic_ring.proofs.CursorPlaces.{in_ring, moved_back, stands_back}
use Rattle.ic_ring.proofs.cursor.Cursor.move_prev.Goals as goal

pub prev_of-self-requires : goal.prev_of-self-requires
prev_of-self-requires g c = in_ring (g.L.LinkOps.table c.args.self.now.links.now) c.requires.stands

pub returns : goal.returns
returns g c =
    let t = g.L.LinkOps.table c.args.self.now.links.now in record {
      moved = λ gap. moved_back t c.prev_of-self.ensures gap.front gap.back;
      stands = stands_back t c.requires.stands c.prev_of-self.ensures;
      same = search rules;
    }
