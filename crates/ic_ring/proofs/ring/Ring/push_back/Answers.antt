use Rattle.std.proofs.Common.{◌∷◌, [], rules}
use Rattle.ic_ring.proofs.Circles.{rotated, prev_not}
use Rattle.ic_ring.proofs.ring.Ring.push_back.Goals as goal

pub prev_of-last-requires : goal.prev_of-last-requires
prev_of-last-requires g c = rw c.self.view_is c.requires.shown

pub insert_between-requires : goal.insert_between-requires
insert_between-requires g c = record { covered = rw c.place.ensures c.requires.covered; ring = rw c.self.view_is c.requires.shown; before = c.prev_of-last.ensures }

pub returns : goal.returns
returns g c = record {
  inserted = λ s shown.
      rw (← c.place.ensures) (rotated (c.place.result ∷ []) (c.args.self.now ∷ s)
      (rw c.self.view_is at (c.if-not-insert_between.ensures.inserted s (rw c.self.view_is shown))));
  acquired = rw (← c.place.ensures) c.if-not-insert_between.ensures.acquired;
  refused = search rules;
  unchanged = search rules;
  others = rw c.self.view_is at c.insert_between.ensures.others;
  frame = λ s shown.
      record {
        extent = c.insert_between.ensures.extent;
        others = λ q out.
            c.insert_between.ensures.beside q (prev_not s shown (rw c.self.view_is at c.prev_of-last.ensures) out.1) (rw c.place.ensures out.0)
            (rw c.self.view_is out.1.0);
      };
}
