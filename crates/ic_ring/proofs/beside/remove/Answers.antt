use Rattle.std.proofs.Common.{◌∷◌, ◌++◌}
use Rattle.ic_ring.proofs.Circles.{rotated, seen_from, seen_at, ring_frame}
use Rattle.ic_ring.proofs.beside.remove.Goals as goal

pub prev_of-prev-requires : goal.prev_of-prev-requires
prev_of-prev-requires g c = rw c.place-place.ensures c.requires.member

pub next_of-next-requires : goal.next_of-next-requires
next_of-next-requires g c = rw c.place-place.ensures c.requires.member

pub unlink-requires : goal.unlink-requires
unlink-requires g c = record { ring = rw c.place-place.ensures c.requires.member; before = c.prev_of-prev.ensures; after = c.next_of-next.ensures }

pub returns-clause-removed : goal.returns-clause-removed
returns-clause-removed g c head front back shown =
    rotated back (head ∷ front) (c.unlink.ensures.taken (back ++ head ∷ front) (rw c.place-place.ensures (seen_from front c.args.object.now back shown)))

pub returns-clause-released : goal.returns-clause-released
returns-clause-released g c = rw (← c.place-place.ensures) c.unlink.ensures.released

pub returns-clause-others : goal.returns-clause-others
returns-clause-others g c = rw (← c.place-place.ensures) c.unlink.ensures.others

pub returns-clause-frame : goal.returns-clause-frame
returns-clause-frame g c r ring =
    let seen = seen_at ring.0 ring.1 in record {
      extent = c.unlink.ensures.extent;
      others = λ q out.
          ring_frame seen.0 seen.1 (rw c.place-place.ensures at c.prev_of-prev.ensures) (rw c.place-place.ensures at c.next_of-next.ensures)
          (rw c.place-place.ensures at c.unlink.ensures.beside) q (seen.2 q out);
    }
