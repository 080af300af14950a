use Rattle.ic_ring.proofs.Circles.{prev_linked, next_linked, circle_taken, ring_frame}
use Rattle.ic_ring.proofs.OtherRings.{others_stay}
use Rattle.ic_ring.proofs.moves.detach.Goals as goal

pub prev_of-prev-requires : goal.prev_of-prev-requires
prev_of-prev-requires g c = c.requires.ring

pub next_of-next-requires : goal.next_of-next-requires
next_of-next-requires g c = c.requires.ring

pub bypass-requires : goal.bypass-requires
bypass-requires g c =
    let alike = g.met.L.LinkedListOps.linked_alike in
    let ring = c.requires.ring in record {
      before = prev_linked alike ring.0 ring.1 c.prev_of-prev.ensures;
      after = next_linked alike ring.0 ring.1 c.next_of-next.ensures;
    }

pub returns-clause-taken : goal.returns-clause-taken
returns-clause-taken g c r shown = circle_taken c.prev_of-prev.ensures c.next_of-next.ensures (c.bypass.ensures.closed c.args.place) r shown

pub returns-clause-others : goal.returns-clause-others
returns-clause-others g c =
    let ring = c.requires.ring in
    others_stay c.args.place ring.0 ring.1
    (ring_frame ring.0 ring.1 c.prev_of-prev.ensures c.next_of-next.ensures (λ q x y z. c.bypass.ensures.others q x z))

pub returns-clause-beside : goal.returns-clause-beside
returns-clause-beside g c r q ring out = ring_frame r ring c.prev_of-prev.ensures c.next_of-next.ensures (λ q x y z. c.bypass.ensures.others q x z) q out
