use Rattle.std.proofs.Common.{[], ◌∙◌}
use Rattle.ic_ring.proofs.Circles.{head_linked, prev_linked, next_linked, circle_taken, circle_beside, ring_frame}
use Rattle.ic_ring.proofs.OtherRings.{others_stay}
use Rattle.ic_ring.proofs.beside.unlink.Goals as goal

pub bypass-requires : goal.bypass-requires
bypass-requires g c =
    let alike = g.met.L.LinkedListOps.linked_alike in
    let ring = c.requires.ring in record {
      before = prev_linked alike ring.0 ring.1 c.requires.before;
      after = next_linked alike ring.0 ring.1 c.requires.after;
    }

pub release_link-requires : goal.release_link-requires
release_link-requires g c = record {
  linked = g.met.L.LinkOps.does_replay _ _ [] c.bypass.ensures.trace_stays c.args.place ∙ head_linked g.met.L.LinkedListOps.linked_alike c.requires.ring.1;
}

pub returns-clause-taken : goal.returns-clause-taken
returns-clause-taken g c r shown =
    circle_beside c.args.place (circle_taken c.requires.before c.requires.after (c.bypass.ensures.closed c.args.place) r shown)
    shown.distinct.0 c.release_link.ensures.frame.others

pub returns-clause-released : goal.returns-clause-released
returns-clause-released g c = g.met.L.LinkOps.does_on _ _ _ _ _ c.bypass.ensures.trace_stays c.release_link.ensures.released

pub returns-clause-others : goal.returns-clause-others
returns-clause-others g c =
    let ring = c.requires.ring in
    others_stay c.args.place ring.0 ring.1
    (ring_frame ring.0 ring.1 c.requires.before c.requires.after (λ q x y z. c.release_link.ensures.frame.others q y ∙ c.bypass.ensures.others q x z))

pub returns-clause-extent : goal.returns-clause-extent
returns-clause-extent g c = c.release_link.ensures.frame.extent ∙ c.bypass.ensures.extent

pub returns-clause-beside : goal.returns-clause-beside
returns-clause-beside g c q x y z = c.release_link.ensures.frame.others q y ∙ c.bypass.ensures.others q x z
