use Rattle.std.proofs.Common.{refl, sym, ◌∙◌}
use Rattle.ic_ring.proofs.Circles.{prev_linked, prev_not, head_linked, stays_linked, free_outside, circle_beside}
use Rattle.ic_ring.proofs.OtherRings.{others_stay_beside}
use Rattle.ic_ring.proofs.beside.insert_between.Goals as goal

pub link_between-requires : goal.link_between-requires
link_between-requires g c =
    let alike = g.met.L.LinkedListOps.linked_alike in
    let ring = c.requires.ring in record {
      covered = c.requires.covered;
      prev = g.met.L.LinkOps.covered_has_name _ _ (g.met.L.LinkOps.linked_is_covered _ _ (prev_linked alike ring.0 ring.1 c.requires.before));
      next = g.met.L.LinkOps.covered_has_name _ _ (g.met.L.LinkOps.linked_is_covered _ _ (head_linked alike ring.1));
    }

pub turn_to-requires : goal.turn_to-requires
turn_to-requires g c =
    let alike = g.met.L.LinkedListOps.linked_alike in
    let links = g.met.L.LinkOps.does_replay _ _ _ c.if-not-link_between.ensures.acquired in
    let ring = c.requires.ring in record {
      before = stays_linked c.args.before links (prev_linked alike ring.0 ring.1 c.requires.before);
      after = stays_linked c.args.after links (head_linked alike ring.1);
      place = g.met.L.LinkOps.covered_has_name _ _ c.requires.covered;
    }

pub returns-clause-inserted : goal.returns-clause-inserted
returns-clause-inserted g c s shown =
    let a = c.if-not-link_between.ensures in
    let out = free_outside g.met.L.LinkedListOps.linked_alike shown (g.met.L.LinkOps.does_replay _ _ _ a.acquired).was in
    c.turn_to.ensures.filled _ (circle_beside c.args.place shown out a.frame.others) out (sym c.requires.before ∙ shown.chain.0.prev) refl a.set

pub returns-clause-acquired : goal.returns-clause-acquired
returns-clause-acquired g c = g.met.L.LinkOps.does_on _ _ _ _ _ c.if-not-link_between.ensures.acquired c.turn_to.ensures.trace_stays

pub returns-clause-others : goal.returns-clause-others
returns-clause-others g c =
    let a = c.if-not-link_between.ensures in
    let ring = c.requires.ring in
    let free = (g.met.L.LinkOps.does_replay _ _ _ a.acquired).was in
    others_stay_beside g.met.L.LinkedListOps.linked_alike c.args.place c.args.after ring.0 free ring.1
    (λ q out. c.turn_to.ensures.others q (prev_not ring.0 ring.1 c.requires.before out.1) out.1.0 ∙ a.frame.others q out.0)

pub returns-clause-extent : goal.returns-clause-extent
returns-clause-extent g c = c.turn_to.ensures.extent ∙ c.if-not-link_between.ensures.frame.extent

pub returns-clause-beside : goal.returns-clause-beside
returns-clause-beside g c q x y z = c.turn_to.ensures.others q x z ∙ c.if-not-link_between.ensures.frame.others q y
