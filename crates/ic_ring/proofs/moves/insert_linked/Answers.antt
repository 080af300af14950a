use Rattle.std.proofs.Common.{[], refl, sym, ◌∙◌}
use Rattle.ic_ring.proofs.Circles.{head_linked, prev_linked, prev_stands, circle_beside, circle_untouched, before_apart}
use Rattle.ic_ring.proofs.moves.insert_linked.Goals as goal

pub set_neighbors-requires : goal.set_neighbors-requires
set_neighbors-requires g c =
    let alike = g.met.L.LinkedListOps.linked_alike in
    let ring = c.requires.ring in record {
      linked = c.requires.held;
      before = g.met.L.LinkOps.covered_has_name _ _ (g.met.L.LinkOps.linked_is_covered _ _ (prev_linked alike ring.0 ring.1 c.requires.before));
      after = g.met.L.LinkOps.covered_has_name _ _ (g.met.L.LinkOps.linked_is_covered _ _ (head_linked alike ring.1));
    }

pub turn_to-requires : goal.turn_to-requires
turn_to-requires g c =
    let alike = g.met.L.LinkedListOps.linked_alike in
    let kept = g.met.L.LinkOps.does_replay _ _ [] c.set_neighbors.ensures.trace_stays in
    let ring = c.requires.ring in record {
      before = kept c.args.before ∙ prev_linked alike ring.0 ring.1 c.requires.before;
      after = kept c.args.after ∙ head_linked alike ring.1;
      place = g.met.L.LinkOps.covered_has_name _ _ (g.met.L.LinkOps.linked_is_covered _ _ c.requires.held);
    }

pub returns-clause-put : goal.returns-clause-put
returns-clause-put g c s shown out =
    let set = c.set_neighbors.ensures in
    c.turn_to.ensures.filled _ (circle_beside c.args.place shown out set.frame.others) out (sym c.requires.before ∙ shown.chain.0.prev) refl set.stands

pub returns-clause-trace_stays : goal.returns-clause-trace_stays
returns-clause-trace_stays g c = g.met.L.LinkOps.does_on _ _ _ _ _ c.set_neighbors.ensures.trace_stays c.turn_to.ensures.trace_stays

pub returns-clause-others : goal.returns-clause-others
returns-clause-others g c r circle out out_after =
    let leads = (prev_stands c.requires.ring.0 c.requires.ring.1 c.requires.before).1 in
    circle_untouched r c.args.before c.args.place c.args.after circle (before_apart r c.args.after circle out_after leads) out out_after
    (λ q x y z. c.turn_to.ensures.others q x z ∙ c.set_neighbors.ensures.frame.others q y)

pub returns-clause-extent : goal.returns-clause-extent
returns-clause-extent g c = c.turn_to.ensures.extent ∙ c.set_neighbors.ensures.frame.extent

pub returns-clause-beside : goal.returns-clause-beside
returns-clause-beside g c q x y z = c.turn_to.ensures.others q x z ∙ c.set_neighbors.ensures.frame.others q y
