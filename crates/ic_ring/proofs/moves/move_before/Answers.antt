use Rattle.std.proofs.Common.{◌≡◌, List, [], ◌∷◌, ◌++◌, sym, subst, ◌∙◌}
use Rattle.ic_link_ops.specs.Prelude.{Place, IsAbsent}
use Rattle.ic_link_ops.proofs.SequenceLemmas.{absent_left, absent_right, absent_turned}
use Rattle.ic_ring.specs.Rings.{IsCircle, RepresentsBeside}
use Rattle.ic_ring.proofs.Circles.{prev_not, rotated, seen_from, seen_at, head_linked}
use Rattle.ic_ring.proofs.OtherRings.{ring_left, beside_represented, others_stay_two}
use Rattle.ic_ring.proofs.moves.move_before.Goals as goal
use Rattle.ic_ring.proofs.moves.move_before.Given.{Over}

pub detach-requires : goal.detach-requires
detach-requires g c = record { ring = rw c.place-place.ensures c.requires.member }

pub prev_of-prev-requires : goal.prev_of-prev-requires
prev_of-prev-requires g c =
    let left = ring_left c.requires.ring.0 c.requires.ring.1 c.requires.other (rw c.place-place.ensures at c.detach.ensures.taken) (rw c.place-place.ensures at c.detach.ensures.others) in
    (left.0, left.1)

pub insert_linked-requires : goal.insert_linked-requires
insert_linked-requires g c = record {
  held = rw c.place-place.ensures
      (g.met.L.LinkOps.does_replay _ _ [] c.detach.ensures.trace_stays c.args.object.now ∙ head_linked g.met.L.LinkedListOps.linked_alike c.requires.member.1);
  ring =
      let left = ring_left c.requires.ring.0 c.requires.ring.1 c.requires.other (rw c.place-place.ensures at c.detach.ensures.taken) (rw c.place-place.ensures at c.detach.ensures.others) in
      (left.0, left.1);
  before = c.prev_of-prev.ensures;
}

module _ (g : Over) (c : goal.After-insert_linked g) where
  -- after the call has removed the object from its ring, each ring has its head and its members s without the object
  out : (head : Place) (s : List Place) → RepresentsBeside g.L.LinkedListOps.neighbors (g.L.LinkOps.table c.args.links.now) c.args.object.now head s
      → IsCircle g.L.LinkedListOps.neighbors (g.L.LinkOps.table c.detach.new.links).entry (head ∷ s) × IsAbsent c.args.object.now (head ∷ s)
  out head s beside = beside_represented c.args.object.now head s beside (rw c.place-place.ensures at c.detach.ensures.taken) (rw c.place-place.ensures at c.detach.ensures.others)

  -- after the call has inserted the object, the object is in the ring right before the place `at`
  put : (s : List Place) → IsCircle g.L.LinkedListOps.neighbors (g.L.LinkOps.table c.detach.new.links).entry (c.args.at ∷ s) → IsAbsent c.args.object.now (c.args.at ∷ s)
      → IsCircle g.L.LinkedListOps.neighbors (g.L.LinkOps.table c.insert_linked.new.links).entry (c.args.object.now ∷ c.args.at ∷ s)
  put s circle apart = rw c.place-place.ensures at (c.insert_linked.ensures.put s circle (subst (λ p. IsAbsent p (c.args.at ∷ s)) (sym c.place-place.ensures) apart))

  -- no entries are changed except those of the ring of the place and of the ring of the object
  kept : (r s : List Place) (q : Place) → IsCircle g.L.LinkedListOps.neighbors (g.L.LinkOps.table c.args.links.now).entry (c.args.at ∷ r)
      → IsCircle g.L.LinkedListOps.neighbors (g.L.LinkOps.table c.args.links.now).entry (c.args.object.now ∷ s) → IsAbsent q (c.args.at ∷ r) → IsAbsent q (c.args.object.now ∷ s)
      → (g.L.LinkOps.table c.insert_linked.new.links).entry q ≡ (g.L.LinkOps.table c.args.links.now).entry q
  kept r s q at ring out_at out_object =
      let left = ring_left r at c.requires.other (rw c.place-place.ensures at c.detach.ensures.taken) (rw c.place-place.ensures at c.detach.ensures.others) in
      (rw c.place-place.ensures at c.insert_linked.ensures.beside) q (prev_not left.0 left.1 c.prev_of-prev.ensures (left.2 q out_at)) out_object.0 out_at.0
      ∙ (rw c.place-place.ensures at c.detach.ensures.beside) s q ring out_object

pub returns : goal.returns
returns g c = record {
  moved = λ head front back beside.
      let mid = out g c head (front ++ c.args.at ∷ back) beside in
      rotated (c.args.object.now ∷ c.args.at ∷ back) (head ∷ front)
      (put g c (back ++ head ∷ front) (seen_from front c.args.at back mid.0) (absent_turned c.args.object.now (c.args.at ∷ back) (head ∷ front) mid.1));
  at_head = λ s beside. let mid = out g c c.args.at s beside in rotated (c.args.object.now ∷ []) (c.args.at ∷ s) (put g c s mid.0 mid.1);
  left = λ head s beside out_at.
      let mid = out g c head s beside in
      c.insert_linked.ensures.others (head ∷ s) mid.0 (subst (λ p. IsAbsent p (head ∷ s)) (sym c.place-place.ensures) mid.1) out_at;
  trace_stays = g.met.L.LinkOps.does_on _ _ _ _ _ c.detach.ensures.trace_stays c.insert_linked.ensures.trace_stays;
  others =
      let at = c.requires.ring in
      let ring = c.requires.member in
      others_stay_two c.args.at at.0 c.args.object.now ring.0 at.1 ring.1
      (λ q out. kept g c at.0 ring.0 q at.1 ring.1 (absent_left q (c.args.at ∷ at.0) (c.args.object.now ∷ ring.0) out) (absent_right q (c.args.at ∷ at.0) (c.args.object.now ∷ ring.0) out));
  frame = λ r s at ring.
      let seen_r = seen_at at.0 at.1 in
      let seen_s = seen_at ring.0 ring.1 in record {
        extent = c.insert_linked.ensures.extent ∙ c.detach.ensures.extent;
        others = λ q out. kept g c seen_r.0 seen_s.0 q seen_r.1 seen_s.1 (seen_r.2 q (absent_left q r s out)) (seen_s.2 q (absent_right q r s out));
      };
}
