use Rattle.std.proofs.Common.{[], ◌∷◌, drop, inr, refl, sym, append-nil}
use Rattle.ic_link_ops.specs.Sequences.{but_last}
use Rattle.structure_tests.proofs.Rings.{either_way, first_of, first_in_ring, last_of, last_in_ring, last_other, kept, first_outside, last_outside}
use Rattle.structure_tests.proofs.ring.calls.call_member.Goals as goal
use Rattle.structure_tests.proofs.ring.calls.call_member.Goals.{in-RemoveFirst, in-MoveFirstToBack, in-MoveLastToFront, in_default}

pub insert_before-requires-clause-ring : goal.insert_before-requires-clause-ring
insert_before-requires-clause-ring g c = let q = c.requires.two.1.shown in first_in_ring g.L.LinkedListOps.neighbors (g.L.LinkOps.table c.args.links.now) q.0 q.1 (c.in_ok-first.ensures q.0 q.1)

pub insert_after-requires-clause-ring : goal.insert_after-requires-clause-ring
insert_after-requires-clause-ring g c = let q = c.requires.two.1.shown in first_in_ring g.L.LinkedListOps.neighbors (g.L.LinkOps.table c.args.links.now) q.0 q.1 (c.in_ok-first.ensures q.0 q.1)

pub replace-requires-clause-member : goal.replace-requires-clause-member
replace-requires-clause-member g c = let q = c.requires.two.1.shown in rw c.new-in-ReplaceFirst.ensures (first_in_ring g.L.LinkedListOps.neighbors (g.L.LinkOps.table c.args.links.now) q.0 q.1 (c.in_ok-first.ensures q.0 q.1))

pub remove-requires : goal.remove-requires
remove-requires g c = let q = c.requires.two.1.shown in record { member = rw c.new-in-RemoveFirst.ensures (first_in_ring g.L.LinkedListOps.neighbors (g.L.LinkOps.table c.args.links.now) q.0 q.1 (c.in_ok-first.ensures q.0 q.1)) }

pub move_to_back-requires-clause-member : goal.move_to_back-requires-clause-member
move_to_back-requires-clause-member g c = let q = c.requires.two.1.shown in rw c.new-in-MoveFirstToBack.ensures (first_in_ring g.L.LinkedListOps.neighbors (g.L.LinkOps.table c.args.links.now) q.0 q.1 (c.in_ok-first.ensures q.0 q.1))

pub move_to_back-requires-clause-other : goal.move_to_back-requires-clause-other
move_to_back-requires-clause-other g c = let q = c.requires.two.1.shown in rw c.new-in-MoveFirstToBack.ensures (first_of g.L.LinkedListOps.neighbors (g.L.LinkOps.table c.args.links.now) q.0 q.1 (c.in_ok-first.ensures q.0 q.1)).distinct.0.0

pub move_to_front-requires-clause-member : goal.move_to_front-requires-clause-member
move_to_front-requires-clause-member g c = let q = c.requires.two.1.shown in rw c.new-in-MoveLastToFront.ensures (last_in_ring g.L.LinkedListOps.neighbors (g.L.LinkOps.table c.args.links.now) q.0 q.1 (c.in_ok-last.ensures q.0 q.1))

pub move_to_front-requires-clause-other : goal.move_to_front-requires-clause-other
move_to_front-requires-clause-other g c = let q = c.requires.two.1.shown in rw c.new-in-MoveLastToFront.ensures (last_other g.L.LinkedListOps.neighbors (g.L.LinkOps.table c.args.links.now) (but_last q.0) (last_of g.L.LinkedListOps.neighbors (g.L.LinkOps.table c.args.links.now) q.0 q.1 (c.in_ok-last.ensures q.0 q.1)))

pub returns-in-InsertBeforeFirst : goal.returns-in-InsertBeforeFirst
returns-in-InsertBeforeFirst g c = record {
  two = λ k two.
      let q = two.shown in
      let cut = first_of g.L.LinkedListOps.neighbors (g.L.LinkOps.table c.args.links.now) q.0 q.1 (c.in_ok-first.ensures q.0 q.1) in
      let ring = first_in_ring g.L.LinkedListOps.neighbors (g.L.LinkOps.table c.args.links.now) q.0 q.1 (c.in_ok-first.ensures q.0 q.1) in
      let e = c.insert_before.ensures in
      either_way c.insert_before.result (e.inserted c.args.ring.now [] (drop 1 q.0) cut) e.refused
      (λ shown. kept g.L.LinkedListOps.neighbors _ _ (_ ∷ []) two ((e.frame) _ (ring.1, λ out. out.0 refl)).extent (_, shown) (e.others) (first_outside g.L.LinkedListOps.neighbors (g.L.LinkOps.table c.args.links.now) (drop 1 q.0) two cut, tt))
      (λ no. rw (g.met.L.LinkOps.refused_keeps _ _ _ no) two);
}

pub returns-in-InsertAfterFirst : goal.returns-in-InsertAfterFirst
returns-in-InsertAfterFirst g c = record {
  two = λ k two.
      let q = two.shown in
      let cut = first_of g.L.LinkedListOps.neighbors (g.L.LinkOps.table c.args.links.now) q.0 q.1 (c.in_ok-first.ensures q.0 q.1) in
      let ring = first_in_ring g.L.LinkedListOps.neighbors (g.L.LinkOps.table c.args.links.now) q.0 q.1 (c.in_ok-first.ensures q.0 q.1) in
      let e = c.insert_after.ensures in
      either_way c.insert_after.result (e.inserted c.args.ring.now [] (drop 1 q.0) cut) e.refused
      (λ shown. kept g.L.LinkedListOps.neighbors _ _ (_ ∷ []) two ((e.frame) _ (ring.1, λ out. out.0 refl)).extent (_, shown) (e.others) (first_outside g.L.LinkedListOps.neighbors (g.L.LinkOps.table c.args.links.now) (drop 1 q.0) two cut, tt))
      (λ no. rw (g.met.L.LinkOps.refused_keeps _ _ _ no) two);
}

pub returns-in-ReplaceFirst : goal.returns-in-ReplaceFirst
returns-in-ReplaceFirst g c = record {
  two = λ k two.
      let q = two.shown in
      let cut = first_of g.L.LinkedListOps.neighbors (g.L.LinkOps.table c.args.links.now) q.0 q.1 (c.in_ok-first.ensures q.0 q.1) in
      let ring = first_in_ring g.L.LinkedListOps.neighbors (g.L.LinkOps.table c.args.links.now) q.0 q.1 (c.in_ok-first.ensures q.0 q.1) in
      let e = c.replace.ensures in
      either_way c.replace.result ((rw c.new-in-ReplaceFirst.ensures at e.replaced) c.args.ring.now [] (drop 1 q.0) cut) e.refused
      (λ shown. kept g.L.LinkedListOps.neighbors _ _ (_ ∷ []) two ((rw c.new-in-ReplaceFirst.ensures at e.frame) _ (ring.1, λ out. out.0 refl)).extent (_, shown) (rw c.new-in-ReplaceFirst.ensures at e.others) (first_outside g.L.LinkedListOps.neighbors (g.L.LinkOps.table c.args.links.now) (drop 1 q.0) two cut, tt))
      (λ no. rw (g.met.L.LinkOps.refused_keeps _ _ _ no) two);
}

pub returns : goal.returns
returns g c = record {
  two = λ k two.
      let q = two.shown in
      let cut = first_of g.L.LinkedListOps.neighbors (g.L.LinkOps.table c.args.links.now) q.0 q.1 (c.in_ok-first.ensures q.0 q.1) in
      let end = last_of g.L.LinkedListOps.neighbors (g.L.LinkOps.table c.args.links.now) q.0 q.1 (c.in_ok-last.ensures q.0 q.1) in
      let first = first_in_ring g.L.LinkedListOps.neighbors (g.L.LinkOps.table c.args.links.now) q.0 q.1 (c.in_ok-first.ensures q.0 q.1) in
      let last = last_in_ring g.L.LinkedListOps.neighbors (g.L.LinkOps.table c.args.links.now) q.0 q.1 (c.in_ok-last.ensures q.0 q.1) in
      elim c.match-call.branch [
        | in-RemoveFirst w ↦ rw w.links-is (kept g.L.LinkedListOps.neighbors _ _ (_ ∷ []) two ((rw w.new-in-RemoveFirst.ensures at w.remove.ensures.frame) _ (first.1, λ out. out.0 refl)).extent
            (_, (rw w.new-in-RemoveFirst.ensures at w.remove.ensures.removed) c.args.ring.now [] (drop 1 q.0) cut) (rw w.new-in-RemoveFirst.ensures at w.remove.ensures.others)
            (first_outside g.L.LinkedListOps.neighbors (g.L.LinkOps.table c.args.links.now) (drop 1 q.0) two cut, tt))
        | in-MoveFirstToBack w ↦ rw w.links-is (kept g.L.LinkedListOps.neighbors _ _ (_ ∷ _ ∷ []) two ((rw w.new-in-MoveFirstToBack.ensures at w.move_to_back.ensures.frame) q.0 _ q.1 (first.1, λ out. out.0 refl)).extent
            (_, (rw w.new-in-MoveFirstToBack.ensures at w.move_to_back.ensures.moved) (drop 1 q.0) (inr ([], drop 1 q.0, cut, refl))) (rw w.new-in-MoveFirstToBack.ensures at w.move_to_back.ensures.others)
            (two.apart.2, (first_outside g.L.LinkedListOps.neighbors (g.L.LinkOps.table c.args.links.now) (drop 1 q.0) two cut, tt)))
        | in-MoveLastToFront w ↦ rw w.links-is (kept g.L.LinkedListOps.neighbors _ _ (_ ∷ _ ∷ []) two ((rw w.new-in-MoveLastToFront.ensures at w.move_to_front.ensures.frame) q.0 _ q.1 (last.1, λ out. out.0 refl)).extent
            (_, (rw w.new-in-MoveLastToFront.ensures at w.move_to_front.ensures.moved) (but_last q.0) (inr (but_last q.0, [], end, sym (append-nil (but_last q.0))))) (rw w.new-in-MoveLastToFront.ensures at w.move_to_front.ensures.others)
            (two.apart.2, (last_outside g.L.LinkedListOps.neighbors (g.L.LinkOps.table c.args.links.now) (but_last q.0) two end, tt)))
        | in_default w ↦ rw w.links-is two
      ];
}
