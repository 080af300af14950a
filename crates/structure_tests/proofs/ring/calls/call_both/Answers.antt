use Rattle.std.proofs.Common.{[], ◌∷◌, drop, inl, inr, refl, subst, sym, ◌++◌}
use Rattle.ic_link_ops.specs.Prelude.{IsAbsent, acquires}
use Rattle.ic_link_ops.proofs.SequenceLemmas.{absent_both}
use Rattle.ic_ring.proofs.Circles.{free_outside}
use Rattle.structure_tests.proofs.Rings.{either_way, both_ways, heads_apart, first_of, first_in_ring, first_absent, places_of, member_apart}
use Rattle.structure_tests.proofs.ring.calls.call_both.Goals as goal
use Rattle.structure_tests.proofs.ring.calls.call_both.Goals.{in-MoveFirstToBack+in_ok-back-in-MoveFirstToBack, in-MoveFirstToFront+in_ok-front-in-MoveFirstToFront, in-SplitAfterFirst+in_ok-first-in-SplitAfterFirst, in-SpliceBack}

pub returns-in-PushBack : goal.returns-in-PushBack
returns-in-PushBack g c =
    let two = c.requires.two in
    let q = two.shown in
    let a = two.apart in
    let e = c.push_back.ensures in
    record {
      two = either_way c.push_back.result (both_ways _ _ c.push_back.result (e.inserted a.0 a.1) e.acquired) e.refused
          (λ k.
          let off = (g.met.L.LinkOps.does_replay _ _ (acquires c.new.result ∷ []) k.1).was in
          let out = free_outside g.met.L.LinkedListOps.linked_alike q.1 off in
          record {
            covers = places_of (e.frame a.0 a.1).extent two.covers;
            shown = (q.0, e.others.rings _ q.1 (heads_apart g.L.LinkedListOps.neighbors (g.L.LinkOps.table c.args.links.now) q.0 a.0 q.1 a.1 a.2, tt));
            apart = (_, k.0, (a.2.0, absent_both c.args.ring.now a.0 (c.new.result ∷ []) a.2.1 ((λ e. out.0 (sym e)), tt)));
          })
          (λ no. rw (g.met.L.LinkOps.refused_keeps _ _ _ no) two);
    }

pub move_before-requires-clause-ring : goal.move_before-requires-clause-ring
move_before-requires-clause-ring g c = rw c.head.ensures c.requires.two.shown

pub move_before-requires-clause-member : goal.move_before-requires-clause-member
move_before-requires-clause-member g c = let a = c.requires.two.apart in rw c.new-in-MoveFirstToBack.ensures (first_in_ring g.L.LinkedListOps.neighbors (g.L.LinkOps.table c.args.links.now) a.0 a.1 (c.in_ok-back-in-MoveFirstToBack.ensures a.0 a.1))

pub move_before-requires-clause-other : goal.move_before-requires-clause-other
move_before-requires-clause-other g c = let a = c.requires.two.apart in rw (c.head.ensures, c.new-in-MoveFirstToBack.ensures) (first_absent a.0 (c.in_ok-back-in-MoveFirstToBack.ensures a.0 a.1) a.2).1.0

pub move_after-requires-clause-ring : goal.move_after-requires-clause-ring
move_after-requires-clause-ring g c = rw c.head-in-MoveFirstToFront.ensures c.requires.two.shown

pub move_after-requires-clause-member : goal.move_after-requires-clause-member
move_after-requires-clause-member g c = let a = c.requires.two.apart in rw c.new-in-MoveFirstToFront.ensures (first_in_ring g.L.LinkedListOps.neighbors (g.L.LinkOps.table c.args.links.now) a.0 a.1 (c.in_ok-front-in-MoveFirstToFront.ensures a.0 a.1))

pub move_after-requires-clause-other : goal.move_after-requires-clause-other
move_after-requires-clause-other g c = let a = c.requires.two.apart in rw (c.head-in-MoveFirstToFront.ensures, c.new-in-MoveFirstToFront.ensures) (first_absent a.0 (c.in_ok-front-in-MoveFirstToFront.ensures a.0 a.1) a.2).1.0

pub split_after-requires-clause-cut : goal.split_after-requires-clause-cut
split_after-requires-clause-cut g c =
    let q = c.requires.two.shown in
    (c.in_ok-first-in-SplitAfterFirst.first ∷ [], drop 1 q.0, first_of g.L.LinkedListOps.neighbors (g.L.LinkOps.table c.args.links.now) q.0 q.1 (c.in_ok-first-in-SplitAfterFirst.ensures q.0 q.1), refl)

pub returns : goal.returns
returns g c =
    let two = c.requires.two in
    let q = two.shown in
    let a = two.apart in
    record {
      two = elim c.match-call.branch [
        | in-MoveFirstToBack+in_ok-back-in-MoveFirstToBack w ↦
            let first = w.in_ok-back-in-MoveFirstToBack.ensures a.0 a.1 in
            let cut = first_of g.L.LinkedListOps.neighbors (g.L.LinkOps.table c.args.links.now) a.0 a.1 first in
            let ring = first_in_ring g.L.LinkedListOps.neighbors (g.L.LinkOps.table c.args.links.now) a.0 a.1 first in
            let out = first_absent a.0 first a.2 in
            let rest : IsAbsent c.args.ring.now (c.args.other.now ∷ drop 1 a.0) = (out.0, out.1.1) in
            let far = member_apart g.L.LinkedListOps.neighbors (g.L.LinkOps.table c.args.links.now) q.0 (drop 1 a.0) q.1 cut out in
            rw w.links-is (record {
              covers = places_of ((rw (w.head.ensures, w.new-in-MoveFirstToBack.ensures) at w.move_before.ensures.frame) _ _ (q.1, λ out. out.0 refl) (ring.1, λ out. out.0 refl)).extent two.covers;
              shown = (_, (rw w.head.ensures at w.move_before.ensures.at_head) q.0 (inl (q.1, subst (λ p. IsAbsent p (c.args.ring.now ∷ q.0)) (sym w.new-in-MoveFirstToBack.ensures) far)));
              apart = (drop 1 a.0, w.move_before.ensures.left _ (drop 1 a.0) (inr ([], drop 1 a.0, rw w.new-in-MoveFirstToBack.ensures cut, refl)) (subst (λ p. IsAbsent p (c.args.other.now ∷ drop 1 a.0)) (sym w.head.ensures) rest), rest);
            })
        | in-MoveFirstToFront+in_ok-front-in-MoveFirstToFront w ↦
            let first = w.in_ok-front-in-MoveFirstToFront.ensures a.0 a.1 in
            let cut = first_of g.L.LinkedListOps.neighbors (g.L.LinkOps.table c.args.links.now) a.0 a.1 first in
            let ring = first_in_ring g.L.LinkedListOps.neighbors (g.L.LinkOps.table c.args.links.now) a.0 a.1 first in
            let out = first_absent a.0 first a.2 in
            let rest : IsAbsent c.args.ring.now (c.args.other.now ∷ drop 1 a.0) = (out.0, out.1.1) in
            let far = member_apart g.L.LinkedListOps.neighbors (g.L.LinkOps.table c.args.links.now) q.0 (drop 1 a.0) q.1 cut out in
            rw w.links-is (record {
              covers = places_of ((rw (w.head-in-MoveFirstToFront.ensures, w.new-in-MoveFirstToFront.ensures) at w.move_after.ensures.frame) _ _ (q.1, λ out. out.0 refl) (ring.1, λ out. out.0 refl)).extent two.covers;
              shown = (_, (rw w.head-in-MoveFirstToFront.ensures at w.move_after.ensures.at_head) q.0 (inl (q.1, subst (λ p. IsAbsent p (c.args.ring.now ∷ q.0)) (sym w.new-in-MoveFirstToFront.ensures) far)));
              apart = (drop 1 a.0, w.move_after.ensures.left _ (drop 1 a.0) (inr ([], drop 1 a.0, rw w.new-in-MoveFirstToFront.ensures cut, refl)) (subst (λ p. IsAbsent p (c.args.other.now ∷ drop 1 a.0)) (sym w.head-in-MoveFirstToFront.ensures) rest), rest);
            })
        | in-SplitAfterFirst+in_ok-first-in-SplitAfterFirst w ↦
            let cut = first_of g.L.LinkedListOps.neighbors (g.L.LinkOps.table c.args.links.now) q.0 q.1 (w.in_ok-first-in-SplitAfterFirst.ensures q.0 q.1) in
            let e = w.split_after.ensures in
            let parts = e.split (w.in_ok-first-in-SplitAfterFirst.first ∷ []) (drop 1 q.0) a.0 cut refl a.1 in
            rw w.links-is (record {
              covers = places_of (e.frame (w.in_ok-first-in-SplitAfterFirst.first ∷ []) (drop 1 q.0) a.0 cut refl a.1).extent two.covers;
              shown = (w.in_ok-first-in-SplitAfterFirst.first ∷ [], parts.0);
              apart = (drop 1 q.0 ++ a.0, parts.1, (a.2.0, absent_both c.args.ring.now (drop 1 q.0) a.0 cut.distinct.0.1 a.2.1));
            })
        | in-SpliceBack w ↦
            let e = w.splice_back.ensures in
            rw w.links-is (record {
              covers = places_of (e.frame q.0 a.0 q.1 a.1).extent two.covers;
              shown = (_, (e.spliced q.0 a.0 q.1 a.1).0);
              apart = ([], (e.spliced q.0 a.0 q.1 a.1).1, (a.2.0, tt));
            })
      ];
    }
