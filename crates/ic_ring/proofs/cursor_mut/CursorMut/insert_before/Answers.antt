use Rattle.std.proofs.Common.{◌∷◌, ◌++◌, drop, refl, subst, sym, rules}
use Rattle.ic_link_ops.proofs.DoublyLists.{neighbors_covered}
use Rattle.ic_ring.specs.Rings.{Represents}
use Rattle.ic_ring.specs.RingCursors.{IsValidCursor}
use Rattle.ic_ring.proofs.CursorPlaces.{in_ring, seen_ahead, put_ahead, gap_ahead, stands_still, on_ok, either_way, others_without, ring_at}
use Rattle.ic_ring.proofs.cursor_mut.CursorMut.insert_before.Goals as goal

pub insert_before-requires : goal.insert_before-requires
insert_before-requires g c = record { covered = c.requires.covered; ring = in_ring (g.L.LinkOps.table c.args.self.now.links.now) c.requires.stands }

pub returns : goal.returns
returns g c = record {
  inserted = λ gap shown is.
      let head = c.args.self.now.head in
      on_ok c.insert_before.result (put_ahead c.args.object gap.front gap.back is)
      (c.insert_before.ensures.at_head (drop 1 (gap.back ++ head ∷ gap.front)) (seen_ahead gap.front gap.back is shown));
  acquired = search rules;
  refused = search rules;
  unchanged = search rules;
  at = search rules;
  kept = record {
    stands =
        let t = g.L.LinkOps.table c.args.self.now.links.now in
        let head = c.args.self.now.head in
        let k = c.requires.stands in
        let ahead = gap_ahead head k.0.front k.0.back k.2 in
        let gap = ahead.0 in
        let shown = subst (Represents g.L.LinkedListOps.neighbors t head) (sym ahead.1) k.1 in
        let e = c.insert_before.ensures in
        either_way c.insert_before.result
        (on_ok c.insert_before.result (put_ahead c.args.object gap.front gap.back ahead.2) (e.at_head (drop 1 (gap.back ++ head ∷ gap.front)) (seen_ahead gap.front gap.back ahead.2 shown)))
        e.refused
        (λ put. stands_still (g.L.LinkOps.table c.insert_before.new.links) head gap.front c.args.object gap.back put ahead.2)
        (λ no. subst (λ t. IsValidCursor g.L.LinkedListOps.neighbors t head c.args.self.now.at) (sym (g.met.L.LinkOps.refused_keeps _ _ _ no)) k);
    same = (refl, refl);
    others = others_without (g.L.LinkOps.table c.args.self.now.links.now) c.requires.stands c.insert_before.ensures.others;
    frame = λ s shown.
        let law = neighbors_covered g.L.LinkedListOps.neighbors g.L.LinkOps.table g.met.L.LinkOps.linked_is_covered g.met.L.LinkedListOps.linked_alike in
        c.insert_before.ensures.frame (c.args.self.now.head ∷ s) (ring_at (g.L.LinkOps.table c.args.self.now.links.now) c.requires.stands (law c.args.self.now.links.now) s shown);
  };
}
