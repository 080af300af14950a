use Rattle.std.proofs.Common.{◌∷◌, ◌++◌, refl, subst, sym, rules}
use Rattle.ic_link_ops.specs.Sequences.{but_last}
use Rattle.ic_link_ops.proofs.DoublyLists.{neighbors_covered}
use Rattle.ic_ring.specs.RingCursors.{IsValidCursor}
use Rattle.ic_ring.proofs.CursorPlaces.{in_ring, seen_after, turned_back, on_ok, either_way, others_without, ring_at}
use Rattle.ic_ring.proofs.cursor_mut.CursorMut.insert_after.Goals as goal

pub insert_after-requires : goal.insert_after-requires
insert_after-requires g c = record { covered = c.requires.covered; ring = in_ring (g.L.LinkOps.table c.args.self.now.links.now) c.requires.stands }

pub returns : goal.returns
returns g c = record {
  inserted = λ gap shown is.
      let head = c.args.self.now.head in
      on_ok c.insert_after.result (turned_back gap.front (c.args.object ∷ gap.back) is)
      (c.insert_after.ensures.at_head (gap.back ++ but_last (head ∷ gap.front)) (seen_after gap.front gap.back is shown));
  acquired = search rules;
  refused = search rules;
  unchanged = search rules;
  at = search rules;
  kept = record {
    stands =
        let head = c.args.self.now.head in
        let k = c.requires.stands in
        let gap = k.0 in
        let e = c.insert_after.ensures in
        either_way c.insert_after.result
        (on_ok c.insert_after.result (turned_back gap.front (c.args.object ∷ gap.back) k.2) (e.at_head (gap.back ++ but_last (head ∷ gap.front)) (seen_after gap.front gap.back k.2 k.1)))
        e.refused
        (λ shown. (record { front = gap.front; back = c.args.object ∷ gap.back }, shown, k.2))
        (λ no. subst (λ t. IsValidCursor g.L.LinkedListOps.neighbors t head c.args.self.now.at) (sym (g.met.L.LinkOps.refused_keeps _ _ _ no)) k);
    same = (refl, refl);
    others = others_without (g.L.LinkOps.table c.args.self.now.links.now) c.requires.stands c.insert_after.ensures.others;
    frame = λ s shown.
        let law = neighbors_covered g.L.LinkedListOps.neighbors g.L.LinkOps.table g.met.L.LinkOps.linked_is_covered g.met.L.LinkedListOps.linked_alike in
        c.insert_after.ensures.frame (c.args.self.now.head ∷ s) (ring_at (g.L.LinkOps.table c.args.self.now.links.now) c.requires.stands (law c.args.self.now.links.now) s shown);
  };
}
