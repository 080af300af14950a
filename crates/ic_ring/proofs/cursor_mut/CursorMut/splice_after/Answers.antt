use Rattle.std.proofs.Common.{◌∷◌, ◌++◌, rules}
use Rattle.ic_link_ops.specs.Sequences.{but_last}
use Rattle.ic_link_ops.proofs.DoublyLists.{neighbors_covered}
use Rattle.ic_ring.proofs.CursorPlaces.{in_ring, seen_after, spliced_back, given_apart, others_without_both, ring_at, frame_both}
use Rattle.ic_ring.proofs.cursor_mut.CursorMut.splice_after.Goals as goal

pub splice_after_place-requires : goal.splice_after_place-requires
splice_after_place-requires g c =
    let t = g.L.LinkOps.table c.args.self.now.links.now in
    let a = c.requires.apart in
    record { ring = in_ring t c.requires.stands; apart = rw c.head.ensures (a.0, a.1, given_apart t c.requires.stands a.0 a.1 a.2) }

pub returns : goal.returns
returns g c = record {
  spliced = λ gap t shown is other.
      let w = but_last (c.args.self.now.head ∷ gap.front) in
      let e = rw c.head.ensures at (c.splice_after_place.ensures.spliced (gap.back ++ w) t (seen_after gap.front gap.back is shown) (rw c.head.ensures other)) in
      (spliced_back gap.front gap.back t is e.0, e.1);
  trace_stays = search rules;
  at = search rules;
  stands =
      let k = c.requires.stands in
      let gap = k.0 in
      let a = c.requires.apart in
      let w = but_last (c.args.self.now.head ∷ gap.front) in
      let e = rw c.head.ensures at (c.splice_after_place.ensures.spliced (gap.back ++ w) a.0 (seen_after gap.front gap.back k.2 k.1) (rw c.head.ensures a.1)) in
      (record { front = gap.front; back = a.0 ++ gap.back }, spliced_back gap.front gap.back a.0 k.2 e.0, k.2);
  others = others_without_both (g.L.LinkOps.table c.args.self.now.links.now) c.requires.stands (rw c.head.ensures at c.splice_after_place.ensures.others);
  frame = λ t other s shown.
      let law = neighbors_covered g.L.LinkedListOps.neighbors g.L.LinkOps.table g.met.L.LinkOps.linked_is_covered g.met.L.LinkedListOps.linked_alike in
      frame_both (ring_at (g.L.LinkOps.table c.args.self.now.links.now) c.requires.stands (law c.args.self.now.links.now) s shown)
      (λ r seen. rw c.head.ensures at (c.splice_after_place.ensures.frame r t seen (rw c.head.ensures other)));
  same = search rules;
}
