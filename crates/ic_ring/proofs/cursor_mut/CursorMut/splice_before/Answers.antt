use Rattle.std.proofs.Common.{◌∷◌, ◌++◌, sym, subst, rules}
use Rattle.ic_link_ops.specs.Sequences.{but_last}
use Rattle.ic_link_ops.proofs.DoublyLists.{neighbors_covered}
use Rattle.ic_ring.specs.Rings.{Represents}
use Rattle.ic_ring.proofs.CursorPlaces.{in_ring, seen_after, spliced_back, stands_spliced, prev_stands_too, given_apart, moved_back, gap_ahead, others_without_both, ring_at, frame_both}
use Rattle.ic_ring.proofs.cursor_mut.CursorMut.splice_before.Goals as goal

pub prev_of-prev-requires : goal.prev_of-prev-requires
prev_of-prev-requires g c = in_ring (g.L.LinkOps.table c.args.self.now.links.now) c.requires.stands

pub splice_after_place-requires : goal.splice_after_place-requires
splice_after_place-requires g c =
    let t = g.L.LinkOps.table c.args.self.now.links.now in
    let a = c.requires.apart in
    record { ring = in_ring t (prev_stands_too (g.L.LinkOps.table c.args.self.now.links.now) c.requires.stands c.prev_of-prev.ensures); apart = rw c.head.ensures (a.0, a.1, given_apart t (prev_stands_too (g.L.LinkOps.table c.args.self.now.links.now) c.requires.stands c.prev_of-prev.ensures) a.0 a.1 a.2) }

pub returns : goal.returns
returns g c = record {
  spliced = λ gap t shown is other.
      let leads = moved_back (g.L.LinkOps.table c.args.self.now.links.now) c.prev_of-prev.ensures gap.front gap.back shown is in
      let w = but_last (c.args.self.now.head ∷ gap.front) in
      let e = rw c.head.ensures at (c.splice_after_place.ensures.spliced (gap.back ++ w) t (seen_after gap.front gap.back leads shown) (rw c.head.ensures other)) in
      (spliced_back gap.front gap.back t leads e.0, e.1);
  trace_stays = search rules;
  at = search rules;
  stands =
      let t = g.L.LinkOps.table c.args.self.now.links.now in
      let head = c.args.self.now.head in
      let k = c.requires.stands in
      let gap = gap_ahead head k.0.front k.0.back k.2 in
      let shown = subst (Represents g.L.LinkedListOps.neighbors t head) (sym gap.1) k.1 in
      let leads = moved_back t c.prev_of-prev.ensures gap.0.front gap.0.back shown gap.2 in
      let a = c.requires.apart in
      let w = but_last (head ∷ gap.0.front) in
      let e = rw c.head.ensures at (c.splice_after_place.ensures.spliced (gap.0.back ++ w) a.0 (seen_after gap.0.front gap.0.back leads shown) (rw c.head.ensures a.1)) in
      stands_spliced (g.L.LinkOps.table c.splice_after_place.new.links) head gap.0.front a.0 gap.0.back (spliced_back gap.0.front gap.0.back a.0 leads e.0) gap.2;
  others = others_without_both (g.L.LinkOps.table c.args.self.now.links.now) (prev_stands_too (g.L.LinkOps.table c.args.self.now.links.now) c.requires.stands c.prev_of-prev.ensures) (rw c.head.ensures at c.splice_after_place.ensures.others);
  frame = λ t other s shown.
      let law = neighbors_covered g.L.LinkedListOps.neighbors g.L.LinkOps.table g.met.L.LinkOps.linked_is_covered g.met.L.LinkedListOps.linked_alike in
      frame_both (ring_at (g.L.LinkOps.table c.args.self.now.links.now) (prev_stands_too (g.L.LinkOps.table c.args.self.now.links.now) c.requires.stands c.prev_of-prev.ensures) (law c.args.self.now.links.now) s shown)
      (λ r seen. rw c.head.ensures at (c.splice_after_place.ensures.frame r t seen (rw c.head.ensures other)));
  same = search rules;
}
