use Rattle.std.proofs.Common.{[], ◌∷◌, drop, refl, sym, subst, ◌∙◌}
use Rattle.ic_link_ops.proofs.DoublyLists.{neighbors_covered}
use Rattle.ic_ring.specs.Rings.{Represents}
use Rattle.ic_ring.proofs.Circles.{seen_at, ring_frame, tested_same, tested_other}
use Rattle.ic_ring.proofs.OtherRings.{others_same}
use Rattle.ic_ring.proofs.CursorPlaces.{in_ring, null_after, taken_out, gone_on, gap_ahead, stands_ahead, others_without, ring_at}
use Rattle.ic_ring.proofs.cursor_mut.CursorMut.remove.Goals as goal

pub returns-then-eq-clause-answer : goal.returns-then-eq-clause-answer
returns-then-eq-clause-answer g c = tested_same c.args.self.now.at c.args.self.now.head (sym c.eq.ensures ∙ c.if-eq.true)

pub returns-then-eq-clause-moved : goal.returns-then-eq-clause-moved
returns-then-eq-clause-moved g c gap shown is =
    null_after c.args.self.now.head gap.front gap.back shown (tested_same c.args.self.now.at c.args.self.now.head (sym c.eq.ensures ∙ c.if-eq.true)) is

pub returns-then-eq-clause-kept : goal.returns-then-eq-clause-kept
returns-then-eq-clause-kept g c = record {
  stands = c.requires.stands;
  same = (refl, refl);
  others = others_same (c.args.self.now.head ∷ []) refl;
  frame = λ s shown. record { extent = refl; others = λ q out. refl };
}

pub prev_of-prev-requires : goal.prev_of-prev-requires
prev_of-prev-requires g c = in_ring (g.L.LinkOps.table c.args.self.now.links.now) c.requires.stands

pub next_of-next-requires : goal.next_of-next-requires
next_of-next-requires g c = in_ring (g.L.LinkOps.table c.args.self.now.links.now) c.requires.stands

pub unlink-requires : goal.unlink-requires
unlink-requires g c = record {
  ring = in_ring (g.L.LinkOps.table c.args.self.now.links.now) c.requires.stands;
  before = c.prev_of-prev.ensures;
  after = c.next_of-next.ensures;
}

pub returns-clause-answer : goal.returns-clause-answer
returns-clause-answer g c = (c.new.ensures, tested_other c.args.self.now.at c.args.self.now.head (sym c.eq.ensures ∙ c.if-eq.false))

-- after the removal, the ring has the members before the removed member and the members after it
pub returns-clause-removed : goal.returns-clause-removed
returns-clause-removed g c gap shown is =
    let head = c.args.self.now.head in
    let at = c.args.self.now.at in
    let other = tested_other at head (sym c.eq.ensures ∙ c.if-eq.false) in
    taken_out gap.front gap.back other is shown c.unlink.ensures.taken

pub returns-clause-moved : goal.returns-clause-moved
returns-clause-moved g c gap shown is =
    let other = tested_other c.args.self.now.at c.args.self.now.head (sym c.eq.ensures ∙ c.if-eq.false) in
    gone_on (g.L.LinkOps.table c.args.self.now.links.now) gap.front gap.back other is shown c.next_of-next.ensures

pub returns-clause-kept : goal.returns-clause-kept
returns-clause-kept g c = record {
  stands =
      let t = g.L.LinkOps.table c.args.self.now.links.now in
      let head = c.args.self.now.head in
      let other = tested_other c.args.self.now.at head (sym c.eq.ensures ∙ c.if-eq.false) in
      let k = c.requires.stands in
      let ahead = gap_ahead head k.0.front k.0.back k.2 in
      let gap = ahead.0 in
      let shown = subst (Represents g.L.LinkedListOps.neighbors t head) (sym ahead.1) k.1 in
      stands_ahead (g.L.LinkOps.table c.unlink.new.links) head gap.front (drop 1 gap.back) (taken_out gap.front gap.back other ahead.2 shown c.unlink.ensures.taken)
      (gone_on t gap.front gap.back other ahead.2 shown c.next_of-next.ensures);
  same = (refl, refl);
  others = others_without (g.L.LinkOps.table c.args.self.now.links.now) c.requires.stands c.unlink.ensures.others;
  frame = λ s shown.
      let law = neighbors_covered g.L.LinkedListOps.neighbors g.L.LinkOps.table g.met.L.LinkOps.linked_is_covered g.met.L.LinkedListOps.linked_alike in
      let ring = ring_at (g.L.LinkOps.table c.args.self.now.links.now) c.requires.stands (law c.args.self.now.links.now) s shown in
      let seen = seen_at ring.0 ring.1 in record {
        extent = c.unlink.ensures.extent;
        others = λ q out. ring_frame seen.0 seen.1 c.prev_of-prev.ensures c.next_of-next.ensures c.unlink.ensures.beside q (seen.2 q out);
      };
}
