use Rattle.std.proofs.Common.{◌∷◌, drop, refl, sym, subst, ◌∙◌}
use Rattle.ic_link_ops.proofs.DoublyLists.{neighbors_covered}
use Rattle.ic_ring.specs.Rings.{Represents, IsRingOf}
use Rattle.ic_ring.proofs.Circles.{tested_same, tested_other}
use Rattle.ic_ring.proofs.CursorPlaces.{in_ring, gap_ahead, member_represented, stands_ahead, others_without, ring_at}
use Rattle.ic_ring.proofs.cursor_mut.CursorMut.replace_with.Goals as goal

pub returns-then-eq-clause-refused : goal.returns-then-eq-clause-refused
returns-then-eq-clause-refused g c = (tested_same c.args.self.now.at c.args.self.now.head (sym c.eq.ensures ∙ c.if-eq.true), refl)

pub replace-requires-clause-member : goal.replace-requires-clause-member
replace-requires-clause-member g c = rw c.new-out.ensures (in_ring (g.L.LinkOps.table c.args.self.now.links.now) c.requires.stands)

pub returns-clause-replaced : goal.returns-clause-replaced
returns-clause-replaced g c gap shown is =
    let other = tested_other c.args.self.now.at c.args.self.now.head (sym c.eq.ensures ∙ c.if-eq.false) in
    c.in_default.ensures.replaced c.args.self.now.head gap.front (drop 1 gap.back) (rw c.new-out.ensures (member_represented gap.front gap.back other is shown))

pub returns-clause-kept : goal.returns-clause-kept
returns-clause-kept g c = record {
  stands =
      let t = g.L.LinkOps.table c.args.self.now.links.now in
      let head = c.args.self.now.head in
      let other = tested_other c.args.self.now.at head (sym c.eq.ensures ∙ c.if-eq.false) in
      let k = c.requires.stands in
      let ahead = gap_ahead head k.0.front k.0.back k.2 in
      let gap = ahead.0 in
      let shown = subst (Represents g.L.LinkedListOps.neighbors t head) (sym ahead.1) k.1 in
      let put = c.in_default.ensures.replaced head gap.front (drop 1 gap.back) (rw c.new-out.ensures (member_represented gap.front gap.back other ahead.2 shown)) in
      rw c.place-place.ensures (stands_ahead (g.L.LinkOps.table c.replace.new.links) head gap.front (c.args.object ∷ drop 1 gap.back) put refl);
  same = (refl, refl);
  others = others_without (g.L.LinkOps.table c.args.self.now.links.now) c.requires.stands (rw c.new-out.ensures at c.replace.ensures.others);
  frame = λ s shown.
      let law = neighbors_covered g.L.LinkedListOps.neighbors g.L.LinkOps.table g.met.L.LinkOps.linked_is_covered g.met.L.LinkedListOps.linked_alike in
      c.replace.ensures.frame (c.args.self.now.head ∷ s) (subst (λ p. IsRingOf g.L.LinkedListOps.neighbors (g.L.LinkOps.table c.args.self.now.links.now) p (c.args.self.now.head ∷ s)) (sym c.new-out.ensures)
      (ring_at (g.L.LinkOps.table c.args.self.now.links.now) c.requires.stands (law c.args.self.now.links.now) s shown));
}
