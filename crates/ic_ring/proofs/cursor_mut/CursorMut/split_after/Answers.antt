use Rattle.std.proofs.Common.{[], ◌∷◌, ◌++◌, sym, subst, append-nil}
use Rattle.ic_link_ops.specs.Prelude.{IsAbsent, ChangesOnlyIn}
use Rattle.ic_link_ops.proofs.DoublyLists.{neighbors_covered}
use Rattle.ic_ring.specs.Rings.{IsCircle}
use Rattle.ic_ring.proofs.CursorPlaces.{gap_of}
use Rattle.ic_ring.proofs.cursor_mut.CursorMut.split_after.Goals as goal

pub split_after-requires : goal.split_after-requires
split_after-requires g c =
    let k = c.requires.stands in
    let a = c.requires.apart in record {
      cut = (k.0.front, k.0.back, rw c.from_head-ring.ensures k.1, rw c.from_head-ring.ensures k.2);
      apart = (a.0, a.1, subst (λ p. IsAbsent p (c.args.rest.now ∷ a.0)) (sym c.from_head-ring.ensures) a.2);
    }

pub returns-clause-split : goal.returns-clause-split
returns-clause-split g c gap t shown is other =
    rw c.from_head-ring.ensures at (c.split_after.ensures.split gap.front gap.back t (rw c.from_head-ring.ensures shown) (rw c.from_head-ring.ensures is) other)

pub returns-clause-stands : goal.returns-clause-stands
returns-clause-stands g c =
    let k = c.requires.stands in
    let a = c.requires.apart in
    let e = rw c.from_head-ring.ensures at (c.split_after.ensures.split k.0.front k.0.back a.0 (rw c.from_head-ring.ensures k.1) (rw c.from_head-ring.ensures k.2) a.1) in
    (record { front = k.0.front; back = [] }, rw append-nil e.0, k.2)

pub returns-clause-others : goal.returns-clause-others
returns-clause-others g c = rw c.from_head-ring.ensures at c.split_after.ensures.others

pub returns-clause-frame : goal.returns-clause-frame
returns-clause-frame g c t other s shown =
    let n = g.L.LinkedListOps.neighbors in
    let old = g.L.LinkOps.table c.args.self.now.links.now in
    let head = c.args.self.now.head in
    let law = neighbors_covered n g.L.LinkOps.table g.met.L.LinkOps.linked_is_covered g.met.L.LinkedListOps.linked_alike in
    let k = gap_of old c.requires.stands (law c.args.self.now.links.now) s shown in
    let here = subst (λ s. IsCircle n old.entry (head ∷ s)) k.1 shown in
    subst (λ s. ChangesOnlyIn old (g.L.LinkOps.table c.split_after.new.links) ((head ∷ s) ++ (c.args.rest.now ∷ t))) (sym k.1)
    (rw c.from_head-ring.ensures at (c.split_after.ensures.frame k.0.front k.0.back t (rw c.from_head-ring.ensures here) (rw c.from_head-ring.ensures k.2) other))
