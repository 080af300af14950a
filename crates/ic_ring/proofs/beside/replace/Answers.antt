use Rattle.std.proofs.Common.{[], ◌∷◌, ◌++◌, refl, sym, subst, ◌∙◌, append_assoc}
use Rattle.ic_link_ops.proofs.SequenceLemmas.{absent_both}
use Rattle.ic_ring.specs.Rings.{IsRingOf}
use Rattle.ic_ring.proofs.Circles.{seen_at}
use Rattle.ic_ring.proofs.OtherRings.{others_then}
use Rattle.ic_ring.proofs.beside.replace.Goals as goal

pub returns-clause-replaced : goal.returns-clause-replaced
returns-clause-replaced g c head front back shown =
    let object = c.args.object in
    let mid = rw c.place.ensures at (c.in_ok-insert_before.ensures.inserted head front back (rw c.place.ensures shown)) in
    rw (append_assoc front (object ∷ []) back) at
    (c.remove.ensures.removed head (front ++ object ∷ []) back (rw (append_assoc front (object ∷ []) (c.args.out.now ∷ back)) mid))

pub returns-clause-exchanged : goal.returns-clause-exchanged
returns-clause-exchanged g c = g.met.L.LinkOps.does_on _ _ _ _ _ c.in_ok-insert_before.ensures.acquired c.remove.ensures.released

pub returns-clause-others : goal.returns-clause-others
returns-clause-others g c = others_then (rw c.place.ensures at c.in_ok-insert_before.ensures.others) c.remove.ensures.others

pub returns-clause-frame : goal.returns-clause-frame
returns-clause-frame g c r ring =
    let seen = seen_at ring.0 ring.1 in
    let inserted = c.in_ok-insert_before.ensures.frame r
    (subst (λ p. IsRingOf g.L.LinkedListOps.neighbors (g.L.LinkOps.table c.args.links.now) p r) (sym c.place.ensures) ring) in
    let mid = rw c.place.ensures at (c.in_ok-insert_before.ensures.at_head seen.0 (rw c.place.ensures seen.1)) in
    let removed = c.remove.ensures.frame (c.args.out.now ∷ (seen.0 ++ c.args.object ∷ [])) (mid, λ out. out.0 refl) in record {
      extent = removed.extent ∙ inserted.extent;
      others = λ q out.
          let apart = seen.2 q out.1 in
          removed.others q (apart.0, absent_both q seen.0 (c.args.object ∷ []) apart.1 (out.0, tt)) ∙ inserted.others q out;
    }
