use Rattle.std.proofs.Common.{[], ◌∷◌, ◌++◌, ◌∙◌, sym, subst}
use Rattle.ic_link_ops.specs.Sequences.{IsDisjoint}
use Rattle.ic_link_ops.proofs.Prelude.{disjoint_right, disjoint_sym, one_sequence}
use Rattle.ic_rbtree.proofs.KeptHeads.{shown, shows, printed}
use Rattle.ic_rbtree.proofs.Removing.{spot, spot_linked, represented_of}
use Rattle.ic_augmented.proofs.EditLemmas.{all_fresh, beside_represents, beside_summed, unlinked, unlinked_absent}
use Rattle.ic_augmented.proofs.fresh.remove_fresh.Goals as goal

pub unlink_fresh-requires-clause-member : goal.unlink_fresh-requires-clause-member
unlink_fresh-requires-clause-member g c = rw c.place-place.ensures c.requires.member

pub unlink_fresh-requires-clause-covered : goal.unlink_fresh-requires-clause-covered
unlink_fresh-requires-clause-covered g c q is = c.requires.room q (g.met.L.LinkOps.linked_is_covered _ q (sym (g.met.L.RBTreeOps.linked_alike _) ∙ is))

pub release_link-requires : goal.release_link-requires
release_link-requires g c =
    let n = g.L.RBTreeOps.node in
    let m = c.requires.member in
    let there = spot_linked n (spot n m.front c.args.object.now m.back (represented_of n m.shown)) in
    record { linked = g.met.L.LinkOps.does_replay _ _ [] (c.unlink_fresh.ensures.keeps_links _ [] (g.met.L.LinkOps.does_nothing _)) c.place-place.result ∙ (sym (g.met.L.RBTreeOps.linked_alike _) ∙ rw c.place-place.ensures there) }

pub returns-clause-removed : goal.returns-clause-removed
returns-clause-removed g c front back h =
    let n = g.L.RBTreeOps.node in
    let p = c.place-place.result in
    let was = rw (← c.place-place.ensures) at h in
    all_fresh n _ _ _ (front ++ back)
    (beside_summed n _ _ _ _ (front ++ back) p (unlinked_absent n _ _ _ _ front p back c.unlink_fresh.ensures.taken was.0) c.release_link.ensures.frame (c.unlink_fresh.ensures.fresh front back was).summed)

pub returns-clause-kept : goal.returns-clause-kept
returns-clause-kept g c front back h =
    let n = g.L.RBTreeOps.node in
    let kept = g.E.TreeHead.kept c.args.tree.now.head in
    let p = c.place-place.result in
    let was = rw (← c.place-place.ensures) at h in
    shows (g.E.TreeHead.kept c.unlink_fresh.new.tree.head)
    (unlinked n _ _ _ _ front p back c.unlink_fresh.ensures.taken (shown kept was) c.release_link.ensures.frame).shows
    (c.unlink_fresh.ensures.ends front back (shown kept was) (printed n _ kept (front ++ p ∷ back) was))

pub returns-clause-stale : goal.returns-clause-stale
returns-clause-stale g c = rw (← c.place-place.ensures) c.unlink_fresh.ensures.stale

pub returns-clause-released : goal.returns-clause-released
returns-clause-released g c =
    rw (← c.place-place.ensures) (g.met.L.LinkOps.does_on _ _ _ [] _ (c.unlink_fresh.ensures.keeps_links _ [] (g.met.L.LinkOps.does_nothing _)) c.release_link.ensures.released)

pub returns-clause-frame : goal.returns-clause-frame
returns-clause-frame g c s was =
    let m = rw (← c.place-place.ensures) at c.requires.member in
    rw (one_sequence was m.shown) (unlinked g.L.RBTreeOps.node _ _ _ _ m.front c.place-place.result m.back c.unlink_fresh.ensures.taken m.shown c.release_link.ensures.frame).frame

pub returns-clause-beside : goal.returns-clause-beside
returns-clause-beside g c =
    let n = g.L.RBTreeOps.node in
    let p = c.place-place.result in
    let m = rw (← c.place-place.ensures) at c.requires.member in
    let kept = c.unlink_fresh.ensures.beside in
    let only = c.release_link.ensures.frame in
    record {
      others = λ s t other was apart h.
          let from : IsDisjoint t (m.front ++ p ∷ m.back) = subst (IsDisjoint t) (one_sequence was m.shown) apart in
          let absent = (disjoint_sym t (p ∷ m.back) (disjoint_right t m.front (p ∷ m.back) from)).0 in
          beside_represents n _ _ _ other t p absent only (kept.others s t other was apart h);
      same = kept.same;
      join = kept.join;
      covers = kept.covers;
      extent = only.extent ∙ kept.extent;
      adapter = kept.adapter;
    }
