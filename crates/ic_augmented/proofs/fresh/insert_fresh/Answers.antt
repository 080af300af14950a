use Rattle.std.proofs.Common.{◌<◌, ◌∙◌, ap, refl, sym, subst, List}
use Rattle.ic_link_ops.specs.Prelude.{Place, index_of, join, Table, Extent}
use Rattle.ic_link_ops.specs.RedBlackTree.{Represents}
use Rattle.ic_link_ops.proofs.SequenceLemmas.{disjoint_cons}
use Rattle.ic_link_ops.proofs.RepresentedTrees.{free_absent}
use Rattle.ic_rbtree.specs.Kept.{alone, root_kept}
use Rattle.ic_rbtree.proofs.InOrder.{ended_in_order, still_represented, fits_safe, fitted, own_is}
use Rattle.ic_rbtree.proofs.KeptHeads.{shown}
use Rattle.ic_rbtree.proofs.PlacedMembers.{members_placed}
use Rattle.ic_augmented.specs.Consistent.{RepresentsConsistent}
use Rattle.ic_augmented.proofs.EditLemmas.{free_member, acquired_consistent, beside_represents, own_searched, inserts_fresh}
use Rattle.ic_augmented.proofs.fresh.insert_fresh.Goals as goal

pub descend-insert_pos-requires-clause-placed : goal.descend-insert_pos-requires-clause-placed
descend-insert_pos-requires-clause-placed g c =
    let n = g.L.RBTreeOps.node in
    let alike = g.met.L.RBTreeOps.linked_alike in
    let r = c.requires.shown in
    let l = g.met.L.LinkOps.does_replay _ _ _ c.if-not-acquire_link.ensures.acquired in
    members_placed g.L.RBTreeOps.node g.L.LinkOps.table g.L.Values.values alike g.met.L.LinkOps.linked_is_covered g.met.L.LinkValues.covered_has_value c.acquire_link.new.self
    (r.0, still_represented n g.L.LinkOps.linked alike l.was l.is c.acquire_link.ensures.frame r.1)

pub attach_fresh-requires-clause-safe : goal.attach_fresh-requires-clause-safe
attach_fresh-requires-clause-safe g c =
    let n = g.L.RBTreeOps.node in
    let alike = g.met.L.RBTreeOps.linked_alike in
    let r = c.requires.shown in
    let l = g.met.L.LinkOps.does_replay _ _ _ c.if-not-acquire_link.ensures.acquired in
    let there = still_represented n g.L.LinkOps.linked alike l.was l.is c.acquire_link.ensures.frame r.1 in
    fits_safe n g.L.LinkOps.linked alike l.was l.is c.acquire_link.ensures.frame r.1 (ended_in_order n there (c.descend-insert_pos.ensures.ends r.0 there) c.get.ensures)

pub attach_fresh-requires-clause-insert_pos : goal.attach_fresh-requires-clause-insert_pos
attach_fresh-requires-clause-insert_pos g c =
    let n = g.L.RBTreeOps.node in
    let alike = g.met.L.RBTreeOps.linked_alike in
    let r = c.requires.shown in
    let l = g.met.L.LinkOps.does_replay _ _ _ c.if-not-acquire_link.ensures.acquired in
    let there = still_represented n g.L.LinkOps.linked alike l.was l.is c.acquire_link.ensures.frame r.1 in
    let x = ended_in_order n there (c.descend-insert_pos.ensures.ends r.0 there) c.get.ensures in
    (x.gap, alike _ ∙ l.is, free_member n _ _ r.0 (join x.gap) c.place-place.result x.same r.1 (alike _ ∙ l.was), subst (λ (s : List Place). Represents n (g.L.LinkOps.table c.acquire_link.new.self) (root_kept (g.E.TreeHead.kept c.args.tree.now.head)) s) (sym x.same) there, x.insert_pos)

pub attach_fresh-requires-clause-covered : goal.attach_fresh-requires-clause-covered
attach_fresh-requires-clause-covered g c q is =
    c.requires.room q (subst (λ (e : Extent). index_of q < e.places) c.acquire_link.ensures.frame.extent
    (g.met.L.LinkOps.linked_is_covered _ q (sym (g.met.L.RBTreeOps.linked_alike _) ∙ is)))

pub returns-clause-inserted : goal.returns-clause-inserted
returns-clause-inserted g c s was =
    let n = g.L.RBTreeOps.node in
    let kept = g.E.TreeHead.kept in
    let alike = g.met.L.RBTreeOps.linked_alike in
    let l = g.met.L.LinkOps.does_replay _ _ _ c.if-not-acquire_link.ensures.acquired in
    let values = g.L.Values.values c.acquire_link.new.self in
    let there = still_represented n g.L.LinkOps.linked alike l.was l.is c.acquire_link.ensures.frame was.0 in
    let x = ended_in_order n there (c.descend-insert_pos.ensures.ends s there) c.get.ensures in
    let free = alike _ ∙ l.was in
    let fresh = c.attach_fresh.ensures.fresh x.gap (alike _ ∙ l.is) (free_member n _ _ s (join x.gap) c.place-place.result x.same was.0 free)
    (acquired_consistent n _ _ _ _ s (join x.gap) c.place-place.result x.same free c.acquire_link.ensures.frame was) x.insert_pos in
    own_searched g.A.Key.Ord.cmp (g.A.KeyAdapter.key_of c.args.tree.now.adapter) c.place-place.ensures (g.met.L.LinkValues.values_stay _ _ c.acquire_link.ensures.frame.extent)
    (own_is g.A.Key.Ord.cmp g.A.KeyAdapter.key_of values (c.new-probe.ensures.adapter ∙ c.adapter-adapter.ensures)
    (c.new-probe.ensures.key ∙ (c.get_key.ensures ∙ ap (λ z. g.A.KeyAdapter.key_of z c.value.result.now) c.adapter-adapter.ensures)) refl c.value.ensures)
    (inserts_fresh n _ _ _ _ s c.place-place.result x.gap fresh
    (fitted n g.L.LinkOps.linked alike l.was l.is c.acquire_link.ensures.frame alone (root_kept (kept c.args.tree.now.head)) (root_kept (kept c.attach_fresh.new.tree.head)) was.0 x
    c.attach_fresh.ensures.attached (λ gap below distinct printed. tt)))

pub returns-clause-kept : goal.returns-clause-kept
returns-clause-kept g c s h =
    let n = g.L.RBTreeOps.node in
    let kept = g.E.TreeHead.kept in
    let alike = g.met.L.RBTreeOps.linked_alike in
    let l = g.met.L.LinkOps.does_replay _ _ _ c.if-not-acquire_link.ensures.acquired in
    let values = g.L.Values.values c.acquire_link.new.self in
    let there = still_represented n g.L.LinkOps.linked alike l.was l.is c.acquire_link.ensures.frame (shown (kept c.args.tree.now.head) h) in
    let x = ended_in_order n there (c.descend-insert_pos.ensures.ends s there) c.get.ensures in
    own_searched g.A.Key.Ord.cmp (g.A.KeyAdapter.key_of c.args.tree.now.adapter) c.place-place.ensures (g.met.L.LinkValues.values_stay _ _ c.acquire_link.ensures.frame.extent)
    (own_is g.A.Key.Ord.cmp g.A.KeyAdapter.key_of values (c.new-probe.ensures.adapter ∙ c.adapter-adapter.ensures)
    (c.new-probe.ensures.key ∙ (c.get_key.ensures ∙ ap (λ z. g.A.KeyAdapter.key_of z c.value.result.now) c.adapter-adapter.ensures)) refl c.value.ensures)
    (fitted n g.L.LinkOps.linked alike l.was l.is c.acquire_link.ensures.frame kept c.args.tree.now.head c.attach_fresh.new.tree.head h x c.attach_fresh.ensures.attached c.attach_fresh.ensures.ends)

pub returns-clause-beside : goal.returns-clause-beside
returns-clause-beside g c =
    let n = g.L.RBTreeOps.node in
    let alike = g.met.L.RBTreeOps.linked_alike in
    let l = g.met.L.LinkOps.does_replay _ _ _ c.if-not-acquire_link.ensures.acquired in
    let only = c.acquire_link.ensures.frame in
    let kept = c.attach_fresh.ensures.beside in
    record {
      others = λ s t other was apart h.
          let absent = free_absent h.0 (alike _ ∙ l.was) in
          kept.others s t other (still_represented n g.L.LinkOps.linked alike l.was l.is only was) (disjoint_cons c.place-place.result t s absent apart) (beside_represents n _ _ _ other t c.place-place.result absent only h);
      same = λ s was within q absent. kept.same s (still_represented n g.L.LinkOps.linked alike l.was l.is only was) (rw c.place-place.ensures within) q (rw c.place-place.ensures absent);
      join = kept.join;
      covers = kept.covers;
      extent = kept.extent ∙ only.extent;
      adapter = kept.adapter;
    }

pub returns-then-not-acquire_link-clause-beside : goal.returns-then-not-acquire_link-clause-beside
returns-then-not-acquire_link-clause-beside g c =
    let stays = g.met.L.LinkOps.refused_keeps _ _ _ c.if-not-acquire_link.ensures.refused in
    record {
      others = λ s t other was apart h.
          subst (λ (v : Table g.row.L-Entry.Denot). RepresentsConsistent g.L.RBTreeOps.node (g.M.Summaries.summaries c.args.summed.now.summaries) v other t) (sym stays) h;
      same = λ s was within q absent. record { fresh = refl; upper = refl };
      join = refl;
      covers = λ q h. h;
      extent = ap (λ (v : Table g.row.L-Entry.Denot). v.extent) stays;
      adapter = refl;
    }
