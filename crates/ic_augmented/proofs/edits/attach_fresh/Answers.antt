use Rattle.std.proofs.Common.{◌∙◌, [], ◌∷◌, Bool, sym, subst, None}
use Rattle.ic_link_ops.specs.Prelude.{Place, insert, join, IsDisjoint}
use Rattle.ic_link_ops.proofs.SequenceLemmas.{disjoint_insert, disjoint_sym}
use Rattle.ic_link_ops.proofs.RepresentedTrees.{holds_out, one_sequence}
use Rattle.ic_rbtree.specs.Closed.{IsIn}
use Rattle.ic_rbtree.proofs.RepresentedClosed.{with_place, among_there}
use Rattle.ic_augmented.specs.Beside.{IsWrittenIn, IsSameBeside}
use Rattle.ic_augmented.specs.MarkLaws.{written_still}
use Rattle.ic_augmented.proofs.BesideLemmas.{written_among, absent_out, absent_insert}
use Rattle.ic_augmented.proofs.ConsistencyLemmas.{same_on}
use Rattle.ic_augmented.proofs.FenceLemmas.{fence_is}
use Rattle.ic_augmented.proofs.ChangeLemmas.{member_out}
use Rattle.ic_augmented.proofs.EditLemmas.{all_fresh, attach_closed, attached_extent, attached_represents, attached_others, stale_with, refreshed_tree, others_consistent}
use Rattle.ic_augmented.proofs.edits.attach_fresh.Goals as goal

pub attach_marking-edge-requires : goal.attach_marking-edge-requires
attach_marking-edge-requires g c =
    let r = c.requires.insert_pos in
    let x = attach_closed g.N.NodeStore.node _ _ c.args.parent c.args.side c.args.place r.0 r.1 r.2 r.3 r.4 in
    record { closed = x.0; inside = x.1 }

pub settle-requires-clause-member : goal.settle-requires-clause-member
settle-requires-clause-member g c =
    let r = c.requires.insert_pos in
    (_, record { front = r.0.front; back = r.0.back; shown = attached_represents g.N.NodeStore.node _ _ _ _ c.args.parent c.args.side c.args.place r.0 c.attach_marking-edge.ensures.attached r.1 r.2 r.3 r.4 })

pub settle-requires-clause-covered : goal.settle-requires-clause-covered
settle-requires-clause-covered g c q is =
    c.attach_marking-edge.ensures.marked.covers q (c.invalidate_up.ensures.covers q (c.requires.covered q (sym (c.attach_marking-edge.ensures.marked.linked q) ∙ is)))

pub refresh_below-requires-clause-tree : goal.refresh_below-requires-clause-tree
refresh_below-requires-clause-tree g c =
    let r = c.requires.insert_pos in
    let h = attached_represents g.N.NodeStore.node _ _ _ _ c.args.parent c.args.side c.args.place r.0 c.attach_marking-edge.ensures.attached r.1 r.2 r.3 r.4 in
    (None, h.tree, h.held.entries, c.root-top.ensures ∙ h.starts)

pub refresh_below-requires-clause-covered : goal.refresh_below-requires-clause-covered
refresh_below-requires-clause-covered g c q is =
    c.settle.ensures.covers q (c.attach_marking-edge.ensures.marked.covers q (c.invalidate_up.ensures.covers q (c.requires.covered q (sym (c.attach_marking-edge.ensures.marked.linked q) ∙ is))))

pub returns-clause-fresh : goal.returns-clause-fresh
returns-clause-fresh g c gap linked out h insert_pos =
    let n = g.N.NodeStore.node in
    let v = g.N.NodeStore.table c.args.summed.now.links in
    let shown = attached_represents n v _ _ _ c.args.parent c.args.side c.args.place gap c.attach_marking-edge.ensures.attached linked out h.0 insert_pos in
    let kept = stale_with n v _ _ c.args.place gap c.invalidate_up.ensures.stale c.invalidate_up.ensures.consistent h.1 in
    let right = c.settle.ensures.consistent _ gap.front gap.back shown (c.attach_marking-edge.ensures.marked.consistent (insert gap c.args.place) kept) in
    all_fresh n _ _ _ (insert gap c.args.place)
    (refreshed_tree n _ _ _ _ (insert gap c.args.place) shown right (c.refresh_below.ensures.refreshed None shown.tree shown.held.entries (c.root-top.ensures ∙ shown.starts)))

pub returns-clause-beside : goal.returns-clause-beside
returns-clause-beside g c =
    let n = g.N.NodeStore.node in
    let p = c.args.place in
    let r = c.requires.insert_pos in
    let z0 = g.M.Summaries.summaries c.args.summed.now.summaries in
    let z1 = g.M.Summaries.summaries c.invalidate_up.new.summaries in
    let z2 = g.M.Summaries.summaries c.attach_marking-edge.new.summed.summaries in
    let z3 = g.M.Summaries.summaries c.settle.new.summaries in
    let z4 = g.M.Summaries.summaries c.refresh_below.new.summaries in
    let done = c.attach_marking-edge.ensures.attached in
    let tree = attached_represents n _ _ _ _ c.args.parent c.args.side p r.0 done r.1 r.2 r.3 r.4 in
    let fresh = c.refresh_below.ensures.refreshed None tree.tree tree.held.entries (c.root-top.ensures ∙ tree.starts) in
    record {
      others = λ s t other shown apart h.
          let both = disjoint_sym t (p ∷ s) apart in
          let from : IsDisjoint t (join r.0) = subst (IsDisjoint t) (one_sequence shown r.3) (disjoint_sym s t both.1) in
          let still = attached_others n _ _ _ _ c.args.parent other c.args.side p r.0 t done r.1 r.2 r.3 r.4 from both.0 h.0 in
          let all : IsDisjoint (insert r.0 p) t = disjoint_insert r.0.front r.0.back t p (disjoint_sym t (join r.0) from) both.0 in
          let settled = c.settle.ensures.others _ other r.0.front r.0.back t tree still all (c.attach_marking-edge.ensures.marked.consistent t (c.invalidate_up.ensures.consistent.consistent t h.1)) in
          others_consistent n _ _ _ other t fresh.join (λ q m. fresh.frame q (holds_out tree.held q (member_out q (insert r.0 p) t all m))) (still, settled);
      same = λ s shown within q absent.
          let inside = with_place p s in
          let out = absent_out q (p ∷ s) absent in
          let written = written_among z0 (p ∷ s) within in
          let stale = c.invalidate_up.ensures.beside inside written (among_there p [] s) q out in
          let still = written_still z0 z1 c.invalidate_up.ensures.consistent.marks inside written in
          let edge = subst (λ (S : Place → Bool). IsIn S c.attach_marking-edge.result) (fence_is n p shown) c.attach_marking-edge.ensures.marked.inside in
          let put = subst (λ (S : Place → Bool). IsWrittenIn z1 S → IsSameBeside z1 z2 S) (fence_is n p shown) c.attach_marking-edge.ensures.marked.beside still in
          let beyond = absent_insert q p r.0 s (one_sequence shown r.3) absent in
          let settled = c.settle.ensures.beside _ r.0.front r.0.back tree inside (written_still z1 z2 c.attach_marking-edge.ensures.marked.marks inside still) edge q beyond out in
          same_on z0 z1 z4 q stale (same_on z1 z2 z4 q (put q out) (same_on z2 z3 z4 q settled (fresh.frame q (holds_out tree.held q beyond))));
      join = fresh.join ∙ (c.settle.ensures.join ∙ (c.attach_marking-edge.ensures.marked.join ∙ c.invalidate_up.ensures.consistent.join));
      covers = λ q h. c.refresh_below.ensures.covers q (c.settle.ensures.covers q (c.attach_marking-edge.ensures.marked.covers q (c.invalidate_up.ensures.covers q h)));
      extent = attached_extent n _ _ _ _ c.args.parent c.args.side p r.0 done r.1 r.2 r.3 r.4;
      adapter = c.attach_marking-edge.ensures.adapter;
    }
