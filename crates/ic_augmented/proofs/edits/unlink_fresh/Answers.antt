use Rattle.std.proofs.Common.{◌∙◌, ◌∷◌, ◌++◌, Bool, sym, subst, None}
use Rattle.ic_link_ops.specs.Prelude.{Place, IsAbsent, IsDisjoint}
use Rattle.ic_link_ops.proofs.SequenceLemmas.{absent_right, absent_without, disjoint_remove, disjoint_right, disjoint_sym}
use Rattle.ic_link_ops.proofs.RepresentedTrees.{holds_out, one_sequence, represents_frame}
use Rattle.ic_augmented.specs.Beside.{IsWrittenIn, IsSameBeside}
use Rattle.ic_augmented.proofs.BesideLemmas.{written_among, absent_out}
use Rattle.ic_augmented.proofs.ChangeLemmas.{member_out}
use Rattle.ic_augmented.proofs.ConsistencyLemmas.{invalidated_same, same_on}
use Rattle.ic_augmented.proofs.EditLemmas.{all_fresh, unchanged, unlink_closed, unlinked, unlinked_absent, unlinked_edge, without_member, refreshed, others_consistent, invalidated_represents, invalidated_summed}
use Rattle.ic_augmented.proofs.FenceLemmas.{members_are}
use Rattle.ic_augmented.proofs.edits.unlink_fresh.Goals as goal

pub unlink_marking-edge-requires : goal.unlink_marking-edge-requires
unlink_marking-edge-requires g c =
    let m = c.requires.member in
    let x = unlink_closed g.N.NodeStore.node _ _ m.front c.args.place m.back m.shown in
    record { closed = x.0; inside = x.1 }

pub settle_without-requires-clause-member : goal.settle_without-requires-clause-member
settle_without-requires-clause-member g c =
    let n = g.N.NodeStore.node in
    let p = c.args.place in
    let m = c.requires.member in
    (_, m.front ++ m.back, (unlinked n _ _ _ _ m.front p m.back c.unlink_marking-edge.ensures.taken m.shown (unchanged n _ p)).shows, unlinked_edge n _ _ _ m.front p m.back m.shown c.unlink_marking-edge.ensures.marked.inside)

pub settle_without-requires-clause-covered : goal.settle_without-requires-clause-covered
settle_without-requires-clause-covered g c q is = c.unlink_marking-edge.ensures.marked.covers q (c.requires.covered q (sym (c.unlink_marking-edge.ensures.marked.linked q) ∙ is))

pub refresh_below-requires-clause-tree : goal.refresh_below-requires-clause-tree
refresh_below-requires-clause-tree g c =
    let m = c.requires.member in
    let h = (unlinked g.N.NodeStore.node _ _ _ _ m.front c.args.place m.back c.unlink_marking-edge.ensures.taken m.shown (unchanged g.N.NodeStore.node _ c.args.place)).shows in
    (None, h.tree, h.held.entries, c.root-top.ensures ∙ h.starts)

pub refresh_below-requires-clause-covered : goal.refresh_below-requires-clause-covered
refresh_below-requires-clause-covered g c q is =
    c.settle_without.ensures.covers q (c.unlink_marking-edge.ensures.marked.covers q (c.requires.covered q (sym (c.unlink_marking-edge.ensures.marked.linked q) ∙ is)))

pub returns-clause-fresh : goal.returns-clause-fresh
returns-clause-fresh g c front back h =
    let n = g.N.NodeStore.node in
    let p = c.args.place in
    let w = g.N.NodeStore.table c.unlink_marking-edge.new.summed.links in
    let taken = c.unlink_marking-edge.ensures.taken in
    let shown = (unlinked n _ _ _ _ front p back taken h.0 (unchanged n _ p)).shows in
    let but = c.unlink_marking-edge.ensures.marked.consistent (front ++ p ∷ back) h.1 in
    let out = unlinked_absent n _ _ _ _ front p back taken h.0 in
    let edge = unlinked_edge n _ _ _ front p back h.0 c.unlink_marking-edge.ensures.marked.inside in
    let right = c.settle_without.ensures.consistent _ (front ++ back) shown edge out (without_member n w _ _ front p back but) in
    let fresh = c.refresh_below.ensures.refreshed None shown.tree shown.held.entries (c.root-top.ensures ∙ shown.starts) in
    all_fresh n _ _ _ (front ++ back)
    (invalidated_summed n w _ _ _ (front ++ back) p out c.invalidate.ensures.invalidated (refreshed n w _ _ _ (front ++ back) (shown, right) fresh))

pub returns-clause-beside : goal.returns-clause-beside
returns-clause-beside g c =
    let n = g.N.NodeStore.node in
    let p = c.args.place in
    let m = c.requires.member in
    let z0 = g.M.Summaries.summaries c.args.summed.now.summaries in
    let z1 = g.M.Summaries.summaries c.unlink_marking-edge.new.summed.summaries in
    let z2 = g.M.Summaries.summaries c.settle_without.new.summaries in
    let z3 = g.M.Summaries.summaries c.refresh_below.new.summaries in
    let z4 = g.M.Summaries.summaries c.invalidate.new.self in
    let r = unlinked n _ _ _ _ m.front p m.back c.unlink_marking-edge.ensures.taken m.shown (unchanged n _ p) in
    let edge = unlinked_edge n _ _ _ m.front p m.back m.shown c.unlink_marking-edge.ensures.marked.inside in
    let fresh = c.refresh_below.ensures.refreshed None r.shows.tree r.shows.held.entries (c.root-top.ensures ∙ r.shows.starts) in
    record {
      others = λ s t other shown apart h.
          let from : IsDisjoint t (m.front ++ p ∷ m.back) = subst (IsDisjoint t) (one_sequence shown m.shown) apart in
          let both = disjoint_remove m.front m.back t p (disjoint_sym t (m.front ++ p ∷ m.back) from) in
          let still = represents_frame h.0 from r.frame in
          let out = (disjoint_sym t (p ∷ m.back) (disjoint_right t m.front (p ∷ m.back) from)).0 in
          let right = c.settle_without.ensures.others _ other (m.front ++ m.back) t r.shows edge still both out (c.unlink_marking-edge.ensures.marked.consistent t h.1) in
          let recomputed = others_consistent n _ _ _ other t fresh.join (λ q k. fresh.frame q (holds_out r.shows.held q (member_out q (m.front ++ m.back) t both k))) (still, right) in
          invalidated_represents n _ _ _ other t p out c.invalidate.ensures.invalidated recomputed;
      same = λ s shown within q absent.
          let out = absent_out q s absent in
          let written = written_among z0 s within in
          let put = subst (λ (S : Place → Bool). IsWrittenIn z0 S → IsSameBeside z0 z1 S) (members_are n shown) c.unlink_marking-edge.ensures.marked.beside written in
          let beyond : IsAbsent q (m.front ++ p ∷ m.back) = subst (IsAbsent q) (one_sequence shown m.shown) absent in
          let others = absent_without m.front m.back p q beyond in
          let settled = c.settle_without.ensures.beside _ (m.front ++ m.back) r.shows edge q others in
          let stale = invalidated_same z3 z4 p q c.invalidate.ensures.invalidated (absent_right q m.front (p ∷ m.back) beyond).0 in
          same_on z0 z1 z4 q (put q out) (same_on z1 z2 z4 q settled (same_on z2 z3 z4 q (fresh.frame q (holds_out r.shows.held q others)) stale));
      join = c.invalidate.ensures.invalidated.join ∙ (fresh.join ∙ (c.settle_without.ensures.join ∙ c.unlink_marking-edge.ensures.marked.join));
      covers = λ q h. c.invalidate.ensures.covers q (c.refresh_below.ensures.covers q (c.settle_without.ensures.covers q (c.unlink_marking-edge.ensures.marked.covers q h)));
      extent = r.frame.extent;
      adapter = c.unlink_marking-edge.ensures.adapter;
    }
