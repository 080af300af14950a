use Rattle.std.proofs.Common.{◌<◌, ◌∙◌, [], ◌∷◌, refl, sym, ap, arith, inr, subst}
use Rattle.ic_link_ops.specs.Prelude.{index_of, Cut, join, Extent}
use Rattle.ic_link_ops.proofs.Times.{times_append, distinct_times, times_absent}
use Rattle.ic_rbtree.proofs.KeptHeads.{shown}
use Rattle.ic_augmented.specs.MarkLaws.{marks_still}
use Rattle.ic_augmented.specs.StepLaws.{right_still}
use Rattle.ic_augmented.specs.AugmentedSteps.{TraceAugmented}
use Rattle.ic_augmented.proofs.EditLemmas.{others_consistent}
use Rattle.collections_tests.proofs.Ready.{both_right, parts_right, ready_then}
use Rattle.collections_tests.proofs.tree.summaries.SummedTree.write_parts.Goals as goal

pub member_at-member-requires : goal.member_at-member-requires
member_at-member-requires g c = let q = c.self.invariant.ready in record { shown = (q.members, q.shown) }

pub refresh-requires : goal.refresh-requires
refresh-requires g c =
    let q = c.self.invariant.ready in
    let m = c.member_at-member.ensures.member in
    let e = c.split_off-rest.ensures in
    let s = e.split m.front m.back m.shown in
    record {
      shown = (m.front, shown (g.E.TreeHead.kept c.split_off-rest.new.self.head) s.keeps);
      covered = λ p is. e.trace_stays.covers p (q.room p (subst (λ (x : Extent). index_of p < x.places) s.frame.extent
          (g.met.L.LinkOps.linked_is_covered _ p (sym (g.met.L.RBTreeOps.linked_alike _) ∙ is))));
    }

pub note-requires : goal.note-requires
note-requires g c =
    let q = c.self.invariant.ready in
    let kept = g.E.TreeHead.kept in
    let m = c.member_at-member.ensures.member in
    let back = c.member_at-member.result ∷ m.back in
    let e = c.split_off-rest.ensures in
    let s = e.split m.front m.back m.shown in
    let gap : Cut = record { front = m.front; back = back } in
    let right = parts_right kept q e.trace_stays (join gap) m.front m.shown (λ p there. inr (omega (arith, there, times_append p m.front back))) in
    record { shown = (m.front, c.refresh.ensures.summed m.front (shown (kept c.split_off-rest.new.self.head) s.keeps, right)) }

pub refresh-requires-2 : goal.refresh-requires-2
refresh-requires-2 g c =
    let q = c.self.invariant.ready in
    let m = c.member_at-member.ensures.member in
    let back = c.member_at-member.result ∷ m.back in
    let e = c.split_off-rest.ensures in
    let s = e.split m.front m.back m.shown in
    let f = c.refresh.ensures in
    record {
      shown = (back, rw f.links (shown (g.E.TreeHead.kept c.split_off-rest.result.head) s.hands_out));
      covered = λ p is. f.covers p (e.trace_stays.covers p (q.room p (subst (λ (x : Extent). index_of p < x.places) s.frame.extent
          (g.met.L.LinkOps.linked_is_covered _ p (sym (g.met.L.RBTreeOps.linked_alike _) ∙ (rw f.links at is))))));
    }

pub note-requires-2 : goal.note-requires-2
note-requires-2 g c =
    let q = c.self.invariant.ready in
    let n = g.L.RBTreeOps.node in
    let kept = g.E.TreeHead.kept in
    let m = c.member_at-member.ensures.member in
    let back = c.member_at-member.result ∷ m.back in
    let e = c.split_off-rest.ensures in
    let s = e.split m.front m.back m.shown in
    let f = c.refresh.ensures in
    let gap : Cut = record { front = m.front; back = back } in
    let once = distinct_times (join gap) (shown (kept c.self.inside.tree.head) m.shown).held.distinct in
    let right = parts_right kept q e.trace_stays (join gap) back m.shown (λ p there. inr (omega (arith, there, times_append p m.front back))) in
    let other = others_consistent n _ _ _ _ back f.join (λ p there. f.others m.front (shown (kept c.split_off-rest.new.self.head) s.keeps) p (times_absent p m.front (omega (arith, there, once p, times_append p m.front back))))
    (shown (kept c.split_off-rest.result.head) s.hands_out, right) in
    record { shown = (back, c.refresh-2.ensures.summed back (rw f.links other)) }

pub append-requires : goal.append-requires
append-requires g c =
    let m = c.member_at-member.ensures.member in
    let s = c.split_off-rest.ensures.split m.front m.back m.shown in
    let gap : Cut = record { front = m.front; back = c.member_at-member.result ∷ m.back } in
    record {
      shown = (gap, rw (c.refresh-2.ensures.links, c.refresh.ensures.links) (record { front = s.keeps; back = s.hands_out; distinct = (shown (g.E.TreeHead.kept c.self.inside.tree.head) m.shown).held.distinct }));
    }

pub invariant_of-self : goal.invariant_of-self
invariant_of-self g c =
    let q = c.self.invariant.ready in
    let n = g.L.RBTreeOps.node in
    let kept = g.E.TreeHead.kept in
    let m = c.member_at-member.ensures.member in
    let back = c.member_at-member.result ∷ m.back in
    let e = c.split_off-rest.ensures in
    let s = e.split m.front m.back m.shown in
    let f = c.refresh.ensures in
    let f2 = c.refresh-2.ensures in
    let gap : Cut = record { front = m.front; back = back } in
    let whole = (shown (kept c.self.inside.tree.head) m.shown).held.distinct in
    let once = distinct_times (join gap) whole in
    let front_represented = shown (kept c.split_off-rest.new.self.head) s.keeps in
    let back_represented = shown (kept c.split_off-rest.result.head) s.hands_out in
    let front_right = parts_right kept q e.trace_stays (join gap) m.front m.shown (λ p there. inr (omega (arith, there, times_append p m.front back))) in
    let back_right = parts_right kept q e.trace_stays (join gap) back m.shown (λ p there. inr (omega (arith, there, times_append p m.front back))) in
    let back_then = others_consistent n _ _ _ _ back f.join (λ p there. f.others m.front front_represented p (times_absent p m.front (omega (arith, there, once p, times_append p m.front back)))) (back_represented, back_right) in
    let front_then = f.consistent m.front (front_represented, front_right) in
    let back_now = f2.consistent back (rw f.links back_then) in
    let front_now = others_consistent n _ _ _ _ m.front f2.join
    (λ p there. f2.others back (rw f.links back_represented) p (times_absent p back (omega (arith, there, once p, times_append p m.front back)))) front_then in
    let mid = c.refresh-2.new.summed in
    let still : TraceAugmented g.L.LinkOps.Trace n g.L.LinkOps.table g.M.Summaries.summaries g.M.Summaries.Covers mid mid []
    = record {
      links = g.met.L.LinkOps.does_nothing mid.links;
      right = right_still n (g.L.LinkOps.table mid.links) (g.M.Summaries.summaries mid.summaries);
      marks = marks_still (g.M.Summaries.summaries mid.summaries);
      covers = λ p h. h;
      join = refl;
    } in
    let put = c.append.ensures.appended gap (rw (f2.links, f.links) (record { front = s.keeps; back = s.hands_out; distinct = whole })) in
    record {
      placed = c.self.invariant.placed;
      ready = ready_then kept (c.append.ensures.keeps_links _ [] still) (rw (f2.links, f.links) (ap (λ (x : Extent). x.places) s.frame.extent ∙ q.covers))
          (λ p covered. f2.covers p (f.covers p (e.trace_stays.covers p (q.room p (subst (λ (x : Extent). index_of p < x.places) s.frame.extent (rw (f2.links, f.links) at covered))))))
          put.frame.extent (join gap) (join gap) (both_right n (g.L.LinkOps.table mid.links) (g.M.Summaries.summaries mid.summaries) m.front back (rw f2.links front_now.1) back_now.1) put.shows (λ p there. inr there);
    }
