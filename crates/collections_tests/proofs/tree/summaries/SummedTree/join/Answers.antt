use Rattle.std.proofs.Common.{◌≡◌, ◌<◌, ◌∙◌, [], ◌∷◌, true, sym, ap, arith, inr, rules, subst}
use Rattle.ic_link_ops.specs.Prelude.{index_of, Cut, join, insert, Extent}
use Rattle.ic_link_ops.proofs.Times.{times_append}
use Rattle.ic_rbtree.proofs.KeptHeads.{shown}
use Rattle.collections_tests.proofs.Ready.{on_ok, one_more, parts_right, ready_then}
use Rattle.collections_tests.proofs.tree.summaries.SummedTree.join.Goals as goal

pub member_at-member-requires : goal.member_at-member-requires
member_at-member-requires g c = let q = c.self.invariant.ready in record { shown = (q.members, q.shown) }

pub join-joined-requires-clause-covered : goal.join-joined-requires-clause-covered
join-joined-requires-clause-covered g c =
    let m = c.member_at-member.ensures.member in
    rw ((c.split_off-rest.ensures.split m.front m.back m.shown).frame.extent, c.self.invariant.ready.covers) c.eighth-object.ensures

pub join-joined-requires-clause-shown : goal.join-joined-requires-clause-shown
join-joined-requires-clause-shown g c =
    let m = c.member_at-member.ensures.member in
    let s = c.split_off-rest.ensures.split m.front m.back m.shown in
    let gap : Cut = record { front = m.front; back = c.member_at-member.result ∷ m.back } in
    (gap, record { front = s.keeps; back = s.hands_out; distinct = (shown (g.E.TreeHead.kept c.self.inside.tree.head) m.shown).held.distinct })

pub invariant_of-self : goal.invariant_of-self
invariant_of-self g c =
    let q = c.self.invariant.ready in
    let m = c.member_at-member.ensures.member in
    let e = c.split_off-rest.ensures in
    let s = e.split m.front m.back m.shown in
    let gap : Cut = record { front = m.front; back = c.member_at-member.result ∷ m.back } in
    let is : c.is_ok.result ≡ true = search rules in
    let ok = sym c.is_ok.ensures.value ∙ is in
    let put = on_ok c.join-joined.result ok (c.join-joined.ensures.joined gap (record { front = s.keeps; back = s.hands_out; distinct = (shown (g.E.TreeHead.kept c.self.inside.tree.head) m.shown).held.distinct })) in
    let steps = on_ok c.join-joined.result ok c.join-joined.ensures.acquired in
    let kept = g.E.TreeHead.kept in
    record {
      placed = c.self.invariant.placed;
      ready = ready_then kept steps (ap (λ (x : Extent). x.places) s.frame.extent ∙ q.covers)
          (λ p covered. e.trace_stays.covers p (q.room p (subst (λ (x : Extent). index_of p < x.places) s.frame.extent covered))) put.frame.extent
          (join gap) (insert gap c.eighth-object.result) (parts_right kept q e.trace_stays (join gap) (join gap) m.shown (λ p there. inr there)) put.shows
          (one_more c.eighth-object.result [] (join gap) (insert gap c.eighth-object.result) (λ p. omega (arith, times_append p gap.front gap.back, times_append p gap.front (c.eighth-object.result ∷ gap.back))));
    }
