use Rattle.std.proofs.Common.{[], ◌++◌, ◌∷◌, refl, sym, ◌∙◌}
use Rattle.ic_link_ops.proofs.Prelude.{absent_right, absent_without, distinct_middle, gap_not, gap_after_linked}
use Rattle.ic_link_ops.proofs.Naming.{end_named}
use Rattle.ic_chain.proofs.Standing.{one_represented}
use Rattle.ic_chain.proofs.list.LinkList.move_to_front.Goals as goal

pub detach-requires : goal.detach-requires
detach-requires g c = record { member = rw c.place-place.ensures c.requires.member }

pub insert_linked-requires-clause-after : goal.insert_linked-requires-clause-after
insert_linked-requires-clause-after g c names q e =
    let m = c.requires.member in
    let off = c.detach.ensures.removed m.front m.back (rw (← c.place-place.ensures) at m.shown) in
    gap_after_linked g.met.K.ForwardLinks.between_linked [] (m.front ++ m.back) off (sym e ∙ c.first-first.ensures ∙ off.head)

pub insert_linked-requires-clause-next : goal.insert_linked-requires-clause-next
insert_linked-requires-clause-next g c =
    let L = g.met.L.LinkOps in
    let m = c.requires.member in
    let off = c.detach.ensures.removed m.front m.back (rw (← c.place-place.ensures) at m.shown) in
    end_named _ _ (λ q e. L.covered_has_name _ q (L.linked_is_covered _ q (gap_after_linked g.met.K.ForwardLinks.between_linked [] (m.front ++ m.back) off (sym e ∙ c.first-first.ensures ∙ off.head))))

pub returns : goal.returns
returns g c = record {
  moved = λ front back shown.
      let whole = rw (← c.place-place.ensures) at shown in
      let off = c.detach.ensures.removed front back whole in
      rw (← c.place-place.ensures)
      (c.insert_linked.ensures.shows [] (front ++ back) off refl (c.first-first.ensures ∙ off.head) (distinct_middle front back c.place-place.result whole.distinct));
  trace_stays = g.met.L.LinkOps.does_on _ _ _ _ _ c.detach.ensures.trace_stays c.insert_linked.ensures.trace_stays;
  frame = λ s shown.
      let m = c.requires.member in
      let whole = rw (← c.place-place.ensures) at m.shown in
      let off = c.detach.ensures.removed m.front m.back whole in
      let first = c.detach.ensures.frame s shown in
      record {
        extent = c.insert_linked.ensures.extent ∙ first.extent;
        others = λ q out.
            let apart = rw (← one_represented g.met.K.ForwardLinks.leads m.shown shown) at out in
            let rest = absent_without m.front m.back c.args.object.now q apart in
            c.insert_linked.ensures.others q (λ e. cc) (rw c.place-place.ensures (absent_right q m.front (c.args.object.now ∷ m.back) apart).0)
            (λ _. (gap_not [] (m.front ++ m.back) refl (c.first-first.ensures ∙ off.head) rest).1)
            ∙ first.others q out;
      };
}
