use Rattle.std.proofs.Common.{[], ◌++◌, ◌∷◌, append-nil, refl, sym, ◌∙◌}
use Rattle.ic_link_ops.proofs.Prelude.{absent_right, absent_without, distinct_middle, gap_not, last_linked}
use Rattle.ic_chain.proofs.Standing.{last_kept, one_represented}
use Rattle.ic_chain.proofs.list.LinkList.move_to_back.Goals as goal

pub detach-requires : goal.detach-requires
detach-requires g c = record { member = rw c.place-place.ensures c.requires.member }

pub insert_linked-requires-clause-before : goal.insert_linked-requires-clause-before
insert_linked-requires-clause-before g c q e =
    let m = c.requires.member in
    let off = c.detach.ensures.removed m.front m.back (rw (← c.place-place.ensures) at m.shown) in
    last_linked g.met.K.ForwardLinks.between_linked off
    (sym e ∙ c.last-last.ensures ∙ last_kept g.K.ListKind.kept g.K.ListKind.kept_last g.met.K.DoubleEnded.keeps_both g.met.K.ListKind.tells_last off.tail)

pub returns : goal.returns
returns g c = record {
  moved = λ front back shown.
      let whole = rw (← c.place-place.ensures) at shown in
      let off = c.detach.ensures.removed front back whole in
      rw (← c.place-place.ensures)
      (c.insert_linked.ensures.shows (front ++ back) [] (rw append-nil off)
      (c.last-last.ensures ∙ last_kept g.K.ListKind.kept g.K.ListKind.kept_last g.met.K.DoubleEnded.keeps_both g.met.K.ListKind.tells_last off.tail) refl
      (rw append-nil (distinct_middle front back c.place-place.result whole.distinct)));
  trace_stays = g.met.L.LinkOps.does_on _ _ _ _ _ c.detach.ensures.trace_stays c.insert_linked.ensures.trace_stays;
  frame = λ s shown.
      let m = c.requires.member in
      let whole = rw (← c.place-place.ensures) at m.shown in
      let off = c.detach.ensures.removed m.front m.back whole in
      let was_last = c.last-last.ensures ∙ last_kept g.K.ListKind.kept g.K.ListKind.kept_last g.met.K.DoubleEnded.keeps_both g.met.K.ListKind.tells_last off.tail in
      let first = c.detach.ensures.frame s shown in
      record {
        extent = c.insert_linked.ensures.extent ∙ first.extent;
        others = λ q out.
            let apart = rw (← one_represented g.met.K.ForwardLinks.leads m.shown shown) at out in
            let rest = absent_without m.front m.back c.args.object.now q apart in
            c.insert_linked.ensures.others q (gap_not (m.front ++ m.back) [] was_last refl (rw append-nil rest)).0
            (rw c.place-place.ensures (absent_right q m.front (c.args.object.now ∷ m.back) apart).0) (λ _ e. cc)
            ∙ first.others q out;
      };
}
