use Rattle.std.proofs.Common.{◌≡◌, ◌≢◌, None, [], ◌∷◌, refl, sym, ap, subst, ◌∙◌}
use Rattle.ic_unsafe_ref.specs.declared.place.Place.{Place}
use Rattle.ic_link_ops.proofs.SequenceLemmas.{IsOutside, absent_both, absent_left, absent_right, disjoint_right, disjoint_sym, last_outside, none_not, some_same}
use Rattle.ic_ring.proofs.Circles.{circle_beside, circle_taken, last_some, next_not, prev_not, tested_same, tested_other}
use Rattle.ic_ring.proofs.OtherRings.{circle_stays}
use Rattle.ic_raw.specs.LinkWords.{lent_table, neighbors}
use Rattle.ic_raw.proofs.Rings.{apart_around, apart_beside, circle_tells, not_beside, own_linked, some_there, stands_alone, splices_elsewhere, before_gap, from_gap, last_before, disjoint_gap, absent_gap, all_put, none_put, absent_all}
use Rattle.ic_raw.proofs.Touches.{other_place}
use Rattle.ic_raw.proofs.LinkViews.{link_words, linked_has_room}
use Rattle.ic_raw.proofs.ring_moves.splice.Goals as goal

pub returns-in_default-clause-spliced : goal.returns-in_default-clause-spliced
returns-in_default-clause-spliced g c r s ring circle away = absurd (some_there c.in_default.is (c.around.ensures.tells s circle))

pub returns-in_default-beside-clause-spliced : goal.returns-in_default-beside-clause-spliced
returns-in_default-beside-clause-spliced g c r s ring circle away =
    let words = link_words g.W.Words g.W.NextWord g.W.PrevPlace in
    let x = circle_tells words (lent_table words c.args.links.now) r ring c.args.side in absurd (none_not x.0 (sym c.in_default-beside.is ∙ c.beside.ensures.tells x.0 x.1 x.2))

pub returns-then-eq-clause-spliced : goal.returns-then-eq-clause-spliced
returns-then-eq-clause-spliced g c r s ring circle away =
    let words = link_words g.W.Words g.W.NextWord g.W.PrevPlace in
    let to = c.beside.ensures.links_back c.in-Some-beside.to c.in-Some-beside.is in
    let out = (disjoint_sym (c.args.at ∷ r) (c.args.given ∷ s) away).0 in
    absurd ((not_beside words c.args.side (lent_table words c.args.links.now) r ring c.in-Some-beside.to to.0 to.1 c.args.given out).0 (sym (tested_same _ _ (sym c.eq.ensures ∙ c.if-eq.true))))

pub returns-then-eq-2-clause-spliced : goal.returns-then-eq-2-clause-spliced
returns-then-eq-2-clause-spliced g c r s ring circle away =
    let words = link_words g.W.Words g.W.NextWord g.W.PrevPlace in
    let from = c.around.ensures.links_back c.in-Some.from c.in-Some.is in
    let to = c.beside.ensures.links_back c.in-Some-beside.to c.in-Some-beside.is in
    let is = sym circle.chain.0.prev ∙ from.0.prev in
    let out = subst (λ o. IsOutside o (c.args.at ∷ r)) is (last_outside None (c.args.given ∷ s) (c.args.at ∷ r) tt (disjoint_sym (c.args.at ∷ r) (c.args.given ∷ s) away)) in
    absurd ((not_beside words c.args.side (lent_table words c.args.links.now) r ring c.in-Some-beside.to to.0 to.1 c.in-Some.from.0 out).0 (sym (tested_same _ _ (sym c.eq-2.ensures ∙ c.if-eq-2.true))))

pub returns-then-eq-3-clause-spliced : goal.returns-then-eq-3-clause-spliced
returns-then-eq-3-clause-spliced g c r s ring circle away =
    let words = link_words g.W.Words g.W.NextWord g.W.PrevPlace in
    let from = c.around.ensures.links_back c.in-Some.from c.in-Some.is in
    let none = stands_alone words s circle from.0 (tested_same _ _ (sym c.eq-3.ensures ∙ c.if-eq-3.true)) in
    (refl, record { circle = rw none (none_put words c.args.side (lent_table words c.args.links.now) c.args.at r ring); beside = rw none at circle; frame = record { extent = refl; others = λ q out. refl } })

pub returns-then-eq-3-clause-linked : goal.returns-then-eq-3-clause-linked
returns-then-eq-3-clause-linked g c made =
    let words = link_words g.W.Words g.W.NextWord g.W.PrevPlace in
    let to = c.beside.ensures.links_back c.in-Some-beside.to c.in-Some-beside.is in own_linked words c.args.side c.in-Some-beside.to to.0 to.1

pub returns-then-eq-3-clause-other : goal.returns-then-eq-3-clause-other
returns-then-eq-3-clause-other g c made =
    let words = link_words g.W.Words g.W.NextWord g.W.PrevPlace in
    let from = c.around.ensures.links_back c.in-Some.from c.in-Some.is in
    let to = c.beside.ensures.links_back c.in-Some-beside.to c.in-Some-beside.is in
    splices_elsewhere words c.args.side c.in-Some-beside.to to.0 to.1 from.0 (tested_other _ _ (sym c.eq.ensures ∙ c.if-eq.false)) (tested_other _ _ (sym c.eq-2.ensures ∙ c.if-eq-2.false))

pub close_gap-requires-clause-before : goal.close_gap-requires-clause-before
close_gap-requires-clause-before g c = (c.around.ensures.links_back c.in-Some.from c.in-Some.is).0.linked

pub close_gap-requires-clause-after : goal.close_gap-requires-clause-after
close_gap-requires-clause-after g c = (c.around.ensures.links_back c.in-Some.from c.in-Some.is).1.stands

pub cross-requires-clause-first : goal.cross-requires-clause-first
cross-requires-clause-first g c =
    let words = link_words g.W.Words g.W.NextWord g.W.PrevPlace in
    let from = c.around.ensures.links_back c.in-Some.from c.in-Some.is in
    let to = c.beside.ensures.links_back c.in-Some-beside.to c.in-Some-beside.is in
    c.close_gap.ensures.links_back _ _ (tested_other _ _ (sym c.eq-2.ensures ∙ c.if-eq-2.false))
    (λ e. tested_other _ _ (sym c.eq.ensures ∙ c.if-eq.false) (some_same (sym to.0.prev ∙ ap (λ z. (neighbors words ((lent_table words c.args.links.now).entry z)).prev) e ∙ from.1.prev))) to.0

pub set_prev-requires : goal.set_prev-requires
set_prev-requires g c =
    let words = link_words g.W.Words g.W.NextWord g.W.PrevPlace in
    let given = c.args.given in
    let stands = (c.around.ensures.links_back c.in-Some.from c.in-Some.is).1.linked in record {
      linked = c.cross.ensures.trace_stays given ∙ c.close_gap.ensures.trace_stays given ∙ stands;
      prev = linked_has_room words g.met.W.Words.starts_unlinked c.args.links.now given stands;
    }

pub set_next-requires-clause-next : goal.set_next-requires-clause-next
set_next-requires-clause-next g c =
    let words = link_words g.W.Words g.W.NextWord g.W.PrevPlace in
    linked_has_room words g.met.W.Words.starts_unlinked c.args.links.now c.args.given (c.around.ensures.links_back c.in-Some.from c.in-Some.is).1.linked

pub returns-clause-spliced : goal.returns-clause-spliced
returns-clause-spliced g c r s ring circle away =
    let words = link_words g.W.Words g.W.NextWord g.W.PrevPlace in
    let old = lent_table words c.args.links.now in
    let side = c.args.side in
    let at = c.args.at in
    let given = c.args.given in
    let from = c.around.ensures.links_back c.in-Some.from c.in-Some.is in
    let to = c.beside.ensures.links_back c.in-Some-beside.to c.in-Some-beside.is in
    let rest = disjoint_sym (at ∷ r) (given ∷ s) away in
    let off = circle_taken {n = neighbors words} from.0.prev from.1.next (c.close_gap.ensures.closed given) s circle in
    let stays = circle_stays {n = neighbors words} (at ∷ r) (given ∷ s) ring away
    (λ q out. c.close_gap.ensures.others q (prev_not {n = neighbors words} s circle from.0.prev out) (next_not {n = neighbors words} s circle from.1.next out)) in
    let apart = disjoint_gap side at r s (disjoint_right (at ∷ r) (given ∷ []) s away) in
    let joined = c.cross.ensures.joins (before_gap side at r) s (from_gap words side (lent_table words c.close_gap.new.links) at r stays) off apart (last_before words side old at r ring c.in-Some-beside.to to.0 to.1)
    (sym (last_some {n = neighbors words} s circle from.0.prev (tested_other _ _ (sym c.eq-3.ensures ∙ c.if-eq-3.false)))) in
    let same : (q : Place) → q ≢ given → (lent_table words c.set_next.new.self).entry q ≡ (lent_table words c.cross.new.links).entry q =
    λ q other. c.set_next.ensures.frame.others q other ∙ c.set_prev.ensures.frame.others q other in (
      refl,
      record {
        circle = circle_beside {n = neighbors words} given (all_put words side (lent_table words c.cross.new.links) at r s joined.circle) (absent_all side at r s given rest.0 circle.distinct.0) same;
        beside = record {
          distinct = (tt, tt);
          chain = (
            record {
              linked = ap (λ x. x.linked) c.set_next.ensures.set ∙ ap (λ x. x.linked) c.set_prev.ensures.set
                  ∙ c.cross.ensures.trace_stays given ∙ c.close_gap.ensures.trace_stays given ∙ from.1.linked;
              prev = ap (λ x. x.prev) c.set_next.ensures.set ∙ ap (λ x. x.prev) c.set_prev.ensures.set;
              next = ap (λ x. x.next) c.set_next.ensures.set;
            },
            tt,
          );
        };
        frame = record {
          extent = c.set_next.ensures.frame.extent ∙ c.set_prev.ensures.frame.extent ∙ joined.frame.extent ∙ c.close_gap.ensures.extent;
          others = λ q out.
              let one = absent_left q (at ∷ r) (given ∷ s) out in
              let two = absent_right q (at ∷ r) (given ∷ s) out in
              same q two.0 ∙ joined.frame.others q (absent_both q (before_gap side at r) s (absent_gap side at r q one) two.1)
              ∙ c.close_gap.ensures.others q (prev_not {n = neighbors words} s circle from.0.prev two) (next_not {n = neighbors words} s circle from.1.next two);
        };
      },
    )

pub returns-clause-before : goal.returns-clause-before
returns-clause-before g c made = (c.in-Some.from.0, (c.around.ensures.links_back c.in-Some.from c.in-Some.is).0)

pub returns-clause-after : goal.returns-clause-after
returns-clause-after g c made = (c.in-Some.from.1, (c.around.ensures.links_back c.in-Some.from c.in-Some.is).1)

pub returns-clause-linked : goal.returns-clause-linked
returns-clause-linked g c made =
    let words = link_words g.W.Words g.W.NextWord g.W.PrevPlace in
    let to = c.beside.ensures.links_back c.in-Some-beside.to c.in-Some-beside.is in own_linked words c.args.side c.in-Some-beside.to to.0 to.1

pub returns-clause-other : goal.returns-clause-other
returns-clause-other g c made =
    let words = link_words g.W.Words g.W.NextWord g.W.PrevPlace in
    let from = c.around.ensures.links_back c.in-Some.from c.in-Some.is in
    let to = c.beside.ensures.links_back c.in-Some-beside.to c.in-Some-beside.is in
    splices_elsewhere words c.args.side c.in-Some-beside.to to.0 to.1 from.0 (tested_other _ _ (sym c.eq.ensures ∙ c.if-eq.false)) (tested_other _ _ (sym c.eq-2.ensures ∙ c.if-eq-2.false))

pub returns-then-eq-3-clause-before : goal.returns-then-eq-3-clause-before
returns-then-eq-3-clause-before g c made = (c.in-Some.from.0, (c.around.ensures.links_back c.in-Some.from c.in-Some.is).0)

pub returns-then-eq-3-clause-after : goal.returns-then-eq-3-clause-after
returns-then-eq-3-clause-after g c made = (c.in-Some.from.1, (c.around.ensures.links_back c.in-Some.from c.in-Some.is).1)

pub returns-then-eq-3-clause-touched : goal.returns-then-eq-3-clause-touched
returns-then-eq-3-clause-touched g c made = record { steps_are = λ q. refl; others = λ q out. refl }

pub returns-clause-touched : goal.returns-clause-touched
returns-clause-touched g c made =
    let words = link_words g.W.Words g.W.NextWord g.W.PrevPlace in
    let from = c.around.ensures.links_back c.in-Some.from c.in-Some.is in
    let to = c.beside.ensures.links_back c.in-Some-beside.to c.in-Some-beside.is in record {
      steps_are = λ q. c.set_next.ensures.trace_stays q ∙ c.set_prev.ensures.trace_stays q ∙ c.cross.ensures.trace_stays q ∙ c.close_gap.ensures.trace_stays q;
      others = λ q out.
          let away = other_place out.0 in
          let off = apart_around words from.0 from.1 out.1.0 out.1.1.0 in
          let on = apart_beside words c.args.side c.in-Some-beside.to to.0 to.1 out.1.1.1.0 out.1.1.1.1.0 in
          c.set_next.ensures.frame.others q away ∙ c.set_prev.ensures.frame.others q away ∙ c.cross.ensures.others q on.0 on.1 off.0 off.1
          ∙ c.close_gap.ensures.others q off.0 off.1;
    }

pub returns-clause-extent : goal.returns-clause-extent
returns-clause-extent g c = c.set_next.ensures.frame.extent ∙ c.set_prev.ensures.frame.extent ∙ c.cross.ensures.extent ∙ c.close_gap.ensures.extent
