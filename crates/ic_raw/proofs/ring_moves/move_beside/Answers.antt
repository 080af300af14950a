use Rattle.std.proofs.Common.{◌∷◌, ◌++◌, refl, sym, ◌∙◌}
use Rattle.ic_link_ops.specs.Sequences.{IsAbsent}
use Rattle.ic_link_ops.proofs.SequenceLemmas.{absent_left, absent_right, absent_turned, disjoint_cons, disjoint_sym, none_not}
use Rattle.ic_ring.proofs.Circles.{circle_taken, next_not, prev_not, rotated, tested_same, tested_other}
use Rattle.ic_ring.proofs.OtherRings.{circle_stays}
use Rattle.ic_raw.specs.LinkWords.{lent_table, neighbors}
use Rattle.ic_raw.proofs.Rings.{apart_around, apart_beside, circle_tells, neighbor_not, not_beside, own_linked, stays_told, put_already, some_there}
use Rattle.ic_raw.proofs.Touches.{other_place}
use Rattle.ic_raw.proofs.LinkViews.{link_words}
use Rattle.ic_raw.proofs.ring_moves.move_beside.Goals as goal

pub returns-in_default-clause-apart : goal.returns-in_default-clause-apart
returns-in_default-clause-apart g c r s circle ring away = absurd (some_there c.in_default.is (c.around.ensures.tells r circle))

pub returns-in_default-clause-in_circle : goal.returns-in_default-clause-in_circle
returns-in_default-clause-in_circle g c r s circle = absurd (some_there c.in_default.is (c.around.ensures.tells (r ++ c.args.at ∷ s) circle))

pub returns-in_default-clause-itself : goal.returns-in_default-clause-itself
returns-in_default-clause-itself g c r same circle = absurd (some_there c.in_default.is (c.around.ensures.tells r circle))

pub returns-then-eq-clause-apart : goal.returns-then-eq-clause-apart
returns-then-eq-clause-apart g c r s circle ring away = absurd (away.0.0 (sym (tested_same _ _ (sym c.eq.ensures ∙ c.if-eq.true))))

pub returns-then-eq-clause-in_circle : goal.returns-then-eq-clause-in_circle
returns-then-eq-clause-in_circle g c r s circle =
    absurd ((absent_right c.args.place r (c.args.at ∷ s) circle.distinct.0).0 (sym (tested_same _ _ (sym c.eq.ensures ∙ c.if-eq.true))))

pub returns-then-eq-clause-linked : goal.returns-then-eq-clause-linked
returns-then-eq-clause-linked g c made =
    rw (tested_same c.args.at c.args.place (sym c.eq.ensures ∙ c.if-eq.true)) (c.around.ensures.links_back c.in-Some.from c.in-Some.is).0.stands

pub returns-in_default-beside-clause-apart : goal.returns-in_default-beside-clause-apart
returns-in_default-beside-clause-apart g c r s circle ring away =
    let words = link_words g.W.Words g.W.NextWord g.W.PrevPlace in
    let x = circle_tells words (lent_table words c.args.links.now) s ring c.args.side in absurd (none_not x.0 (sym c.in_default-beside.is ∙ c.beside.ensures.tells x.0 x.1 x.2))

pub returns-in_default-beside-clause-in_circle : goal.returns-in_default-beside-clause-in_circle
returns-in_default-beside-clause-in_circle g c r s circle =
    let words = link_words g.W.Words g.W.NextWord g.W.PrevPlace in
    let ring = rotated {n = neighbors words} (c.args.place ∷ r) (c.args.at ∷ s) circle in
    let x = circle_tells words (lent_table words c.args.links.now) (s ++ c.args.place ∷ r) ring c.args.side in
    absurd (none_not x.0 (sym c.in_default-beside.is ∙ c.beside.ensures.tells x.0 x.1 x.2))

pub returns-in_default-beside-clause-itself : goal.returns-in_default-beside-clause-itself
returns-in_default-beside-clause-itself g c r same circle = absurd (tested_other _ _ (sym c.eq.ensures ∙ c.if-eq.false) same)

pub returns-then-eq-2-clause-apart : goal.returns-then-eq-2-clause-apart
returns-then-eq-2-clause-apart g c r s circle ring away =
    let words = link_words g.W.Words g.W.NextWord g.W.PrevPlace in
    let links_back = c.beside.ensures.links_back c.in-Some-beside.to c.in-Some-beside.is in
    let apart = not_beside words c.args.side (lent_table words c.args.links.now) s ring c.in-Some-beside.to links_back.0 links_back.1 c.args.place away.0 in
    absurd (neighbor_not c.args.side c.in-Some-beside.to apart (sym c.neighbor_on.ensures ∙ tested_same _ _ (sym c.eq-2.ensures ∙ c.if-eq-2.true)))

pub returns-then-eq-2-clause-in_circle : goal.returns-then-eq-2-clause-in_circle
returns-then-eq-2-clause-in_circle g c r s circle =
    let words = link_words g.W.Words g.W.NextWord g.W.PrevPlace in
    let links_back = c.beside.ensures.links_back c.in-Some-beside.to c.in-Some-beside.is in
    let there = sym c.neighbor_on.ensures ∙ tested_same _ _ (sym c.eq-2.ensures ∙ c.if-eq-2.true) in
    (refl, record { circle = put_already words c.args.side (lent_table words c.args.links.now) c.args.at c.args.place r s circle c.in-Some-beside.to links_back.0 links_back.1 there; frame = record { extent = refl; others = λ q out. refl } })

pub returns-then-eq-2-clause-itself : goal.returns-then-eq-2-clause-itself
returns-then-eq-2-clause-itself g c r same circle = absurd (tested_other _ _ (sym c.eq.ensures ∙ c.if-eq.false) same)

pub close_gap-requires-clause-before : goal.close_gap-requires-clause-before
close_gap-requires-clause-before g c = (c.around.ensures.links_back c.in-Some.from c.in-Some.is).0.linked

pub close_gap-requires-clause-after : goal.close_gap-requires-clause-after
close_gap-requires-clause-after g c = (c.around.ensures.links_back c.in-Some.from c.in-Some.is).1.stands

pub link_between-requires-clause-held : goal.link_between-requires-clause-held
link_between-requires-clause-held g c = c.close_gap.ensures.trace_stays c.args.place ∙ (c.around.ensures.links_back c.in-Some.from c.in-Some.is).1.linked

pub link_between-requires-clause-links_back : goal.link_between-requires-clause-links_back
link_between-requires-clause-links_back g c =
    let words = link_words g.W.Words g.W.NextWord g.W.PrevPlace in
    let from = c.around.ensures.links_back c.in-Some.from c.in-Some.is in
    let to = c.beside.ensures.links_back c.in-Some-beside.to c.in-Some-beside.is in
    let other = stays_told words c.args.side c.in-Some.from c.in-Some-beside.to from.0 from.1 to.0 to.1 (tested_other _ _ (sym c.eq.ensures ∙ c.if-eq.false))
    (λ e. tested_other _ _ (sym c.eq-2.ensures ∙ c.if-eq-2.false) (c.neighbor_on.ensures ∙ e)) in
    c.close_gap.ensures.links_back _ _ other.0 other.1 to.0

pub returns-clause-apart : goal.returns-clause-apart
returns-clause-apart g c r s circle ring away =
    let words = link_words g.W.Words g.W.NextWord g.W.PrevPlace in
    let old = lent_table words c.args.links.now in
    let mid = lent_table words c.close_gap.new.links in
    let place = c.args.place in
    let at = c.args.at in
    let from = c.around.ensures.links_back c.in-Some.from c.in-Some.is in
    let to = c.beside.ensures.links_back c.in-Some-beside.to c.in-Some-beside.is in
    let off = circle_taken {n = neighbors words} from.0.prev from.1.next (c.close_gap.ensures.closed place) r circle in
    let stays = circle_stays {n = neighbors words} (at ∷ s) (place ∷ r) ring (disjoint_sym (place ∷ r) (at ∷ s) away)
    (λ q out. c.close_gap.ensures.others q (prev_not {n = neighbors words} r circle from.0.prev out) (next_not {n = neighbors words} r circle from.1.next out)) in
    let other = stays_told words c.args.side c.in-Some.from c.in-Some-beside.to from.0 from.1 to.0 to.1 (tested_other _ _ (sym c.eq.ensures ∙ c.if-eq.false))
    (λ e. tested_other _ _ (sym c.eq-2.ensures ∙ c.if-eq-2.false) (c.neighbor_on.ensures ∙ e)) in
    let links_back = c.close_gap.ensures.links_back _ _ other.0 other.1 to.0 in (
      refl,
      record {
        circle = circle_stays {n = neighbors words} r (place ∷ at ∷ s) off (disjoint_cons place r (at ∷ s) circle.distinct.0 away.1)
            (λ q out. let beside = not_beside words c.args.side mid s stays c.in-Some-beside.to links_back to.1 q out.1 in c.link_between.ensures.others q out.0 beside.0 beside.1);
        beside = c.link_between.ensures.inserted c.args.side at s to.1 stays away.0;
        frame = record {
          extent = c.link_between.ensures.extent ∙ c.close_gap.ensures.extent;
          others = λ q out.
              let one : IsAbsent q (place ∷ r) = (out.0, absent_left q r (at ∷ s) out.1) in
              let two = absent_right q r (at ∷ s) out.1 in
              let beside = not_beside words c.args.side old s ring c.in-Some-beside.to to.0 to.1 q two in
              c.link_between.ensures.others q out.0 beside.0 beside.1
              ∙ c.close_gap.ensures.others q (prev_not {n = neighbors words} r circle from.0.prev one) (next_not {n = neighbors words} r circle from.1.next one);
        };
      },
    )

pub returns-clause-in_circle : goal.returns-clause-in_circle
returns-clause-in_circle g c r s circle =
    let words = link_words g.W.Words g.W.NextWord g.W.PrevPlace in
    let old = lent_table words c.args.links.now in
    let place = c.args.place in
    let at = c.args.at in
    let from = c.around.ensures.links_back c.in-Some.from c.in-Some.is in
    let to = c.beside.ensures.links_back c.in-Some-beside.to c.in-Some-beside.is in
    let rest = r ++ at ∷ s in
    let off = circle_taken {n = neighbors words} from.0.prev from.1.next (c.close_gap.ensures.closed place) rest circle in
    let ring = rotated {n = neighbors words} (place ∷ r) (at ∷ s) circle in (
      refl,
      record {
        circle = c.link_between.ensures.inserted c.args.side at (s ++ r) to.1 (rotated {n = neighbors words} r (at ∷ s) off) (absent_turned place (at ∷ s) r circle.distinct.0);
        frame = record {
          extent = c.link_between.ensures.extent ∙ c.close_gap.ensures.extent;
          others = λ q out.
              let beside = not_beside words c.args.side old (s ++ place ∷ r) ring c.in-Some-beside.to to.0 to.1 q (absent_turned q (at ∷ s) (place ∷ r) out) in
              c.link_between.ensures.others q out.0 beside.0 beside.1
              ∙ c.close_gap.ensures.others q (prev_not {n = neighbors words} rest circle from.0.prev out) (next_not {n = neighbors words} rest circle from.1.next out);
        };
      },
    )

pub returns-clause-itself : goal.returns-clause-itself
returns-clause-itself g c r same circle = absurd (tested_other _ _ (sym c.eq.ensures ∙ c.if-eq.false) same)

pub returns-clause-before : goal.returns-clause-before
returns-clause-before g c made = (c.in-Some.from.0, (c.around.ensures.links_back c.in-Some.from c.in-Some.is).0)

pub returns-clause-after : goal.returns-clause-after
returns-clause-after g c made = (c.in-Some.from.1, (c.around.ensures.links_back c.in-Some.from c.in-Some.is).1)

pub returns-then-eq-2-clause-linked : goal.returns-then-eq-2-clause-linked
returns-then-eq-2-clause-linked g c made =
    let words = link_words g.W.Words g.W.NextWord g.W.PrevPlace in
    let to = c.beside.ensures.links_back c.in-Some-beside.to c.in-Some-beside.is in own_linked words c.args.side c.in-Some-beside.to to.0 to.1

pub returns-clause-linked : goal.returns-clause-linked
returns-clause-linked g c made =
    let words = link_words g.W.Words g.W.NextWord g.W.PrevPlace in
    let to = c.beside.ensures.links_back c.in-Some-beside.to c.in-Some-beside.is in own_linked words c.args.side c.in-Some-beside.to to.0 to.1

pub returns-then-eq-clause-before : goal.returns-then-eq-clause-before
returns-then-eq-clause-before g c made = (c.in-Some.from.0, (c.around.ensures.links_back c.in-Some.from c.in-Some.is).0)

pub returns-then-eq-clause-after : goal.returns-then-eq-clause-after
returns-then-eq-clause-after g c made = (c.in-Some.from.1, (c.around.ensures.links_back c.in-Some.from c.in-Some.is).1)

pub returns-then-eq-2-clause-before : goal.returns-then-eq-2-clause-before
returns-then-eq-2-clause-before g c made = (c.in-Some.from.0, (c.around.ensures.links_back c.in-Some.from c.in-Some.is).0)

pub returns-then-eq-2-clause-after : goal.returns-then-eq-2-clause-after
returns-then-eq-2-clause-after g c made = (c.in-Some.from.1, (c.around.ensures.links_back c.in-Some.from c.in-Some.is).1)

pub returns-then-eq-clause-touched : goal.returns-then-eq-clause-touched
returns-then-eq-clause-touched g c made = record { steps_are = λ q. refl; others = λ q out. refl }

pub returns-then-eq-2-clause-touched : goal.returns-then-eq-2-clause-touched
returns-then-eq-2-clause-touched g c made = record { steps_are = λ q. refl; others = λ q out. refl }

pub returns-clause-touched : goal.returns-clause-touched
returns-clause-touched g c made =
    let words = link_words g.W.Words g.W.NextWord g.W.PrevPlace in
    let from = c.around.ensures.links_back c.in-Some.from c.in-Some.is in
    let to = c.beside.ensures.links_back c.in-Some-beside.to c.in-Some-beside.is in record {
      steps_are = λ q. c.link_between.ensures.trace_stays q ∙ c.close_gap.ensures.trace_stays q;
      others = λ q out.
          let off = apart_around words from.0 from.1 out.1.0 out.1.1.0 in
          let on = apart_beside words c.args.side c.in-Some-beside.to to.0 to.1 out.1.1.1.0 out.1.1.1.1.0 in
          c.link_between.ensures.others q (other_place out.0) on.0 on.1 ∙ c.close_gap.ensures.others q off.0 off.1;
    }

pub returns-clause-extent : goal.returns-clause-extent
returns-clause-extent g c = c.link_between.ensures.extent ∙ c.close_gap.ensures.extent
