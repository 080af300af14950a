use Rattle.std.proofs.Common.{◌≡◌, Some, [], ◌∷◌, sym, ◌∙◌}
use Rattle.ic_link_ops.specs.Sequences.{last}
use Rattle.ic_link_ops.proofs.DoublyLists.{next_turns, prev_turns}
use Rattle.ic_link_ops.proofs.SequenceLemmas.{absent_left, absent_right, none_not, some_same}
use Rattle.ic_ring.proofs.Circles.{circles_joined, circle_cut, rotated}
use Rattle.ic_raw.specs.LinkWords.{lent_table, neighbors}
use Rattle.ic_raw.proofs.Rings.{last_tells, part_tells, not_last}
use Rattle.ic_raw.proofs.LinkViews.{link_words, linked_has_room}
use Rattle.ic_raw.proofs.ring.cross.Goals as goal

pub set_next-requires-clause-next : goal.set_next-requires-clause-next
set_next-requires-clause-next g c =
    let words = link_words g.W.Words g.W.NextWord g.W.PrevPlace in
    linked_has_room words g.met.W.Words.starts_unlinked c.args.links.now c.args.second.1 c.requires.second.stands

pub set_prev-requires-clause-prev : goal.set_prev-requires-clause-prev
set_prev-requires-clause-prev g c =
    let words = link_words g.W.Words g.W.NextWord g.W.PrevPlace in
    linked_has_room words g.met.W.Words.starts_unlinked c.args.links.now c.args.first.0 c.requires.first.linked

pub set_next-requires-2-clause-next : goal.set_next-requires-2-clause-next
set_next-requires-2-clause-next g c =
    let words = link_words g.W.Words g.W.NextWord g.W.PrevPlace in
    linked_has_room words g.met.W.Words.starts_unlinked c.args.links.now c.args.first.1 c.requires.first.stands

pub set_prev-requires-2-clause-prev : goal.set_prev-requires-2-clause-prev
set_prev-requires-2-clause-prev g c =
    let words = link_words g.W.Words g.W.NextWord g.W.PrevPlace in
    linked_has_room words g.met.W.Words.starts_unlinked c.args.links.now c.args.second.0 c.requires.second.linked

pub returns-clause-joins : goal.returns-clause-joins
returns-clause-joins g c [] s circle ring apart last_r last_s =
    absurd (none_not c.args.first.0 last_r)
returns-clause-joins g c (x ∷ r) [] circle ring apart last_r last_s =
    absurd (none_not c.args.second.0 last_s)
returns-clause-joins g c (x ∷ r) (y ∷ s) circle ring apart last_r last_s =
    let words = link_words g.W.Words g.W.NextWord g.W.PrevPlace in
    let t = lent_table words c.args.links.now in
    let to_x : c.args.first.1 ≡ x = some_same (sym c.requires.first.next ∙ (last_tells words t x r circle last_r).next) in
    let to_y : c.args.second.1 ≡ y = some_same (sym c.requires.second.next ∙ (last_tells words t y s ring last_s).next) in record {
      circle = circles_joined {n = neighbors words} x r y s circle ring apart
          (rw (sym last_r, to_y) at (next_turns {n = neighbors words} (Some x) c.set_next.ensures.frame c.set_next.ensures.set))
          (rw (sym last_r, to_y) at (prev_turns {n = neighbors words} (last (y ∷ s)) c.set_prev.ensures.frame c.set_prev.ensures.set))
          (rw (sym last_s, to_x) at (next_turns {n = neighbors words} (Some y) c.set_next-2.ensures.frame c.set_next-2.ensures.set))
          (rw (sym last_s, to_x) at (prev_turns {n = neighbors words} (last (x ∷ r)) c.set_prev-2.ensures.frame c.set_prev-2.ensures.set));
      frame = record {
        extent = c.set_prev-2.ensures.frame.extent ∙ c.set_next-2.ensures.frame.extent ∙ c.set_prev.ensures.frame.extent ∙ c.set_next.ensures.frame.extent;
        others = λ q out.
            let one = absent_left q (x ∷ r) (y ∷ s) out in
            let two = absent_right q (x ∷ r) (y ∷ s) out in
            c.set_prev-2.ensures.frame.others q (λ e. one.0 (e ∙ to_x)) ∙ c.set_next-2.ensures.frame.others q (not_last q c.args.second.0 (y ∷ s) last_s two)
            ∙ c.set_prev.ensures.frame.others q (λ e. two.0 (e ∙ to_y)) ∙ c.set_next.ensures.frame.others q (not_last q c.args.first.0 (x ∷ r) last_r one);
      };
    }

pub returns-clause-cuts : goal.returns-clause-cuts
returns-clause-cuts g c [] s circle last_r last_s =
    absurd (none_not c.args.first.0 last_r)
returns-clause-cuts g c (x ∷ r) [] circle last_r last_s =
    absurd (none_not c.args.second.0 last_s)
returns-clause-cuts g c (x ∷ r) (y ∷ s) circle last_r last_s =
    let words = link_words g.W.Words g.W.NextWord g.W.PrevPlace in
    let t = lent_table words c.args.links.now in
    let to_y : c.args.first.1 ≡ y = some_same (sym c.requires.first.next ∙ (part_tells words t x r y s circle last_r).next) in
    let to_x : c.args.second.1 ≡ x =
    some_same (sym c.requires.second.next ∙ (part_tells words t y s x r (rotated {n = neighbors words} (x ∷ r) (y ∷ s) circle) last_s).next) in
    let parts = circle_cut {n = neighbors words} x r y s circle
    (rw (sym last_r, to_x) at (next_turns {n = neighbors words} (Some y) c.set_next.ensures.frame c.set_next.ensures.set))
    (rw (sym last_r, to_x) at (prev_turns {n = neighbors words} (last (y ∷ s)) c.set_prev.ensures.frame c.set_prev.ensures.set))
    (rw (sym last_s, to_y) at (next_turns {n = neighbors words} (Some x) c.set_next-2.ensures.frame c.set_next-2.ensures.set))
    (rw (sym last_s, to_y) at (prev_turns {n = neighbors words} (last (x ∷ r)) c.set_prev-2.ensures.frame c.set_prev-2.ensures.set)) in record {
      circle = parts.0;
      beside = parts.1;
      frame = record {
        extent = c.set_prev-2.ensures.frame.extent ∙ c.set_next-2.ensures.frame.extent ∙ c.set_prev.ensures.frame.extent ∙ c.set_next.ensures.frame.extent;
        others = λ q out.
            let one = absent_left q (x ∷ r) (y ∷ s) out in
            let two = absent_right q (x ∷ r) (y ∷ s) out in
            c.set_prev-2.ensures.frame.others q (λ e. two.0 (e ∙ to_y)) ∙ c.set_next-2.ensures.frame.others q (not_last q c.args.second.0 (y ∷ s) last_s two)
            ∙ c.set_prev.ensures.frame.others q (λ e. one.0 (e ∙ to_x)) ∙ c.set_next.ensures.frame.others q (not_last q c.args.first.0 (x ∷ r) last_r one);
      };
    }

pub returns-clause-others : goal.returns-clause-others
returns-clause-others g c q before following ahead after =
    c.set_prev-2.ensures.frame.others q following ∙ c.set_next-2.ensures.frame.others q ahead ∙ c.set_prev.ensures.frame.others q after ∙ c.set_next.ensures.frame.others q before

pub returns-clause-extent : goal.returns-clause-extent
returns-clause-extent g c =
    c.set_prev-2.ensures.frame.extent ∙ c.set_next-2.ensures.frame.extent ∙ c.set_prev.ensures.frame.extent ∙ c.set_next.ensures.frame.extent
