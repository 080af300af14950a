use Rattle.std.proofs.Common.{◌≡◌, Some, ◌∷◌, ◌++◌, refl, sym, ap, subst, ◌∙◌, rules}
use Rattle.ic_link_ops.proofs.SequenceLemmas.{some_same}
use Rattle.ic_raw.specs.Prelude.{outermost, toward, sides, place_of}
use Rattle.ic_raw.specs.declared.gap.GapSide.TheVariants.{After, Before}
use Rattle.ic_raw.specs.Doubly.{Represents, TellsGap, end_on, ends_of}
use Rattle.ic_raw.proofs.Doubly.{around_viewed, gap_viewed, told_back, told_viewed}
use Rattle.ic_raw.proofs.Lists.{kept}
use Rattle.ic_raw.proofs.Touches.{touches_nothing}
use Rattle.ic_raw.proofs.Moves.{moved_same, has_one_beyond, ends, end_inserted, end_left, outermost_whole, not_inner, stands_at_end, stands_back, toward_either}
use Rattle.ic_raw.specs.LinkWords.{lent_table}
use Rattle.ic_raw.proofs.LinkViews.{link_words, viewed, inserted_back, touched_back}
use Rattle.ic_raw.proofs.move_calls.move_to_end.Goals as goal

pub returns-in-Some-gap_at_end : goal.returns-in-Some-gap_at_end
returns-in-Some-gap_at_end g c =
    let words = link_words g.W.Words g.W.NextWord g.W.PrevPlace in record {
      moved = λ front back p is shown'.
          let one : p ≡ c.in-Some.member = some_same (sym is ∙ sym c.place_of.ensures ∙ c.in-Some.is) in
          let seen : Represents words (lent_table words c.new-links.result) c.list_of-edited.result (front ++ c.in-Some.member ∷ back) = rw c.list_of-edited.ensures (viewed words kept c.new-links.result c.new-links.ensures.1 (rw one at shown')) in
          let side = c.args.side in
          let found = c.in-Some-between.is in
          let from = c.between.ensures.shown _ c.list_of-edited.result front back found seen in
          let inner = sym (toward_either side _ (c.between.ensures.prev _ found) (c.between.ensures.next _ found)).1 ∙ ap (toward side) from in
          let to = c.gap_at_end.ensures.shown _ (front ++ c.in-Some.member ∷ back) c.in-Some-gap_at_end.is seen ∙ end_left side front c.in-Some.member back inner in
          rw one (record {
            accepted = refl;
            done = inserted_back words kept c.new-links.result c.relocate.new.links c.new-links.ensures.1 (search rules) (search rules)
                (c.relocate.ensures.moved front back (outermost side (front ++ back)) seen (outermost_whole side (front ++ back)) from to);
          });
      there = λ front back p end is shown'.
          let one : p ≡ c.in-Some.member = some_same (sym is ∙ sym c.place_of.ensures ∙ c.in-Some.is) in
          let seen : Represents words (lent_table words c.new-links.result) c.list_of-edited.result (front ++ c.in-Some.member ∷ back) = rw c.list_of-edited.ensures (viewed words kept c.new-links.result c.new-links.ensures.1 (rw one at shown')) in
          let side = c.args.side in
          let found = c.in-Some-between.is in
          let from = c.between.ensures.shown _ c.list_of-edited.result front back found seen in
          absurd (not_inner side front back end (sym (toward_either side _ (c.between.ensures.prev _ found) (c.between.ensures.next _ found)).1 ∙ ap (toward side) from));
      null = search rules;
      links_back = λ made. told_viewed words c.args.side c.new-links.result c.new-links.ensures.1 c.list_of-edited.ensures refl (c.gap_at_end.ensures.links_back _ c.in-Some-gap_at_end.is);
      member = λ made. stands_back words c.new-links.result c.new-links.ensures.1 (sym c.in-Some.is ∙ c.place_of.ensures) (c.between.ensures.member _ c.in-Some-between.is);
      before = λ made.
          let list = ends_of c.args.list.now in
          let links_back = c.between.ensures.before _ list c.in-Some-between.is in
          told_back words Before c.new-links.result list (place_of c.args.place) c.new-links.ensures.1
          (subst (λ at. TellsGap words Before (lent_table words c.new-links.result) list at) (sym c.in-Some.is ∙ c.place_of.ensures) links_back);
      after = λ made.
          let list = ends_of c.args.list.now in
          let links_back = c.between.ensures.after _ list c.in-Some-between.is in
          told_back words After c.new-links.result list (place_of c.args.place) c.new-links.ensures.1
          (subst (λ at. TellsGap words After (lent_table words c.new-links.result) list at) (sym c.in-Some.is ∙ c.place_of.ensures) links_back);
      linked = search rules;
      touched = λ made.
          let member = sym c.in-Some.is ∙ c.place_of.ensures in
          let from = around_viewed words c.new-links.result c.new-links.ensures.1 refl member (c.between.ensures.sides _ (ends_of c.args.list.now) c.in-Some-between.is) in
          let to = gap_viewed words c.args.side c.new-links.result c.new-links.ensures.1 c.list_of-edited.ensures refl (c.gap_at_end.ensures.sides _ c.in-Some-gap_at_end.is) in
          touched_back words c.new-links.result c.relocate.new.links c.new-links.ensures.1 (search rules)
          (λ k. (sym member k) ∷ sides (from k) ++ sides (to k)) c.relocate.ensures.touched;
      own = λ p is made away.
          let member = sym c.in-Some.is ∙ c.place_of.ensures in
          let from = around_viewed words c.new-links.result c.new-links.ensures.1 refl member (c.between.ensures.sides _ (ends_of c.args.list.now) c.in-Some-between.is) in
          let to = gap_viewed words c.args.side c.new-links.result c.new-links.ensures.1 c.list_of-edited.ensures refl (c.gap_at_end.ensures.sides _ c.in-Some-gap_at_end.is) in
          moved_same from (sym member) to (sym c.list_of-edited.ensures) c.write_back.ensures.set c.relocate.ensures.own;
      stays = λ p is made end.
          let side = c.args.side in
          let list = c.list_of-edited.result in
          let one : p ≡ c.in-Some.member = some_same (sym is ∙ sym c.place_of.ensures ∙ c.in-Some.is) in
          let found = c.in-Some-between.is in
          let beyond = sym (ap (toward side) (c.between.ensures.sides _ list found)) ∙ (toward_either side _ (c.between.ensures.prev _ found) (c.between.ensures.next _ found)).1 in
          absurd (has_one_beyond words side (lent_table words c.new-links.result) list (c.gap_at_end.ensures.links_back _ c.in-Some-gap_at_end.is) beyond
          (ap (λ l. end_on side l) c.list_of-edited.ensures ∙ end ∙ ap (λ q. Some q) one));
      words = search rules;
      refused = search rules;
      why = search rules;
      is_status = search rules;
    }

pub returns-then-is_at_end : goal.returns-then-is_at_end
returns-then-is_at_end g c =
    let words = link_words g.W.Words g.W.NextWord g.W.PrevPlace in record {
      moved = λ front back p is shown'.
          let side = c.args.side in
          let one : p ≡ c.in-Some.member = some_same (sym is ∙ sym c.place_of.ensures ∙ c.in-Some.is) in
          let member = c.in-Some.member in
          let shown = rw one at shown' in
          let seen : Represents words (lent_table words c.new-links.result) c.list_of-edited.result (front ++ member ∷ back) = rw c.list_of-edited.ensures (viewed words kept c.new-links.result c.new-links.ensures.1 shown) in
          let list : c.list_of-edited.result ≡ ends (front ++ member ∷ back) = (λ k. record { head = seen.head k; tail = seen.tail k }) in
          let end = stands_at_end side front member back seen.distinct (subst (λ e. end_on side e ≡ Some member) list (c.is_at_end.ensures.end c.if-is_at_end.true)) in
          rw one (record {
            accepted = refl;
            done = inserted_back words kept c.new-links.result c.new-links.result {h = c.list_of-edited.result} c.new-links.ensures.1 (search rules) (search rules)
                (record { shows = rw (end_inserted side front member back end) seen; frame = record { extent = refl; others = λ q away. refl } });
          });
      there = search rules;
      null = search rules;
      links_back = search rules;
      member = search rules;
      before = search rules;
      after = search rules;
      linked = search rules;
      touched = λ made. touches_nothing (search rules);
      own = λ p is made away.
          let side = c.args.side in
          let one : p ≡ c.in-Some.member = some_same (sym is ∙ sym c.place_of.ensures ∙ c.in-Some.is) in
          absurd (away (sym (ap (λ l. end_on side l) c.list_of-edited.ensures) ∙ c.is_at_end.ensures.end c.if-is_at_end.true ∙ ap (λ q. Some q) (sym one)));
      stays = search rules;
      words = search rules;
      refused = search rules;
      why = search rules;
      is_status = search rules;
    }

-- if the member is already at this end of the list, it stays where it is
