use Rattle.std.proofs.Common.{◌≡◌, inl, inr, Some, ◌∷◌, ◌++◌, refl, sym, ap, ◌∙◌, rules}
use Rattle.ic_link_ops.proofs.SequenceLemmas.{some_same, none_not, distinct_middle}
use Rattle.ic_raw.specs.declared.gap.GapSide.TheVariants.{After, Before}
use Rattle.ic_raw.specs.Touches.{sides}
use Rattle.ic_raw.specs.Doubly.{Represents}
use Rattle.ic_raw.proofs.Doubly.{around_viewed, gap_viewed, told_viewed}
use Rattle.ic_raw.proofs.Gaps.{never}
use Rattle.ic_raw.proofs.Lists.{kept}
use Rattle.ic_raw.proofs.Touches.{touches_nothing}
use Rattle.ic_raw.proofs.Moves.{apart_same, moved_same, own_gap, gap_beside_itself, goes, stands_back}
use Rattle.ic_raw.specs.LinkWords.{lent_table}
use Rattle.ic_raw.proofs.LinkViews.{link_words, viewed, inserted_back, touched_back}
use Rattle.ic_raw.proofs.move_calls.move_slow.Goals as goal

pub returns-in_default-gaps_to_move : goal.returns-in_default-gaps_to_move
returns-in_default-gaps_to_move g c =
    let words = link_words g.W.Words g.W.NextWord g.W.PrevPlace in record {
      moved = λ cut front back p beside is same shown'.
          let one : p ≡ c.in-Some.member = some_same (sym is ∙ sym c.place_of.ensures ∙ c.in-Some.is) in
          let shown = rw one at shown' in
          let seen : Represents words (lent_table words c.new-links.result) c.list_of-edited.result (front ++ c.in-Some.member ∷ back) = rw c.list_of-edited.ensures (viewed words kept c.new-links.result c.new-links.ensures.1 shown) in
          let gap = goes c.args.side c.in-Some.member front back cut (rw same (distinct_middle front back c.in-Some.member shown.distinct)) beside same in
          absurd (none_not _ (sym c.in_default-gaps_to_move.is ∙ c.gaps_to_move.ensures.shown front back gap.0 seen gap.1.same (rw c.place_of-2.ensures gap.1.beside)));
      -- if `at` is the member itself, the member stays where it is
      itself = λ front back p at is shown'.
          let one : p ≡ c.in-Some.member = some_same (sym is ∙ sym c.place_of.ensures ∙ c.in-Some.is) in
          let seen : Represents words (lent_table words c.new-links.result) c.list_of-edited.result (front ++ c.in-Some.member ∷ back) = rw c.list_of-edited.ensures (viewed words kept c.new-links.result c.new-links.ensures.1 (rw one at shown')) in
          let gap = gap_beside_itself c.args.side c.in-Some.member front back in
          let there = c.place_of-2.ensures ∙ at ∙ ap (λ q. Some q) one in
          absurd (none_not _ (sym c.in_default-gaps_to_move.is ∙ c.gaps_to_move.ensures.shown front back gap.0 seen gap.1.same (rw there gap.1.beside)));
      -- if the member is already on this side of `at`, the member stays where it is
      there = λ front back p beside is shown'.
          let one : p ≡ c.in-Some.member = some_same (sym is ∙ sym c.place_of.ensures ∙ c.in-Some.is) in
          let seen : Represents words (lent_table words c.new-links.result) c.list_of-edited.result (front ++ c.in-Some.member ∷ back) = rw c.list_of-edited.ensures (viewed words kept c.new-links.result c.new-links.ensures.1 (rw one at shown')) in
          let gap = own_gap c.args.side c.in-Some.member front back beside in
          absurd (none_not _ (sym c.in_default-gaps_to_move.is ∙ c.gaps_to_move.ensures.shown front back gap.0 seen gap.1.same (rw c.place_of-2.ensures gap.1.beside)));
      null = search rules;
      stands = search rules;
      links_back = search rules;
      member = search rules;
      before = search rules;
      after = search rules;
      linked = search rules;
      touched = search rules;
      own = search rules;
      stays = search rules;
      words = search rules;
      refused = search rules;
      why = search rules;
      is_status = search rules;
    }

pub returns-then-not-is_apart : goal.returns-then-not-is_apart
returns-then-not-is_apart g c =
    let words = link_words g.W.Words g.W.NextWord g.W.PrevPlace in record {
      moved = λ cut front back p beside is same shown'.
          let one : p ≡ c.in-Some.member = some_same (sym is ∙ sym c.place_of.ensures ∙ c.in-Some.is) in
          let shown = rw one at shown' in
          let seen : Represents words (lent_table words c.new-links.result) c.list_of-edited.result (front ++ c.in-Some.member ∷ back) = rw c.list_of-edited.ensures (viewed words kept c.new-links.result c.new-links.ensures.1 shown) in
          let gap = goes c.args.side c.in-Some.member front back cut (rw same (distinct_middle front back c.in-Some.member shown.distinct)) beside same in
          let found = some_same (sym c.in-Some-gaps_to_move.is ∙ c.gaps_to_move.ensures.shown front back gap.0 seen gap.1.same (rw c.place_of-2.ensures gap.1.beside)) in
          elim gap.2 [
            | inl there ↦ rw one (record {
              accepted = refl;
              done = inserted_back words kept c.new-links.result c.new-links.result {h = c.list_of-edited.result} c.new-links.ensures.1 (search rules) (search rules)
                  (record { shows = rw there.1 seen; frame = record { extent = refl; others = λ q away. refl } });
            })
            | inr away ↦ absurd (never c.if-not-is_apart.true (c.is_apart.ensures.1 (rw (ap (λ m. m.1) found) away.0)))
          ];
      itself = search rules;
      there = search rules;
      null = search rules;
      stands = λ made. stands_back words c.new-links.result c.new-links.ensures.1 c.place_of-2.ensures (c.gaps_to_move.ensures.at _ _ c.in-Some-gaps_to_move.is);
      links_back = λ made. told_viewed words c.args.side c.new-links.result c.new-links.ensures.1 c.list_of-edited.ensures c.place_of-2.ensures (c.gaps_to_move.ensures.links_back _ _ c.in-Some-gaps_to_move.is);
      member = λ made. stands_back words c.new-links.result c.new-links.ensures.1 (sym c.in-Some.is ∙ c.place_of.ensures) (c.gaps_to_move.ensures.member _ _ c.in-Some-gaps_to_move.is);
      before = λ made. told_viewed words Before c.new-links.result c.new-links.ensures.1 c.list_of-edited.ensures (sym c.in-Some.is ∙ c.place_of.ensures) (c.gaps_to_move.ensures.before _ _ c.in-Some-gaps_to_move.is);
      after = λ made. told_viewed words After c.new-links.result c.new-links.ensures.1 c.list_of-edited.ensures (sym c.in-Some.is ∙ c.place_of.ensures) (c.gaps_to_move.ensures.after _ _ c.in-Some-gaps_to_move.is);
      linked = search rules;
      touched = λ made. touches_nothing (search rules);
      own = λ p is made apart.
          let one : p ≡ c.in-Some.member = some_same (sym is ∙ sym c.place_of.ensures ∙ c.in-Some.is) in
          let gaps = c.gaps_to_move.ensures.sides _ _ c.in-Some-gaps_to_move.is in
          let to = gap_viewed words c.args.side c.new-links.result c.new-links.ensures.1 c.list_of-edited.ensures c.place_of-2.ensures gaps.1 in
          absurd (never c.if-not-is_apart.true (c.is_apart.ensures.1 (apart_same to one apart)));
      stays = search rules;
      words = search rules;
      refused = search rules;
      why = search rules;
      is_status = search rules;
    }

pub returns : goal.returns
returns g c =
    let words = link_words g.W.Words g.W.NextWord g.W.PrevPlace in record {
      moved = λ cut front back p beside is same shown'.
          let one : p ≡ c.in-Some.member = some_same (sym is ∙ sym c.place_of.ensures ∙ c.in-Some.is) in
          let shown = rw one at shown' in
          let seen : Represents words (lent_table words c.new-links.result) c.list_of-edited.result (front ++ c.in-Some.member ∷ back) = rw c.list_of-edited.ensures (viewed words kept c.new-links.result c.new-links.ensures.1 shown) in
          let gap = goes c.args.side c.in-Some.member front back cut (rw same (distinct_middle front back c.in-Some.member shown.distinct)) beside same in
          let found = some_same (sym c.in-Some-gaps_to_move.is ∙ c.gaps_to_move.ensures.shown front back gap.0 seen gap.1.same (rw c.place_of-2.ensures gap.1.beside)) in
          elim gap.2 [
            | inl there ↦ absurd (there.0 (rw (ap (λ m. m.1) found) at (c.is_apart.ensures.0 c.if-not-is_apart.false)))
            | inr away ↦ rw one (record {
              accepted = refl;
              done = inserted_back words kept c.new-links.result c.relocate.new.links c.new-links.ensures.1 (search rules) (search rules)
                  (c.relocate.ensures.moved front back cut seen same (ap (λ m. m.0) found) (ap (λ m. m.1) found ∙ away.1));
            })
          ];
      itself = λ front back p at is shown'.
          let one : p ≡ c.in-Some.member = some_same (sym is ∙ sym c.place_of.ensures ∙ c.in-Some.is) in
          let seen : Represents words (lent_table words c.new-links.result) c.list_of-edited.result (front ++ c.in-Some.member ∷ back) = rw c.list_of-edited.ensures (viewed words kept c.new-links.result c.new-links.ensures.1 (rw one at shown')) in
          let gap = gap_beside_itself c.args.side c.in-Some.member front back in
          let there = c.place_of-2.ensures ∙ at ∙ ap (λ q. Some q) one in
          let found = some_same (sym c.in-Some-gaps_to_move.is ∙ c.gaps_to_move.ensures.shown front back gap.0 seen gap.1.same (rw there gap.1.beside)) in
          absurd (gap.2 (rw (ap (λ m. m.1) found) at (c.is_apart.ensures.0 c.if-not-is_apart.false)));
      there = λ front back p beside is shown'.
          let one : p ≡ c.in-Some.member = some_same (sym is ∙ sym c.place_of.ensures ∙ c.in-Some.is) in
          let seen : Represents words (lent_table words c.new-links.result) c.list_of-edited.result (front ++ c.in-Some.member ∷ back) = rw c.list_of-edited.ensures (viewed words kept c.new-links.result c.new-links.ensures.1 (rw one at shown')) in
          let gap = own_gap c.args.side c.in-Some.member front back beside in
          let found = some_same (sym c.in-Some-gaps_to_move.is ∙ c.gaps_to_move.ensures.shown front back gap.0 seen gap.1.same (rw c.place_of-2.ensures gap.1.beside)) in
          absurd (gap.2 (rw (ap (λ m. m.1) found) at (c.is_apart.ensures.0 c.if-not-is_apart.false)));
      null = search rules;
      stands = λ made. stands_back words c.new-links.result c.new-links.ensures.1 c.place_of-2.ensures (c.gaps_to_move.ensures.at _ _ c.in-Some-gaps_to_move.is);
      links_back = λ made. told_viewed words c.args.side c.new-links.result c.new-links.ensures.1 c.list_of-edited.ensures c.place_of-2.ensures (c.gaps_to_move.ensures.links_back _ _ c.in-Some-gaps_to_move.is);
      member = λ made. stands_back words c.new-links.result c.new-links.ensures.1 (sym c.in-Some.is ∙ c.place_of.ensures) (c.gaps_to_move.ensures.member _ _ c.in-Some-gaps_to_move.is);
      before = λ made. told_viewed words Before c.new-links.result c.new-links.ensures.1 c.list_of-edited.ensures (sym c.in-Some.is ∙ c.place_of.ensures) (c.gaps_to_move.ensures.before _ _ c.in-Some-gaps_to_move.is);
      after = λ made. told_viewed words After c.new-links.result c.new-links.ensures.1 c.list_of-edited.ensures (sym c.in-Some.is ∙ c.place_of.ensures) (c.gaps_to_move.ensures.after _ _ c.in-Some-gaps_to_move.is);
      linked = search rules;
      touched = λ made.
          let member = sym c.in-Some.is ∙ c.place_of.ensures in
          let gaps = c.gaps_to_move.ensures.sides _ _ c.in-Some-gaps_to_move.is in
          let from = around_viewed words c.new-links.result c.new-links.ensures.1 c.list_of-edited.ensures member gaps.0 in
          let to = gap_viewed words c.args.side c.new-links.result c.new-links.ensures.1 c.list_of-edited.ensures c.place_of-2.ensures gaps.1 in
          touched_back words c.new-links.result c.relocate.new.links c.new-links.ensures.1 (search rules)
          (λ k. (sym member k) ∷ sides (from k) ++ sides (to k)) c.relocate.ensures.touched;
      own = λ p is made apart.
          let member = sym c.in-Some.is ∙ c.place_of.ensures in
          let gaps = c.gaps_to_move.ensures.sides _ _ c.in-Some-gaps_to_move.is in
          let from = around_viewed words c.new-links.result c.new-links.ensures.1 c.list_of-edited.ensures member gaps.0 in
          let to = gap_viewed words c.args.side c.new-links.result c.new-links.ensures.1 c.list_of-edited.ensures c.place_of-2.ensures gaps.1 in
          moved_same from (sym member) to (sym c.list_of-edited.ensures) c.write_back.ensures.set c.relocate.ensures.own;
      stays = λ p is made near.
          let one : p ≡ c.in-Some.member = some_same (sym is ∙ sym c.place_of.ensures ∙ c.in-Some.is) in
          let gaps = c.gaps_to_move.ensures.sides _ _ c.in-Some-gaps_to_move.is in
          let to = gap_viewed words c.args.side c.new-links.result c.new-links.ensures.1 c.list_of-edited.ensures c.place_of-2.ensures gaps.1 in
          absurd (near (apart_same (sym to) (sym one) (c.is_apart.ensures.0 c.if-not-is_apart.false)));
      words = search rules;
      refused = search rules;
      why = search rules;
      is_status = search rules;
    }
