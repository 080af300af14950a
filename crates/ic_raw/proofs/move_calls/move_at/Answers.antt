use Rattle.std.proofs.Common.{◌≡◌, inl, inr, Some, ◌∷◌, ◌++◌, refl, sym, ap, subst, ◌∙◌, rules}
use Rattle.ic_link_ops.proofs.SequenceLemmas.{some_same, distinct_middle}
use Rattle.ic_raw.specs.declared.gap.GapSide.TheVariants.{After, Before}
use Rattle.ic_raw.specs.Prelude.{sides, place_of}
use Rattle.ic_raw.specs.Doubly.{Represents, TellsGap, ends_of}
use Rattle.ic_raw.specs.ListCalls.{MoveCall}
use Rattle.ic_raw.proofs.Doubly.{around_viewed, gap_viewed, told_back}
use Rattle.ic_raw.proofs.Gaps.{never}
use Rattle.ic_raw.proofs.Views.{renamed}
use Rattle.ic_raw.proofs.Lists.{kept}
use Rattle.ic_raw.proofs.Touches.{touches_nothing}
use Rattle.ic_raw.proofs.Moves.{apart_same, moved_same, own_gap, gap_beside_itself, goes, stands_back}
use Rattle.ic_raw.specs.LinkWords.{lent_table}
use Rattle.ic_raw.proofs.LinkViews.{link_words, viewed, inserted_back, touched_back}
use Rattle.ic_raw.proofs.move_calls.move_at.Goals as goal

pub returns-then-not-is_apart : goal.returns-then-not-is_apart
returns-then-not-is_apart g c =
    let words = link_words g.W.Words g.W.NextWord g.W.PrevPlace in record {
      moved = λ cut front back p beside is same shown'.
          let one : p ≡ c.in-Some.member = some_same (sym is ∙ sym c.place_of.ensures ∙ c.in-Some.is) in
          let shown = rw one at shown' in
          let seen : Represents words (lent_table words c.new-links.result) c.list_of-edited.result (front ++ c.in-Some.member ∷ back) = rw c.list_of-edited.ensures (viewed words kept c.new-links.result c.new-links.ensures.1 shown) in
          let gap = goes c.args.side c.in-Some.member front back cut (rw same (distinct_middle front back c.in-Some.member shown.distinct)) beside same in
          let found = c.gaps_inside.ensures.shown _ _ c.list_of-edited.result front back gap.0 c.in-Some-gaps_inside.is seen gap.1.same (rw c.place_of-2.ensures gap.1.beside) in
          elim gap.2 [
            | inl there ↦ rw one (record {
              accepted = refl;
              done = inserted_back words kept c.new-links.result c.new-links.result {h = c.list_of-edited.result} c.new-links.ensures.1 (search rules) (search rules)
                  (record { shows = rw there.1 seen; frame = record { extent = refl; others = λ q away. refl } });
            })
            | inr away ↦ absurd (never c.if-not-is_apart.true (c.is_apart.ensures.1 (rw found.1 away.0)))
          ];
      itself = search rules;
      there = search rules;
      null = search rules;
      stands = λ made. stands_back words c.new-links.result c.new-links.ensures.1 c.place_of-2.ensures (c.gaps_inside.ensures.at _ _ c.in-Some-gaps_inside.is);
      links_back = λ made.
          let list = ends_of c.args.list.now in
          let links_back = c.gaps_inside.ensures.links_back _ _ list c.in-Some-gaps_inside.is in
          told_back words c.args.side c.new-links.result list (place_of c.args.at) c.new-links.ensures.1 (subst (λ at. TellsGap words c.args.side (lent_table words c.new-links.result) list at) c.place_of-2.ensures links_back);
      member = λ made. stands_back words c.new-links.result c.new-links.ensures.1 (sym c.in-Some.is ∙ c.place_of.ensures) (c.gaps_inside.ensures.member _ _ c.in-Some-gaps_inside.is);
      before = λ made.
          let list = ends_of c.args.list.now in
          let links_back = c.gaps_inside.ensures.before _ _ list c.in-Some-gaps_inside.is in
          told_back words Before c.new-links.result list (place_of c.args.place) c.new-links.ensures.1
          (subst (λ at. TellsGap words Before (lent_table words c.new-links.result) list at) (sym c.in-Some.is ∙ c.place_of.ensures) links_back);
      after = λ made.
          let list = ends_of c.args.list.now in
          let links_back = c.gaps_inside.ensures.after _ _ list c.in-Some-gaps_inside.is in
          told_back words After c.new-links.result list (place_of c.args.place) c.new-links.ensures.1
          (subst (λ at. TellsGap words After (lent_table words c.new-links.result) list at) (sym c.in-Some.is ∙ c.place_of.ensures) links_back);
      linked = search rules;
      touched = λ made. touches_nothing (search rules);
      own = λ p is made apart.
          let one : p ≡ c.in-Some.member = some_same (sym is ∙ sym c.place_of.ensures ∙ c.in-Some.is) in
          let gaps = c.gaps_inside.ensures.sides _ _ (ends_of c.args.list.now) c.in-Some-gaps_inside.is in
          let to = gap_viewed words c.args.side c.new-links.result c.new-links.ensures.1 refl c.place_of-2.ensures gaps.1 in
          absurd (never c.if-not-is_apart.true (c.is_apart.ensures.1 (apart_same to one apart)));
      stays = search rules;
      words = search rules;
      refused = search rules;
      why = search rules;
      is_status = search rules;
    }

pub returns : goal.returns
returns g c =
    let words = link_words g.W.Words g.W.NextWord g.W.PrevPlace in record {
      moved = λ cut front back p beside is same shown'.
          let one : p ≡ c.in-Some.member = some_same (sym is ∙ sym c.place_of.ensures ∙ c.in-Some.is) in
          let shown = rw one at shown' in
          let seen : Represents words (lent_table words c.new-links.result) c.list_of-edited.result (front ++ c.in-Some.member ∷ back) = rw c.list_of-edited.ensures (viewed words kept c.new-links.result c.new-links.ensures.1 shown) in
          let gap = goes c.args.side c.in-Some.member front back cut (rw same (distinct_middle front back c.in-Some.member shown.distinct)) beside same in
          let found = c.gaps_inside.ensures.shown _ _ c.list_of-edited.result front back gap.0 c.in-Some-gaps_inside.is seen gap.1.same (rw c.place_of-2.ensures gap.1.beside) in
          elim gap.2 [
            | inl there ↦ absurd (there.0 (rw found.1 at (c.is_apart.ensures.0 c.if-not-is_apart.false)))
            | inr away ↦ rw one (record {
              accepted = refl;
              done = inserted_back words kept c.new-links.result c.relocate.new.links c.new-links.ensures.1 (search rules) (search rules)
                  (c.relocate.ensures.moved front back cut seen same found.0 (found.1 ∙ away.1));
            })
          ];
      itself = λ front back p at is shown'.
          let one : p ≡ c.in-Some.member = some_same (sym is ∙ sym c.place_of.ensures ∙ c.in-Some.is) in
          let seen : Represents words (lent_table words c.new-links.result) c.list_of-edited.result (front ++ c.in-Some.member ∷ back) = rw c.list_of-edited.ensures (viewed words kept c.new-links.result c.new-links.ensures.1 (rw one at shown')) in
          let gap = gap_beside_itself c.args.side c.in-Some.member front back in
          let there = c.place_of-2.ensures ∙ at ∙ ap (λ q. Some q) one in
          let found = c.gaps_inside.ensures.shown _ _ c.list_of-edited.result front back gap.0 c.in-Some-gaps_inside.is seen gap.1.same (rw there gap.1.beside) in
          absurd (gap.2 (rw found.1 at (c.is_apart.ensures.0 c.if-not-is_apart.false)));
      there = λ front back p beside is shown'.
          let one : p ≡ c.in-Some.member = some_same (sym is ∙ sym c.place_of.ensures ∙ c.in-Some.is) in
          let seen : Represents words (lent_table words c.new-links.result) c.list_of-edited.result (front ++ c.in-Some.member ∷ back) = rw c.list_of-edited.ensures (viewed words kept c.new-links.result c.new-links.ensures.1 (rw one at shown')) in
          let gap = own_gap c.args.side c.in-Some.member front back beside in
          let found = c.gaps_inside.ensures.shown _ _ c.list_of-edited.result front back gap.0 c.in-Some-gaps_inside.is seen gap.1.same (rw c.place_of-2.ensures gap.1.beside) in
          absurd (gap.2 (rw found.1 at (c.is_apart.ensures.0 c.if-not-is_apart.false)));
      null = search rules;
      stands = λ made. stands_back words c.new-links.result c.new-links.ensures.1 c.place_of-2.ensures (c.gaps_inside.ensures.at _ _ c.in-Some-gaps_inside.is);
      links_back = λ made.
          let list = ends_of c.args.list.now in
          let links_back = c.gaps_inside.ensures.links_back _ _ list c.in-Some-gaps_inside.is in
          told_back words c.args.side c.new-links.result list (place_of c.args.at) c.new-links.ensures.1 (subst (λ at. TellsGap words c.args.side (lent_table words c.new-links.result) list at) c.place_of-2.ensures links_back);
      member = λ made. stands_back words c.new-links.result c.new-links.ensures.1 (sym c.in-Some.is ∙ c.place_of.ensures) (c.gaps_inside.ensures.member _ _ c.in-Some-gaps_inside.is);
      before = λ made.
          let list = ends_of c.args.list.now in
          let links_back = c.gaps_inside.ensures.before _ _ list c.in-Some-gaps_inside.is in
          told_back words Before c.new-links.result list (place_of c.args.place) c.new-links.ensures.1
          (subst (λ at. TellsGap words Before (lent_table words c.new-links.result) list at) (sym c.in-Some.is ∙ c.place_of.ensures) links_back);
      after = λ made.
          let list = ends_of c.args.list.now in
          let links_back = c.gaps_inside.ensures.after _ _ list c.in-Some-gaps_inside.is in
          told_back words After c.new-links.result list (place_of c.args.place) c.new-links.ensures.1
          (subst (λ at. TellsGap words After (lent_table words c.new-links.result) list at) (sym c.in-Some.is ∙ c.place_of.ensures) links_back);
      linked = search rules;
      touched = λ made.
          let member = sym c.in-Some.is ∙ c.place_of.ensures in
          let gaps = c.gaps_inside.ensures.sides _ _ (ends_of c.args.list.now) c.in-Some-gaps_inside.is in
          let from = around_viewed words c.new-links.result c.new-links.ensures.1 refl member gaps.0 in
          let to = gap_viewed words c.args.side c.new-links.result c.new-links.ensures.1 refl c.place_of-2.ensures gaps.1 in
          touched_back words c.new-links.result c.relocate.new.links c.new-links.ensures.1 (search rules)
          (λ k. (sym member k) ∷ sides (from k) ++ sides (to k)) c.relocate.ensures.touched;
      own = λ p is made apart.
          let member = sym c.in-Some.is ∙ c.place_of.ensures in
          let gaps = c.gaps_inside.ensures.sides _ _ (ends_of c.args.list.now) c.in-Some-gaps_inside.is in
          let from = around_viewed words c.new-links.result c.new-links.ensures.1 refl member gaps.0 in
          let to = gap_viewed words c.args.side c.new-links.result c.new-links.ensures.1 refl c.place_of-2.ensures gaps.1 in
          moved_same from (sym member) to (sym c.list_of-edited.ensures) c.write_back.ensures.set c.relocate.ensures.own;
      stays = λ p is made near.
          let one : p ≡ c.in-Some.member = some_same (sym is ∙ sym c.place_of.ensures ∙ c.in-Some.is) in
          let gaps = c.gaps_inside.ensures.sides _ _ (ends_of c.args.list.now) c.in-Some-gaps_inside.is in
          let to = gap_viewed words c.args.side c.new-links.result c.new-links.ensures.1 refl c.place_of-2.ensures gaps.1 in
          absurd (near (apart_same (sym to) (sym one) (c.is_apart.ensures.0 c.if-not-is_apart.false)));
      words = search rules;
      refused = search rules;
      why = search rules;
      is_status = search rules;
    }

pub returns-in_default-gaps_inside : goal.returns-in_default-gaps_inside
returns-in_default-gaps_inside g c =
    let words = link_words g.W.Words g.W.NextWord g.W.PrevPlace in
    renamed (λ old new. MoveCall words old new c.args.list.now c.move_slow.new.list c.move_slow.result c.args.side (place_of c.args.at) (place_of c.args.place)) c.new-links.ensures.1 (search rules)
    c.move_slow.ensures
