use Rattle.std.proofs.Common.{◌≡◌, Some, None, [], ◌∷◌, ◌++◌, refl, sym, ap, subst, ◌∙◌, rules}
use Rattle.ic_link_ops.proofs.SequenceLemmas.{some_same}
use Rattle.ic_raw.specs.Prelude.{refusal, Touches, sides, place_of}
use Rattle.ic_raw.specs.declared.gap.GapSide.TheVariants.{After, Before}
use Rattle.ic_raw.specs.Gaps.{IsApart, IsMoved, outermost, toward}
use Rattle.ic_raw.specs.Doubly.{Represents, TellsGap, around, end_on, ends_of, gap_from}
use Rattle.ic_raw.proofs.Doubly.{around_viewed, gap_viewed, told_viewed}
use Rattle.ic_raw.proofs.Numbers.{none_named}
use Rattle.ic_raw.proofs.Views.{renamed}
use Rattle.ic_raw.proofs.Lists.{kept}
use Rattle.ic_raw.proofs.Moves.{apart_at_end, has_one_beyond, moved_same, not_apart_at_end, end_beside, end_left, not_inner, outermost_beside, outermost_whole, stands_back}
use Rattle.ic_raw.specs.LinkWords.{fault_at, lent_table, table_of}
use Rattle.ic_raw.proofs.LinkViews.{link_words, viewed, inserted_back, touched_back}
use Rattle.ic_raw.proofs.move_calls.move_to_end_slow.Goals as goal

pub returns-in-Some-gap_at_end : goal.returns-in-Some-gap_at_end
returns-in-Some-gap_at_end g c =
    let words = link_words g.W.Words g.W.NextWord g.W.PrevPlace in record {
      moved = λ front back p is shown'.
          let one : p ≡ c.in-Some.member = some_same (sym is ∙ sym c.place_of.ensures ∙ c.in-Some.is) in
          let seen : Represents words (lent_table words c.new-links.result) c.list_of-edited.result (front ++ c.in-Some.member ∷ back) = rw c.list_of-edited.ensures (viewed words kept c.new-links.result c.new-links.ensures.1 (rw one at shown')) in
          let side = c.args.side in
          let found = c.in-Some-beside_other_end.is in
          let from = c.beside_other_end.ensures.shown _ front back found seen in
          let inner = sym (c.beside_other_end.ensures.toward _ found).1 ∙ ap (toward side) from in
          let to = c.gap_at_end.ensures.shown _ (front ++ c.in-Some.member ∷ back) c.in-Some-gap_at_end.is seen ∙ end_left side front c.in-Some.member back inner in
          rw one (record {
            accepted = refl;
            done = inserted_back words kept c.new-links.result c.relocate.new.links c.new-links.ensures.1 (search rules) (search rules)
                (c.relocate.ensures.moved front back (outermost side (front ++ back)) seen (outermost_whole side (front ++ back)) from to);
          });
      there = λ front back p end is shown'.
          let one : p ≡ c.in-Some.member = some_same (sym is ∙ sym c.place_of.ensures ∙ c.in-Some.is) in
          let seen : Represents words (lent_table words c.new-links.result) c.list_of-edited.result (front ++ c.in-Some.member ∷ back) = rw c.list_of-edited.ensures (viewed words kept c.new-links.result c.new-links.ensures.1 (rw one at shown')) in
          let found = c.in-Some-beside_other_end.is in
          let from = c.beside_other_end.ensures.shown _ front back found seen in
          absurd (not_inner c.args.side front back end (sym (c.beside_other_end.ensures.toward _ found).1 ∙ ap (toward c.args.side) from));
      null = search rules;
      links_back = λ made. told_viewed words c.args.side c.new-links.result c.new-links.ensures.1 c.list_of-edited.ensures refl (c.gap_at_end.ensures.links_back _ c.in-Some-gap_at_end.is);
      member = λ made. stands_back words c.new-links.result c.new-links.ensures.1 (sym c.in-Some.is ∙ c.place_of.ensures) (c.beside_other_end.ensures.member _ c.in-Some-beside_other_end.is);
      before = λ made. told_viewed words Before c.new-links.result c.new-links.ensures.1 c.list_of-edited.ensures (sym c.in-Some.is ∙ c.place_of.ensures) (c.beside_other_end.ensures.before _ c.in-Some-beside_other_end.is);
      after = λ made. told_viewed words After c.new-links.result c.new-links.ensures.1 c.list_of-edited.ensures (sym c.in-Some.is ∙ c.place_of.ensures) (c.beside_other_end.ensures.after _ c.in-Some-beside_other_end.is);
      linked = search rules;
      touched = λ made.
          let member = sym c.in-Some.is ∙ c.place_of.ensures in
          let from = around_viewed words c.new-links.result c.new-links.ensures.1 c.list_of-edited.ensures member (c.beside_other_end.ensures.sides _ c.in-Some-beside_other_end.is) in
          let to = gap_viewed words c.args.side c.new-links.result c.new-links.ensures.1 c.list_of-edited.ensures refl (c.gap_at_end.ensures.sides _ c.in-Some-gap_at_end.is) in
          touched_back words c.new-links.result c.relocate.new.links c.new-links.ensures.1 (search rules)
          (λ k. (sym member k) ∷ sides (from k) ++ sides (to k)) c.relocate.ensures.touched;
      own = λ p is made away.
          let member = sym c.in-Some.is ∙ c.place_of.ensures in
          let from = around_viewed words c.new-links.result c.new-links.ensures.1 c.list_of-edited.ensures member (c.beside_other_end.ensures.sides _ c.in-Some-beside_other_end.is) in
          let to = gap_viewed words c.args.side c.new-links.result c.new-links.ensures.1 c.list_of-edited.ensures refl (c.gap_at_end.ensures.sides _ c.in-Some-gap_at_end.is) in
          moved_same from (sym member) to (sym c.list_of-edited.ensures) c.write_back.ensures.set c.relocate.ensures.own;
      stays = λ p is made end.
          let side = c.args.side in
          let list = c.list_of-edited.result in
          let one : p ≡ c.in-Some.member = some_same (sym is ∙ sym c.place_of.ensures ∙ c.in-Some.is) in
          let found = c.in-Some-beside_other_end.is in
          let beyond = sym (ap (toward side) (c.beside_other_end.ensures.sides _ found)) ∙ (c.beside_other_end.ensures.toward _ found).1 in
          absurd (has_one_beyond words side (lent_table words c.new-links.result) list (c.gap_at_end.ensures.links_back _ c.in-Some-gap_at_end.is) beyond
          (ap (λ l. end_on side l) c.list_of-edited.ensures ∙ end ∙ ap (λ q. Some q) one));
      words = search rules;
      refused = search rules;
      why = search rules;
      is_status = search rules;
    }

pub returns : goal.returns
returns g c =
    let words = link_words g.W.Words g.W.NextWord g.W.PrevPlace in record {
      moved = λ front back p is.
          let side = c.args.side in
          let done = c.move_slow.ensures.moved (outermost side (front ++ back)) front back p (outermost_beside side (front ++ back) none_named) is (outermost_whole side (front ++ back)) in
          search (rules, done);
      there = λ front back p end is.
          let done = c.move_slow.ensures.there front back p (end_beside c.args.side front back end none_named) is in
          search (rules, done);
      null = search rules;
      links_back = λ made.
          let list = ends_of c.args.list.now in
          rw (← c.new-links.ensures.1) (subst (λ at. TellsGap words c.args.side (table_of words c.new-links.result.entries.now) list at) none_named (c.move_slow.ensures.links_back made));
      member = search rules;
      before = search rules;
      after = search rules;
      linked = search rules;
      touched = λ made.
          let es = c.new-links.result.entries.now in
          let list = ends_of c.args.list.now in
          let at = place_of c.args.place in
          renamed (λ old new. Touches words.is_linked (table_of words old) (table_of words new) [] (at ∷ sides (around words (table_of words old) list at) ++ sides (gap_from words c.args.side (table_of words old) list None)))
          c.new-links.ensures.1 (search rules) (subst (λ end. Touches words.is_linked (table_of words es) (table_of words c.move_slow.new.table) []
          (at ∷ sides (around words (table_of words es) list at) ++ sides (gap_from words c.args.side (table_of words es) list end))) none_named (c.move_slow.ensures.touched made));
      own = λ p is made away.
          let es = c.new-links.result.entries.now in
          let list = ends_of c.args.list.now in
          let at = place_of c.args.place in
          let side = c.args.side in
          subst (λ old. IsMoved (around words (table_of words old) list at) at (gap_from words side (table_of words old) list None) list (ends_of c.move_slow.new.list)) c.new-links.ensures.1
          (subst (λ end. IsApart (gap_from words side (table_of words es) list end) p → IsMoved (around words (table_of words es) list at) at (gap_from words side (table_of words es) list end) list (ends_of c.move_slow.new.list))
          none_named (c.move_slow.ensures.own p is made) (apart_at_end words side (table_of words es) list away));
      stays = λ p is made end'.
          let es = c.new-links.result.entries.now in
          let list = ends_of c.args.list.now in
          let side = c.args.side in
          renamed (λ old new. (new ≡ old) × (c.move_slow.new.list ≡ c.args.list.now)) c.new-links.ensures.1 (search rules)
          (subst (λ end. (IsApart (gap_from words side (table_of words es) list end) p → ⊥) → (c.move_slow.new.table ≡ es) × (c.move_slow.new.list ≡ c.args.list.now)) none_named (c.move_slow.ensures.stays p is made) (not_apart_at_end words side (table_of words es) list end'));
      words = search rules;
      refused = search rules;
      why = λ refused named.
          let es = c.new-links.result.entries.now in
          rw (← c.new-links.ensures.1)
          (subst (λ at. c.move_slow.result ≡ refusal (fault_at words es at ∷ fault_at words es (place_of c.args.place) ∷ [])) none_named (c.move_slow.ensures.why refused named));
      is_status = search rules;
    }

pub relocate-requires-clause-member : goal.relocate-requires-clause-member
relocate-requires-clause-member g c = c.beside_other_end.ensures.member _ c.in-Some-beside_other_end.is
