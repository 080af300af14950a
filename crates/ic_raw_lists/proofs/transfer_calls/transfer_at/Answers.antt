use Rattle.std.proofs.Common.{◌≡◌, ◌∷◌, ◌++◌, refl, sym, ap, ◌∙◌, rules}
use Rattle.ic_link_ops.specs.Sequences.{join}
use Rattle.ic_link_ops.proofs.SequenceLemmas.{some_same, none_not}
use Rattle.ic_raw.specs.declared.gap.GapSide.TheVariants.{After, Before}
use Rattle.ic_raw.specs.Doubly.{Represents}
use Rattle.ic_raw.specs.Touches.{sides}
use Rattle.ic_raw.proofs.Doubly.{around_viewed, gap_viewed, told_viewed}
use Rattle.ic_raw.proofs.Lists.{kept}
use Rattle.ic_raw.proofs.Moves.{apart_same, stands_back}
use Rattle.ic_raw.proofs.Ends.{put_same, taken_same}
use Rattle.ic_raw_lists.proofs.Transfers.{transfers_back}
use Rattle.ic_raw.specs.LinkWords.{lent_table}
use Rattle.ic_raw.proofs.LinkViews.{link_words, touched_back, viewed}
use Rattle.ic_raw_lists.proofs.transfer_calls.transfer_at.Goals as goal

pub returns-in_default-gaps_to_transfer : goal.returns-in_default-gaps_to_transfer
returns-in_default-gaps_to_transfer g c =
    let words = link_words g.W.Words g.W.NextWord g.W.PrevPlace in record {
      moved = λ cut front back p beside is shown given apart.
          let view = c.new-links.ensures.1 in
          let one : p ≡ c.in-Some.member = some_same (sym is ∙ sym c.place_of.ensures ∙ c.in-Some.is) in
          let here : Represents words (lent_table words c.new-links.result) c.list_of-edited.result (join cut) = rw c.list_of-edited.ensures (viewed words kept c.new-links.result view shown) in
          let there : Represents words (lent_table words c.new-links.result) c.list_of-other.result (front ++ c.in-Some.member ∷ back) = rw c.list_of-other.ensures (viewed words kept c.new-links.result view (rw one at given)) in
          let found = c.gaps_to_transfer.ensures.shown cut front back here (rw c.place_of-2.ensures beside) there (rw one at apart) in
          absurd (none_not _ (sym c.in_default-gaps_to_transfer.is ∙ found));
      null = search rules;
      stands = search rules;
      links_back = search rules;
      member = search rules;
      before = search rules;
      after = search rules;
      apart = search rules;
      away = search rules;
      linked = search rules;
      touched = search rules;
      own = search rules;
      given_own = search rules;
      words = search rules;
      given_words = search rules;
      refused = search rules;
      why = search rules;
      is_status = search rules;
    }

pub returns : goal.returns
returns g c =
    let words = link_words g.W.Words g.W.NextWord g.W.PrevPlace in record {
      moved = λ cut front back p beside is shown given apart.
          let view = c.new-links.ensures.1 in
          let one : p ≡ c.in-Some.member = some_same (sym is ∙ sym c.place_of.ensures ∙ c.in-Some.is) in
          let here : Represents words (lent_table words c.new-links.result) c.list_of-edited.result (join cut) = rw c.list_of-edited.ensures (viewed words kept c.new-links.result view shown) in
          let there : Represents words (lent_table words c.new-links.result) c.list_of-other.result (front ++ c.in-Some.member ∷ back) = rw c.list_of-other.ensures (viewed words kept c.new-links.result view (rw one at given)) in
          let found = c.gaps_to_transfer.ensures.shown cut front back here (rw c.place_of-2.ensures beside) there (rw one at apart) in
          let gaps = some_same (sym c.in-Some-gaps_to_transfer.is ∙ found) in
          rw one (record {
            accepted = refl;
            done = transfers_back words c.new-links.result c.relocate.new.links view (search rules) c.write_back.ensures.set c.write_back-2.ensures.set
                (c.relocate.ensures.moved cut front back here there (rw one at apart) (ap (λ m. m.0) gaps) (ap (λ m. m.1) gaps));
          });
      null = search rules;
      stands = λ made. stands_back words c.new-links.result c.new-links.ensures.1 c.place_of-2.ensures (c.gaps_to_transfer.ensures.at _ _ c.in-Some-gaps_to_transfer.is);
      links_back = λ made. told_viewed words c.args.side c.new-links.result c.new-links.ensures.1 c.list_of-edited.ensures c.place_of-2.ensures (c.gaps_to_transfer.ensures.links_back _ _ c.in-Some-gaps_to_transfer.is);
      member = λ made. stands_back words c.new-links.result c.new-links.ensures.1 (sym c.in-Some.is ∙ c.place_of.ensures) (c.gaps_to_transfer.ensures.member _ _ c.in-Some-gaps_to_transfer.is);
      before = λ made. told_viewed words Before c.new-links.result c.new-links.ensures.1 c.list_of-other.ensures (sym c.in-Some.is ∙ c.place_of.ensures) (c.gaps_to_transfer.ensures.before _ _ c.in-Some-gaps_to_transfer.is);
      after = λ made. told_viewed words After c.new-links.result c.new-links.ensures.1 c.list_of-other.ensures (sym c.in-Some.is ∙ c.place_of.ensures) (c.gaps_to_transfer.ensures.after _ _ c.in-Some-gaps_to_transfer.is);
      apart = λ made p starts same.
          c.gaps_to_transfer.ensures.apart _ _ p c.in-Some-gaps_to_transfer.is (ap (λ l. l.head) c.list_of-other.ensures ∙ starts) (ap (λ l. l.head) c.list_of-edited.ensures ∙ same);
      away = λ p is made.
          let one : p ≡ c.in-Some.member = some_same (sym is ∙ sym c.place_of.ensures ∙ c.in-Some.is) in
          let gaps = c.gaps_to_transfer.ensures.sides _ _ c.in-Some-gaps_to_transfer.is in
          let to = gap_viewed words c.args.side c.new-links.result c.new-links.ensures.1 c.list_of-edited.ensures c.place_of-2.ensures gaps.1 in
          apart_same (sym to) (sym one) (c.gaps_to_transfer.ensures.away _ _ c.in-Some-gaps_to_transfer.is);
      linked = search rules;
      touched = λ made.
          let member = sym c.in-Some.is ∙ c.place_of.ensures in
          let gaps = c.gaps_to_transfer.ensures.sides _ _ c.in-Some-gaps_to_transfer.is in
          let from = around_viewed words c.new-links.result c.new-links.ensures.1 c.list_of-other.ensures member gaps.0 in
          let to = gap_viewed words c.args.side c.new-links.result c.new-links.ensures.1 c.list_of-edited.ensures c.place_of-2.ensures gaps.1 in
          touched_back words c.new-links.result c.relocate.new.links c.new-links.ensures.1 (search rules)
          (λ k. (sym member k) ∷ sides (from k) ++ sides (to k)) c.relocate.ensures.touched;
      own = λ made.
          let member = sym c.in-Some.is ∙ c.place_of.ensures in
          let gaps = c.gaps_to_transfer.ensures.sides _ _ c.in-Some-gaps_to_transfer.is in
          let to = gap_viewed words c.args.side c.new-links.result c.new-links.ensures.1 c.list_of-edited.ensures c.place_of-2.ensures gaps.1 in
          put_same to (sym member) (sym c.list_of-edited.ensures) c.write_back.ensures.set c.relocate.ensures.own;
      given_own = λ made.
          let member = sym c.in-Some.is ∙ c.place_of.ensures in
          let gaps = c.gaps_to_transfer.ensures.sides _ _ c.in-Some-gaps_to_transfer.is in
          let from = around_viewed words c.new-links.result c.new-links.ensures.1 c.list_of-other.ensures member gaps.0 in
          taken_same from (sym c.list_of-other.ensures) c.write_back-2.ensures.set c.relocate.ensures.given;
      words = search rules;
      given_words = search rules;
      refused = search rules;
      why = search rules;
      is_status = search rules;
    }
