use Rattle.std.proofs.Common.{◌∷◌, [], refl, sym, ◌∙◌, rules}
use Rattle.ic_raw.specs.declared.gap.GapSide.TheVariants.{After, Before}
use Rattle.ic_raw.proofs.Ends.{all_put_same}
use Rattle.ic_raw.proofs.Doubly.{gap_viewed, told_viewed}
use Rattle.ic_raw.proofs.LinkViews.{link_words, touched_back}
use Rattle.ic_raw.proofs.list_calls.splice_at.Goals as goal

pub returns-then-splice_at_end : goal.returns-then-splice_at_end
returns-then-splice_at_end g c =
    let words = link_words g.W.Words g.W.NextWord g.W.PrevPlace in record {
      spliced = search rules;
      emptied = search rules;
      stands = search rules;
      links_back = λ made.
          let none = sym (c.splice_at_end.ensures.none c.if-splice_at_end.true) ∙ c.place_of.ensures in
          told_viewed words c.args.side c.new-links.result c.new-links.ensures.1 c.list_of-edited.ensures none (c.splice_at_end.ensures.links_back c.if-splice_at_end.true);
      front = λ made. told_viewed words After c.new-links.result c.new-links.ensures.1 c.list_of-other.ensures refl (c.splice_at_end.ensures.front c.if-splice_at_end.true);
      back = λ made. told_viewed words Before c.new-links.result c.new-links.ensures.1 c.list_of-other.ensures refl (c.splice_at_end.ensures.back c.if-splice_at_end.true);
      apart = search rules;
      touched = λ made.
          let none = sym (c.splice_at_end.ensures.none c.if-splice_at_end.true) ∙ c.place_of.ensures in
          let gap = gap_viewed words c.args.side c.new-links.result c.new-links.ensures.1 c.list_of-edited.ensures none refl in
          let given = c.list_of-other.ensures in
          touched_back words c.new-links.result c.splice_at_end.new.links c.new-links.ensures.1 (search rules)
          (λ k. (gap k).before ∷ (gap k).after ∷ (sym given k).head ∷ (sym given k).tail ∷ []) (c.splice_at_end.ensures.touched c.if-splice_at_end.true);
      own = λ made.
          let none = sym (c.splice_at_end.ensures.none c.if-splice_at_end.true) ∙ c.place_of.ensures in
          let gap = gap_viewed words c.args.side c.new-links.result c.new-links.ensures.1 c.list_of-edited.ensures none refl in
          all_put_same gap (sym c.list_of-other.ensures) (sym c.list_of-edited.ensures) c.write_back.ensures.set (c.splice_at_end.ensures.own c.if-splice_at_end.true);
      words = search rules;
      refused = search rules;
      why = search rules;
      is_status = search rules;
    }
