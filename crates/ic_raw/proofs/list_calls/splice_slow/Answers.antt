use Rattle.std.proofs.Common.{◌∷◌, [], refl, sym, rules}
use Rattle.ic_raw.specs.declared.gap.GapSide.TheVariants.{After, Before}
use Rattle.ic_raw.proofs.Ends.{all_put_same}
use Rattle.ic_raw.proofs.Doubly.{gap_viewed, told_viewed}
use Rattle.ic_raw.proofs.LinkViews.{link_words, touched_back}
use Rattle.ic_raw.proofs.list_calls.splice_slow.Goals as goal

pub returns : goal.returns
returns g c =
    let words = link_words g.W.Words g.W.NextWord g.W.PrevPlace in record {
      spliced = search rules;
      emptied = search rules;
      stands = search rules;
      links_back = λ made. told_viewed words c.args.side c.new-links.result c.new-links.ensures.1 c.list_of-edited.ensures c.place_of.ensures (c.splice.ensures.links_back c.if-not-splice.false);
      front = λ made. told_viewed words After c.new-links.result c.new-links.ensures.1 c.list_of-other.ensures refl (c.splice.ensures.front c.if-not-splice.false);
      back = λ made. told_viewed words Before c.new-links.result c.new-links.ensures.1 c.list_of-other.ensures refl (c.splice.ensures.back c.if-not-splice.false);
      apart = search rules;
      touched = λ made.
          let gap = gap_viewed words c.args.side c.new-links.result c.new-links.ensures.1 c.list_of-edited.ensures c.place_of.ensures refl in
          let given = c.list_of-other.ensures in
          touched_back words c.new-links.result c.splice.new.links c.new-links.ensures.1 (search rules)
          (λ k. (gap k).before ∷ (gap k).after ∷ (sym given k).head ∷ (sym given k).tail ∷ []) (c.splice.ensures.touched c.if-not-splice.false);
      own = λ made.
          let gap = gap_viewed words c.args.side c.new-links.result c.new-links.ensures.1 c.list_of-edited.ensures c.place_of.ensures refl in
          all_put_same gap (sym c.list_of-other.ensures) (sym c.list_of-edited.ensures) c.write_back.ensures.set (c.splice.ensures.own c.if-not-splice.false);
      words = search rules;
      refused = search rules;
      why = search rules;
      is_status = search rules;
    }
