use Rattle.std.proofs.Common.{refl, sym, subst, rules}
use Rattle.ic_link_ops.specs.Sequences.{join}
use Rattle.ic_raw.specs.Prelude.{sides, place_of}
use Rattle.ic_raw.specs.Doubly.{Represents, TellsGap, ends_of}
use Rattle.ic_raw.proofs.Doubly.{gap_viewed, split_back, told_back}
use Rattle.ic_raw.proofs.Ends.{cut_same}
use Rattle.ic_raw.proofs.Moves.{stands_back}
use Rattle.ic_raw.proofs.Lists.{kept}
use Rattle.ic_raw.specs.LinkWords.{lent_table}
use Rattle.ic_raw.proofs.LinkViews.{link_words, viewed, touched_back}
use Rattle.ic_raw.proofs.list_calls.split_at.Goals as goal

pub returns-in-Some : goal.returns-in-Some
returns-in-Some g c =
    let words = link_words g.W.Words g.W.NextWord g.W.PrevPlace in record {
      split = λ cut beside empty.
          let view = c.new-links.ensures.1 in
          split_back words c.args.side c.new-links.result c.split-part.new.links c.args.list.now c.write_back.new.words c.write_back-in-Some.new.words cut view (search rules) c.write_back.ensures.set c.write_back-in-Some.ensures.set (λ shown.
          let seen : Represents words (lent_table words c.new-links.result) c.list_of-edited.result (join cut) = rw c.list_of-edited.ensures (viewed words kept c.new-links.result view shown) in
          c.split-part.ensures.split cut seen (c.gap_inside.ensures.shown _ _ cut c.in-Some.is seen (rw c.place_of.ensures beside)));
      empty = search rules;
      stands = λ made. stands_back words c.new-links.result c.new-links.ensures.1 c.place_of.ensures (c.gap_inside.ensures.at _ c.in-Some.is);
      links_back = λ made.
          let list = ends_of c.args.list.now in
          let links_back = c.gap_inside.ensures.links_back _ list c.in-Some.is in
          told_back words c.args.side c.new-links.result list (place_of c.args.at) c.new-links.ensures.1 (subst (λ at. TellsGap words c.args.side (lent_table words c.new-links.result) list at) c.place_of.ensures links_back);
      touched = λ made.
          let gap = gap_viewed words c.args.side c.new-links.result c.new-links.ensures.1 refl c.place_of.ensures (c.gap_inside.ensures.sides _ (ends_of c.args.list.now) c.in-Some.is) in
          touched_back words c.new-links.result c.split-part.new.links c.new-links.ensures.1 (search rules) (λ k. sides (gap k)) c.split-part.ensures.touched;
      own = λ made.
          let gap = gap_viewed words c.args.side c.new-links.result c.new-links.ensures.1 refl c.place_of.ensures (c.gap_inside.ensures.sides _ (ends_of c.args.list.now) c.in-Some.is) in
          cut_same c.args.side gap (sym c.list_of-edited.ensures) c.write_back.ensures.set c.write_back-in-Some.ensures.set c.split-part.ensures.own;
      words = search rules;
      rest_words = search rules;
      refused = search rules;
      why = search rules;
      is_status = search rules;
    }
