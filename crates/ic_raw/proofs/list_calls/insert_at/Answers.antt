use Rattle.std.proofs.Common.{◌∷◌, Some, refl, sym, ◌∙◌, rules}
use Rattle.ic_raw.specs.Touches.{sides}
use Rattle.ic_raw.proofs.Doubly.{gap_viewed, told_viewed}
use Rattle.ic_raw.proofs.Gaps.{never}
use Rattle.ic_raw.proofs.Ends.{put_same}
use Rattle.ic_raw.proofs.Lists.{kept}
use Rattle.ic_raw.proofs.LinkViews.{link_words, free_viewed, viewed, inserted_back, touched_back}
use Rattle.ic_raw.proofs.list_calls.insert_at.Goals as goal

pub returns-then-not-insert : goal.returns-then-not-insert
returns-then-not-insert g c =
    let words = link_words g.W.Words g.W.NextWord g.W.PrevPlace in record {
      inserted = λ cut p beside is shown free.
          let view = c.new-links.ensures.1 in
          let done = c.insert.ensures.inserted cut p (rw c.list_of-edited.ensures (viewed words kept c.new-links.result view shown)) (rw c.place_of.ensures beside)
          (c.place_of-2.ensures ∙ is) (free_viewed words c.new-links.result view free) in
          absurd (never c.if-not-insert.true done.0);
      free = search rules;
      no_place = search rules;
      stands = search rules;
      links_back = search rules;
      own = search rules;
      touched = search rules;
      words = search rules;
      refused = search rules;
      why = search rules;
      is_status = search rules;
    }

pub returns : goal.returns
returns g c =
    let words = link_words g.W.Words g.W.NextWord g.W.PrevPlace in record {
      inserted = λ cut p beside is shown free.
          let view = c.new-links.ensures.1 in
          let done = c.insert.ensures.inserted cut p (rw c.list_of-edited.ensures (viewed words kept c.new-links.result view shown)) (rw c.place_of.ensures beside)
          (c.place_of-2.ensures ∙ is) (free_viewed words c.new-links.result view free) in
          record { accepted = refl; done = inserted_back words kept c.new-links.result c.insert.new.links view (search rules) (search rules) done.1 };
      free = search rules;
      no_place = search rules;
      stands = search rules;
      links_back = λ made. told_viewed words c.args.side c.new-links.result c.new-links.ensures.1 c.list_of-edited.ensures c.place_of.ensures (c.insert.ensures.links_back c.if-not-insert.false);
      own = λ made.
          let gap = gap_viewed words c.args.side c.new-links.result c.new-links.ensures.1 c.list_of-edited.ensures c.place_of.ensures refl in
          put_same gap (sym c.place_of-2.ensures) (sym c.list_of-edited.ensures) c.write_back.ensures.set (c.insert.ensures.own c.if-not-insert.false);
      touched = λ p is made.
          let gap = gap_viewed words c.args.side c.new-links.result c.new-links.ensures.1 c.list_of-edited.ensures c.place_of.ensures refl in
          touched_back words c.new-links.result c.insert.new.links c.new-links.ensures.1 (search rules) (λ k. Some p ∷ sides (gap k))
          (c.insert.ensures.touched p c.if-not-insert.false (c.place_of-2.ensures ∙ is));
      words = search rules;
      refused = search rules;
      why = search rules;
      is_status = search rules;
    }
