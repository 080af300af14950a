use Rattle.std.proofs.Common.{◌≡◌, Some, [], ◌∷◌, refl, sym, ap, ◌∙◌, rules}
use Rattle.ic_link_ops.proofs.SequenceLemmas.{some_same}
use Rattle.ic_raw.specs.LinkWords.{lent_table}
use Rattle.ic_raw.specs.Ring.{IsCircle, Makes, put_in}
use Rattle.ic_raw.proofs.Gaps.{never}
use Rattle.ic_raw.proofs.Rings.{circle_viewed, told_back, makes_back, touched_words, beside_back}
use Rattle.ic_raw.proofs.LinkViews.{link_words, free_viewed}
use Rattle.ic_raw.proofs.ring_calls.insert.Goals as goal

pub returns-then-not-insert : goal.returns-then-not-insert
returns-then-not-insert g c =
    let words = link_words g.W.Words g.W.NextWord g.W.PrevPlace in record {
      inserted = λ h p r is_at is_place free circle.
          let view = c.new-links.ensures.1 in
          let same : c.in-Some.member ≡ h = some_same (sym c.in-Some.is ∙ c.place_of.ensures ∙ is_at) in
          let here : IsCircle words (lent_table words c.new-links.result) (c.in-Some.member ∷ r) = rw same (circle_viewed words c.new-links.result view circle) in
          absurd (never c.if-not-insert.true (c.insert.ensures.inserted p r (c.place_of-2.ensures ∙ is_place) (free_viewed words c.new-links.result view free) here).0);
      free = search rules;
      no_place = search rules;
      null = search rules;
      links_back = search rules;
      touched = search rules;
      refused = search rules;
      why = search rules;
      is_status = search rules;
    }

pub returns : goal.returns
returns g c =
    let words = link_words g.W.Words g.W.NextWord g.W.PrevPlace in record {
      inserted = λ h p r is_at is_place free circle.
          let view = c.new-links.ensures.1 in
          let same : c.in-Some.member ≡ h = some_same (sym c.in-Some.is ∙ c.place_of.ensures ∙ is_at) in
          let here : IsCircle words (lent_table words c.new-links.result) (c.in-Some.member ∷ r) = rw same (circle_viewed words c.new-links.result view circle) in
          let done = (c.insert.ensures.inserted p r (c.place_of-2.ensures ∙ is_place) (free_viewed words c.new-links.result view free) here).1 in
          let named : Makes words (lent_table words c.new-links.result) (lent_table words c.insert.new.links) (p ∷ h ∷ r) (put_in c.args.side h p r) = rw same at done in
          record { accepted = refl; done = makes_back words c.new-links.result c.insert.new.links view (search rules) named };
      free = search rules;
      no_place = search rules;
      null = search rules;
      links_back = λ h is_at made.
          let links_back = c.insert.ensures.links_back c.if-not-insert.false in
          (links_back.0, told_back words c.new-links.result c.new-links.ensures.1 links_back.1, links_back.2 ∙ some_same (sym c.in-Some.is ∙ c.place_of.ensures ∙ is_at));
      touched = λ h p is_at is_place made.
          let view = c.new-links.ensures.1 in
          let same : c.in-Some.member ≡ h = some_same (sym c.in-Some.is ∙ c.place_of.ensures ∙ is_at) in
          let named = rw same at (c.insert.ensures.touched p (c.place_of-2.ensures ∙ is_place) c.if-not-insert.false) in
          touched_words words c.new-links.result c.insert.new.links view (search rules) (ap (λ at. Some p ∷ Some h ∷ at ∷ []) (beside_back words c.args.side c.new-links.result h view)) named;
      refused = search rules;
      why = search rules;
      is_status = search rules;
    }
