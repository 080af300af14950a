use Rattle.std.proofs.Common.{◌≡◌, Some, ◌∷◌, refl, sym, ap, ◌∙◌, rules}
use Rattle.ic_link_ops.proofs.SequenceLemmas.{some_same}
use Rattle.ic_raw.specs.LinkWords.{lent_table, table_of}
use Rattle.ic_raw.specs.Ring.{IsCircle, Makes, around}
use Rattle.ic_raw.proofs.Gaps.{never}
use Rattle.ic_raw.proofs.Rings.{circle_viewed, makes_back, amid_back, touched_words}
use Rattle.ic_raw.proofs.LinkViews.{link_words, unlinked_back}
use Rattle.ic_raw.proofs.ring_calls.remove.Goals as goal

pub returns-then-not-remove : goal.returns-then-not-remove
returns-then-not-remove g c =
    let words = link_words g.W.Words g.W.NextWord g.W.PrevPlace in record {
      removed = λ p r is_place circle.
          let same : c.in-Some.member ≡ p = some_same (sym c.in-Some.is ∙ c.place_of.ensures ∙ is_place) in
          let here : IsCircle words (lent_table words c.new-links.result) (c.in-Some.member ∷ r) = rw same (circle_viewed words c.new-links.result c.new-links.ensures.1 circle) in
          absurd (never c.if-not-remove.true (c.remove.ensures.removed r here).0);
      null = search rules;
      links_back = search rules;
      touched = search rules;
      refused = search rules;
      why = search rules;
      is_status = search rules;
    }

pub returns : goal.returns
returns g c =
    let words = link_words g.W.Words g.W.NextWord g.W.PrevPlace in record {
      removed = λ p r is_place circle.
          let view = c.new-links.ensures.1 in
          let same : c.in-Some.member ≡ p = some_same (sym c.in-Some.is ∙ c.place_of.ensures ∙ is_place) in
          let here : IsCircle words (lent_table words c.new-links.result) (c.in-Some.member ∷ r) = rw same (circle_viewed words c.new-links.result view circle) in
          let off = c.remove.ensures.unlinked c.if-not-remove.false in
          let done = (c.remove.ensures.removed r here).1 in
          let named : Makes words (lent_table words c.new-links.result) (lent_table words c.remove.new.links) (p ∷ r) r = rw same at done in
          record {
            accepted = refl;
            done = (
              makes_back words c.new-links.result c.remove.new.links view (search rules) named,
              unlinked_back words c.remove.new.links p (search rules) (rw same at off),
            );
          };
      null = search rules;
      links_back = λ p is made.
          let same : c.in-Some.member ≡ p = some_same (sym c.in-Some.is ∙ c.place_of.ensures ∙ is) in
          rw same at (amid_back words c.new-links.result c.new-links.ensures.1 (c.remove.ensures.before c.if-not-remove.false) (c.remove.ensures.after c.if-not-remove.false));
      touched = λ p is made.
          let view = c.new-links.ensures.1 in
          let same : c.in-Some.member ≡ p = some_same (sym c.in-Some.is ∙ c.place_of.ensures ∙ is) in
          let named = rw same at (c.remove.ensures.touched c.if-not-remove.false) in
          touched_words words c.new-links.result c.remove.new.links view (search rules) (ap (λ es. Some p ∷ around words (table_of words es) p) (sym view)) named;
      refused = search rules;
      why = search rules;
      is_status = search rules;
    }
