use Rattle.std.proofs.Common.{◌≡◌, Some, ◌∷◌, refl, sym, ap, ◌∙◌, rules}
use Rattle.ic_link_ops.proofs.SequenceLemmas.{some_same}
use Rattle.ic_raw.specs.LinkWords.{lent_table, table_of}
use Rattle.ic_raw.specs.Ring.{IsCircle, Makes, around}
use Rattle.ic_raw.proofs.Gaps.{never}
use Rattle.ic_raw.proofs.Rings.{circle_viewed, makes_back, amid_back, touched_words}
use Rattle.ic_raw.proofs.LinkViews.{link_words, free_viewed, unlinked_back}
use Rattle.ic_raw.proofs.ring_calls.replace.Goals as goal

pub returns-then-not-replace : goal.returns-then-not-replace
returns-then-not-replace g c =
    let words = link_words g.W.Words g.W.NextWord g.W.PrevPlace in
    let view = c.new-links.ensures.1 in
    let links = c.new-links.result in
    record {
      replaced = λ h p r is_at is_place free circle.
          let same : c.in-Some.member ≡ h = some_same (sym c.in-Some.is ∙ c.place_of.ensures ∙ is_at) in
          let here : IsCircle words (lent_table words links) (c.in-Some.member ∷ r) = rw same (circle_viewed words links view circle) in
          absurd (never c.if-not-replace.true (c.replace.ensures.replaced p r (c.place_of-2.ensures ∙ is_place) (free_viewed words links view free) here).0);
      free = search rules;
      no_place = search rules;
      links_back = search rules;
      touched = search rules;
      null = search rules;
      refused = search rules;
      why = search rules;
      is_status = search rules;
    }

pub returns : goal.returns
returns g c =
    let words = link_words g.W.Words g.W.NextWord g.W.PrevPlace in
    let view = c.new-links.ensures.1 in
    let links = c.new-links.result in
    record {
      replaced = λ h p r is_at is_place free circle.
          let same : c.in-Some.member ≡ h = some_same (sym c.in-Some.is ∙ c.place_of.ensures ∙ is_at) in
          let here : IsCircle words (lent_table words links) (c.in-Some.member ∷ r) = rw same (circle_viewed words links view circle) in
          let got = (c.replace.ensures.replaced p r (c.place_of-2.ensures ∙ is_place) (free_viewed words links view free) here).1 in
          let named : Makes words (lent_table words links) (lent_table words c.replace.new.links) (p ∷ h ∷ r) (p ∷ r) = rw same at got in
          let off = rw same at (c.replace.ensures.unlinked c.if-not-replace.false) in
          record {
            accepted = refl;
            done = (makes_back words links c.replace.new.links view (search rules) named, unlinked_back words c.replace.new.links h (search rules) off);
          };
      free = search rules;
      no_place = search rules;
      links_back = λ h is ok.
          let same : c.in-Some.member ≡ h = some_same (sym c.in-Some.is ∙ c.place_of.ensures ∙ is) in
          rw same at (amid_back words links view (c.replace.ensures.before c.if-not-replace.false) (c.replace.ensures.after c.if-not-replace.false));
      touched = λ h p is_at is_place ok.
          let same : c.in-Some.member ≡ h = some_same (sym c.in-Some.is ∙ c.place_of.ensures ∙ is_at) in
          let named = rw same at (c.replace.ensures.touched p (c.place_of-2.ensures ∙ is_place) c.if-not-replace.false) in
          touched_words words links c.replace.new.links view (search rules) (ap (λ es. Some p ∷ Some h ∷ around words (table_of words es) h) (sym view)) named;
      null = search rules;
      refused = search rules;
      why = search rules;
      is_status = search rules;
    }
