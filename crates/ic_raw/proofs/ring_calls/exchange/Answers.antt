use Rattle.std.proofs.Common.{◌≡◌, Some, [], ◌∷◌, refl, sym, ap, ◌∙◌, rules}
use Rattle.ic_link_ops.proofs.SequenceLemmas.{some_same}
use Rattle.ic_raw.proofs.Gaps.{never}
use Rattle.ic_raw.proofs.Rings.{circle_viewed, told_back, makes_back, makes_two_back, touched_words}
use Rattle.ic_raw.specs.declared.gap.GapSide.TheVariants.{After}
use Rattle.ic_raw.specs.LinkWords.{table_of}
use Rattle.ic_raw.specs.Ring.{beside}
use Rattle.ic_raw.proofs.LinkViews.{link_words}
use Rattle.ic_raw.proofs.ring_calls.exchange.Goals as goal

pub returns-then-not-exchange : goal.returns-then-not-exchange
returns-then-not-exchange g c =
    let words = link_words g.W.Words g.W.NextWord g.W.PrevPlace in record {
      joins = λ x y r s is_one is_other circle ring apart last_r last_s.
          let view = c.new-links.ensures.1 in
          let one : c.in-Some.first ≡ x = some_same (sym c.in-Some.is ∙ c.place_of.ensures ∙ is_one) in
          let other : c.in-Some-place_of.second ≡ y = some_same (sym c.in-Some-place_of.is ∙ c.place_of-2.ensures ∙ is_other) in
          absurd (never c.if-not-exchange.true (c.exchange.ensures.joins r s (circle_viewed words c.new-links.result view circle) (circle_viewed words c.new-links.result view ring) apart
          (last_r ∙ ap Some (sym one)) (last_s ∙ ap Some (sym other))).0);
      cuts = λ x y r s is_one is_other circle last_r last_s.
          let one : c.in-Some.first ≡ x = some_same (sym c.in-Some.is ∙ c.place_of.ensures ∙ is_one) in
          let other : c.in-Some-place_of.second ≡ y = some_same (sym c.in-Some-place_of.is ∙ c.place_of-2.ensures ∙ is_other) in
          absurd (never c.if-not-exchange.true (c.exchange.ensures.cuts r s (circle_viewed words c.new-links.result c.new-links.ensures.1 circle)
          (last_r ∙ ap Some (sym one)) (last_s ∙ ap Some (sym other))).0);
      null = search rules;
      links_back = search rules;
      links_back_other = search rules;
      touched = search rules;
      refused = search rules;
      why = search rules;
      is_status = search rules;
    }

pub returns : goal.returns
returns g c =
    let words = link_words g.W.Words g.W.NextWord g.W.PrevPlace in record {
      joins = λ x y r s is_one is_other circle ring apart last_r last_s.
          let view = c.new-links.ensures.1 in
          let one : c.in-Some.first ≡ x = some_same (sym c.in-Some.is ∙ c.place_of.ensures ∙ is_one) in
          let other : c.in-Some-place_of.second ≡ y = some_same (sym c.in-Some-place_of.is ∙ c.place_of-2.ensures ∙ is_other) in
          let done = (c.exchange.ensures.joins r s (circle_viewed words c.new-links.result view circle) (circle_viewed words c.new-links.result view ring) apart
          (last_r ∙ ap Some (sym one)) (last_s ∙ ap Some (sym other))).1 in
          record { accepted = refl; done = makes_back words c.new-links.result c.exchange.new.links view (search rules) done };
      cuts = λ x y r s is_one is_other circle last_r last_s.
          let view = c.new-links.ensures.1 in
          let one : c.in-Some.first ≡ x = some_same (sym c.in-Some.is ∙ c.place_of.ensures ∙ is_one) in
          let other : c.in-Some-place_of.second ≡ y = some_same (sym c.in-Some-place_of.is ∙ c.place_of-2.ensures ∙ is_other) in
          let done = (c.exchange.ensures.cuts r s (circle_viewed words c.new-links.result view circle) (last_r ∙ ap Some (sym one)) (last_s ∙ ap Some (sym other))).1 in
          record { accepted = refl; done = makes_two_back words c.new-links.result c.exchange.new.links view (search rules) done };
      null = search rules;
      links_back = λ x is_one made.
          let k = c.exchange.ensures.links_back c.if-not-exchange.false in
          let one : c.in-Some.first ≡ x = some_same (sym c.in-Some.is ∙ c.place_of.ensures ∙ is_one) in
          (k.0, rw one at (told_back words c.new-links.result c.new-links.ensures.1 k.1));
      links_back_other = λ y is_other made.
          let k = c.exchange.ensures.other c.if-not-exchange.false in
          let other : c.in-Some-place_of.second ≡ y = some_same (sym c.in-Some-place_of.is ∙ c.place_of-2.ensures ∙ is_other) in
          (k.0, rw other at (told_back words c.new-links.result c.new-links.ensures.1 k.1));
      touched = λ x y is_one is_other made.
          let view = c.new-links.ensures.1 in
          let one : c.in-Some.first ≡ x = some_same (sym c.in-Some.is ∙ c.place_of.ensures ∙ is_one) in
          let other : c.in-Some-place_of.second ≡ y = some_same (sym c.in-Some-place_of.is ∙ c.place_of-2.ensures ∙ is_other) in
          let named = rw (one, other) at (c.exchange.ensures.touched c.if-not-exchange.false) in
          touched_words words c.new-links.result c.exchange.new.links view (search rules)
          (ap (λ es. Some x ∷ beside words After (table_of words es) x ∷ Some y ∷ beside words After (table_of words es) y ∷ []) (sym view)) named;
      refused = search rules;
      why = search rules;
      is_status = search rules;
    }
