use Rattle.std.proofs.Common.{◌≡◌, ◌∷◌, Some, refl, sym, ◌∙◌, rules}
use Rattle.ic_link_ops.proofs.SequenceLemmas.{some_same}
use Rattle.ic_raw.specs.Touches.{sides}
use Rattle.ic_raw.proofs.Doubly.{around_viewed}
use Rattle.ic_raw.proofs.Gaps.{never}
use Rattle.ic_raw.proofs.Lists.{kept}
use Rattle.ic_raw.proofs.LinkViews.{link_words, free_viewed, viewed, replaced_back, unlinked_back, touched_back}
use Rattle.ic_raw.proofs.list_calls.replace.Goals as goal

pub returns-then-not-replace : goal.returns-then-not-replace
returns-then-not-replace g c =
    let words = link_words g.W.Words g.W.NextWord g.W.PrevPlace in record {
      replaced = λ front back out p at is shown' free.
          let view = c.new-links.ensures.1 in
          let one : out ≡ c.in-Some.member = some_same (sym at ∙ sym c.place_of.ensures ∙ c.in-Some.is) in
          let shown = rw one at shown' in
          let done = c.replace.ensures.replaced front back p (rw c.list_of-edited.ensures (viewed words kept c.new-links.result view shown))
          (c.place_of-2.ensures ∙ is) (free_viewed words c.new-links.result view free) in
          absurd (never c.if-not-replace.true done.0);
      free = search rules;
      no_place = search rules;
      null = search rules;
      stands = search rules;
      before = search rules;
      after = search rules;
      own = search rules;
      touched = search rules;
      words = search rules;
      refused = search rules;
      why = search rules;
      is_status = search rules;
    }

pub returns : goal.returns
returns g c =
    let words = link_words g.W.Words g.W.NextWord g.W.PrevPlace in record {
      replaced = λ front back out p at is shown' free.
          let view = c.new-links.ensures.1 in
          let one : out ≡ c.in-Some.member = some_same (sym at ∙ sym c.place_of.ensures ∙ c.in-Some.is) in
          let shown = rw one at shown' in
          let done = c.replace.ensures.replaced front back p (rw c.list_of-edited.ensures (viewed words kept c.new-links.result view shown))
          (c.place_of-2.ensures ∙ is) (free_viewed words c.new-links.result view free) in
          rw one (record {
            accepted = refl;
            done = (
              replaced_back words kept c.new-links.result c.replace.new.links view (search rules) (search rules) done.1,
              unlinked_back words c.replace.new.links c.in-Some.member (search rules) done.2,
            );
          });
      free = search rules;
      no_place = search rules;
      null = search rules;
      stands = search rules;
      before = search rules;
      after = search rules;
      own = search rules;
      touched = λ out p at is made.
          let one : out ≡ c.in-Some.member = some_same (sym at ∙ sym c.place_of.ensures ∙ c.in-Some.is) in
          let gap = around_viewed words c.new-links.result c.new-links.ensures.1 c.list_of-edited.ensures (sym c.in-Some.is ∙ c.place_of.ensures) refl in
          rw one (touched_back words c.new-links.result c.replace.new.links c.new-links.ensures.1 (search rules) (λ k. Some p ∷ Some c.in-Some.member ∷ sides (gap k))
          (c.replace.ensures.touched p c.if-not-replace.false (c.place_of-2.ensures ∙ is)));
      words = search rules;
      refused = search rules;
      why = search rules;
      is_status = search rules;
    }
