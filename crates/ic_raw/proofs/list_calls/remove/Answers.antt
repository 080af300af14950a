use Rattle.std.proofs.Common.{◌≡◌, ◌∷◌, Some, refl, sym, ◌∙◌, rules}
use Rattle.ic_link_ops.proofs.SequenceLemmas.{some_same}
use Rattle.ic_raw.specs.Touches.{sides}
use Rattle.ic_raw.proofs.Doubly.{around_viewed}
use Rattle.ic_raw.proofs.LinkViews.{link_words, touched_back}
use Rattle.ic_raw.proofs.list_calls.remove.Goals as goal

pub returns-then-remove_between : goal.returns-then-remove_between
returns-then-remove_between g c =
    let words = link_words g.W.Words g.W.NextWord g.W.PrevPlace in record {
      removed = search rules;
      null = search rules;
      stands = search rules;
      before = search rules;
      after = search rules;
      own = search rules;
      touched = λ p is made.
          let one : p ≡ c.in-Some.member = some_same (sym is ∙ sym c.place_of.ensures ∙ c.in-Some.is) in
          let gap = around_viewed words c.new-links.result c.new-links.ensures.1 c.list_of.ensures (sym c.in-Some.is ∙ c.place_of.ensures) refl in
          rw one
          (touched_back words c.new-links.result c.remove_between.new.links c.new-links.ensures.1 (search rules) (λ k. Some c.in-Some.member ∷ sides (gap k)) (c.remove_between.ensures.touched c.if-remove_between.true));
      words = search rules;
      refused = search rules;
      why = search rules;
      is_status = search rules;
    }
