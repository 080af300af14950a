use Rattle.std.proofs.Common.{◌∷◌, Some, refl, sym, ap, ◌∙◌, subst, rules}
use Rattle.ic_link_ops.proofs.SequenceLemmas.{some_same}
use Rattle.ic_raw.specs.Prelude.{HasNumber, sides}
use Rattle.ic_raw.specs.Doubly.{TellsGap, end_on, ends_of}
use Rattle.ic_raw.proofs.Doubly.{around_viewed, told_back}
use Rattle.ic_raw.specs.LinkWords.{table_of}
use Rattle.ic_raw.proofs.LinkViews.{link_words, touched_back}
use Rattle.ic_raw.proofs.list_calls.pop.Goals as goal

pub returns : goal.returns
returns g c =
    let words = link_words g.W.Words g.W.NextWord g.W.PrevPlace in record {
      taken = search rules;
      handed = λ p is made.
          let end = sym (ap (λ l. end_on c.args.side l) c.list_of-edited.ensures) ∙ c.pop.ensures.end _ c.in-Some.is in
          subst (λ q. HasNumber q c.number_of.result) (some_same (sym end ∙ is)) c.number_of.ensures;
      null = search rules;
      stands = search rules;
      outer = search rules;
      inner = λ made.
          let side = c.args.side in
          let list = ends_of c.args.list.now in
          let end = sym (ap (λ l. end_on side l) c.list_of-edited.ensures) ∙ c.pop.ensures.end _ c.in-Some.is in
          let links_back = c.pop.ensures.inner _ c.in-Some.is in
          subst (λ at. TellsGap words side (table_of words c.args.table.now) list at) (sym end)
          (told_back words side c.new-links.result list _ c.new-links.ensures.1 (rw (← c.list_of-edited.ensures) links_back));
      own = search rules;
      touched = λ p is made.
          let end = sym (ap (λ l. end_on c.args.side l) c.list_of-edited.ensures) ∙ c.pop.ensures.end _ c.in-Some.is in
          let gap = around_viewed words c.new-links.result {at = Some c.in-Some.member} c.new-links.ensures.1 c.list_of-edited.ensures refl refl in
          rw (some_same (sym is ∙ end)) (touched_back words c.new-links.result c.pop.new.links c.new-links.ensures.1 (search rules)
          (λ k. Some c.in-Some.member ∷ sides (gap k)) (c.pop.ensures.touched _ c.in-Some.is));
      words = search rules;
      refused = search rules;
      why = search rules;
      is_status = search rules;
    }
