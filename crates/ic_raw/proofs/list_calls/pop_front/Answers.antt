use Rattle.std.proofs.Common.{◌∷◌, Some, refl, sym, ap, ◌∙◌, subst, rules}
use Rattle.ic_link_ops.specs.Chains.{Ends}
use Rattle.ic_link_ops.proofs.SequenceLemmas.{some_same}
use Rattle.ic_raw.specs.declared.gap.GapSide.TheVariants.{After}
use Rattle.ic_raw.specs.Prelude.{HasNumber, sides}
use Rattle.ic_raw.specs.Doubly.{Represents}
use Rattle.ic_raw.specs.ListCalls.{PopCall}
use Rattle.ic_raw.proofs.Doubly.{around_viewed}
use Rattle.ic_raw.proofs.Views.{renamed}
use Rattle.ic_raw.proofs.Lists.{kept}
use Rattle.ic_raw.specs.LinkWords.{lent_table}
use Rattle.ic_raw.proofs.LinkViews.{link_words, viewed, removed_back, unlinked_back, touched_back}
use Rattle.ic_raw.proofs.list_calls.pop_front.Goals as goal

pub returns-in-Some : goal.returns-in-Some
returns-in-Some g c =
    let words = link_words g.W.Words g.W.NextWord g.W.PrevPlace in record {
      taken = λ front back p is shown'.
          let view = c.new-links.ensures.1 in
          let shown = rw is at shown' in
          let seen : Represents words (lent_table words c.new-links.result) c.list_of-edited.result (p ∷ back) = rw c.list_of-edited.ensures (viewed words kept c.new-links.result view shown) in
          let removed = c.pop_before_second.ensures.removed p _ back c.in-Some.is seen in
          let head = c.first.ensures in
          let tail = sym (c.pop_before_second.ensures.tail _ c.in-Some.is ∙ ap (λ (e : Ends). e.tail) c.list_of-edited.ensures) in
          rw is (record {
            accepted = refl;
            done = (
              removed_back words kept c.new-links.result c.pop_before_second.new.links view (search rules)
                  (c.set_first.ensures.set ∙ (λ k. record { head = head k; tail = tail k })) removed.1,
              unlinked_back words c.pop_before_second.new.links p (search rules) removed.2,
              subst (λ q. HasNumber q c.number_of.result) removed.0 c.number_of.ensures,
            );
          });
      handed = λ p is made.
          let first = sym (ap (λ (e : Ends). e.head) c.list_of-edited.ensures) ∙ c.pop_before_second.ensures.first _ c.in-Some.is in
          subst (λ q. HasNumber q c.number_of.result) (some_same (sym first ∙ is)) c.number_of.ensures;
      null = search rules;
      stands = search rules;
      outer = search rules;
      inner = search rules;
      own = search rules;
      touched = λ p is made.
          let first = sym (ap (λ (e : Ends). e.head) c.list_of-edited.ensures) ∙ c.pop_before_second.ensures.first _ c.in-Some.is in
          let gap = around_viewed words c.new-links.result {at = Some c.in-Some.first} c.new-links.ensures.1 c.list_of-edited.ensures refl refl in
          rw (some_same (sym is ∙ first)) (touched_back words c.new-links.result c.pop_before_second.new.links c.new-links.ensures.1 (search rules)
          (λ k. Some c.in-Some.first ∷ sides (gap k)) (c.pop_before_second.ensures.touched _ c.in-Some.is));
      words = search rules;
      refused = search rules;
      why = search rules;
      is_status = search rules;
    }

pub returns : goal.returns
returns g c =
    let words = link_words g.W.Words g.W.NextWord g.W.PrevPlace in
    let same = c.pop_before_second.ensures.refused c.in_default.is in
    renamed (λ old new. PopCall words old new c.args.list.now c.pop_front_slow.new.list c.pop_front_slow.result After c.args.popped.now c.pop_front_slow.new.popped)
    (ap (λ l. l.entries.now) same.0 ∙ c.new-links.ensures.1) (search rules) c.pop_front_slow.ensures
