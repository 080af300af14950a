use Rattle.std.proofs.Common.{◌≡◌, ◌++◌, ◌∷◌, Option, Some, sym, ap, subst, ◌∙◌, rules}
use Rattle.ic_link_ops.specs.Prelude.{Place, entry_at, list_from}
use Rattle.ic_link_ops.proofs.Prelude.{some_same, represents_middle}
use Rattle.ic_raw.specs.Singly.{Represents, lent_table, list_of, successor, word_of_front}
use Rattle.ic_raw.specs.Words.{no_word}
use Rattle.ic_raw.proofs.Entries.{place_kept}
use Rattle.ic_raw.proofs.Gaps.{never}
use Rattle.ic_raw.proofs.HashWalks.{names_back, represented_after, represented_from}
use Rattle.ic_raw.proofs.Lists.{kept}
use Rattle.ic_raw.proofs.Views.{viewed, represented_back}
use Rattle.ic_raw.proofs.hash_calls.next_equal.Goals as goal

pub returns-then-not-is_linked : goal.returns-then-not-is_linked
returns-then-not-is_linked c = record {
  found = λ list front back p is enough shown.
      let one : c.in-Some.member ≡ p = some_same (sym c.in-Some.is ∙ c.place_of.ensures ∙ is) in
      let seen : Represents (lent_table c.new-links.result) (list_of list) (front ++ p ∷ back) = viewed no_word kept c.new-links.result c.new-links.ensures.1 shown in
      absurd (never c.if-not-is_linked.true (c.is_linked.ensures ∙ rw one (represents_middle front back seen).linked));
  linked = search rules;
  ended = search rules;
  none = search rules;
  refused = search rules;
  same = search rules;
  enough = search rules;
  stands = search rules;
  why = search rules;
  is_status = search rules;
}

pub returns : goal.returns
returns c = record {
  found = λ list front back p is enough shown.
      let one : c.in-Some.member ≡ p = some_same (sym c.in-Some.is ∙ c.place_of.ensures ∙ is) in
      let seen : Represents (lent_table c.new-links.result) (list_of list) (front ++ p ∷ back) = viewed no_word kept c.new-links.result c.new-links.ensures.1 shown in
      rw (← one) (rw c.index.ensures.value at (c.find_from.ensures.found back (rw (c.next.ensures, one) (represented_after front p back seen))));
  linked = λ p is made.
      let one : c.in-Some.member ≡ p = some_same (sym c.in-Some.is ∙ c.place_of.ensures ∙ is) in
      let after = c.next.ensures ∙ ap (λ fs. (successor (entry_at no_word fs c.in-Some.member)).next) c.new-links.ensures.1 in
      rw (← one) (names_back c.new-links.result _ _ _ c.new-links.ensures.1 after (rw c.index.ensures.value at (c.find_from.ensures.linked made)));
  ended = λ p is null.
      let one : c.in-Some.member ≡ p = some_same (sym c.in-Some.is ∙ c.place_of.ensures ∙ is) in
      let after = c.find_from.ensures.ended null in
      let whole = represented_from c.in-Some.member after.0 (sym c.is_linked.ensures ∙ c.if-not-is_linked.false) (rw c.next.ensures at after.1) in
      let t = lent_table c.new-links.result in
      let first : Represents t (list_of (word_of_front (Some c.in-Some.member))) (c.in-Some.member ∷ after.0) =
      subst (λ (o : Option Place). Represents t (list_from o) (c.in-Some.member ∷ after.0)) (sym (place_kept (Some c.in-Some.member))) whole in
      (after.0, represented_back no_word kept c.new-links.result c.new-links.ensures.1 (subst (λ (q : Place). Represents t (list_of (word_of_front (Some q))) (q ∷ after.0)) one first));
  none = search rules;
  refused = search rules;
  same = search rules;
  enough = search rules;
  stands = search rules;
  why = search rules;
  is_status = search rules;
}
