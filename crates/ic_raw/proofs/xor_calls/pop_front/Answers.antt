use Rattle.std.proofs.Common.{Some, None, [], ◌∷◌, refl, sym, ap, ◌∙◌, subst, rules}
use Rattle.ic_link_ops.specs.Chains.{Ends}
use Rattle.ic_link_ops.proofs.SequenceLemmas.{some_same}
use Rattle.ic_raw.specs.Words.{no_word, is_linked_one, HasNumber}
use Rattle.ic_raw.specs.Singly.{lent_table, table_of}
use Rattle.ic_raw.specs.Xor.{Represents, beyond}
use Rattle.ic_raw.proofs.Views.{viewed, removed_back, unlinked_back}
use Rattle.ic_raw.proofs.Lists.{kept}
use Rattle.ic_raw.proofs.Touches.{touched_back}
use Rattle.ic_raw.proofs.xor_calls.pop_front.Goals as goal

pub returns-in-Some : goal.returns-in-Some
returns-in-Some c = record {
  taken = λ front s p is shown'.
      let shown = rw is at shown' in
      let view = c.new-links.ensures.1 in
      let seen : Represents (lent_table c.new-links.result) c.list_of-edited.result (p ∷ s) = rw c.list_of-edited.ensures (viewed no_word kept c.new-links.result view shown) in
      let removed = c.pop_before_others.ensures.removed p _ s c.in-Some.is seen in
      let head = c.first.ensures in
      let tail = sym (c.pop_before_others.ensures.tail _ c.in-Some.is ∙ ap (λ (e : Ends). e.tail) c.list_of-edited.ensures) in
      rw is (record {
        accepted = refl;
        done = (
          removed_back no_word kept c.new-links.result c.pop_before_others.new.links view (search rules)
              (c.set_first.ensures.set ∙ (λ k. record { head = head k; tail = tail k })) removed.1,
          unlinked_back no_word is_linked_one c.pop_before_others.new.links p (search rules) removed.2,
          subst (λ q. HasNumber q c.number_of.result) removed.0 c.number_of.ensures,
        );
      });
  handed = λ p is made.
      let first = sym (ap (λ (e : Ends). e.head) c.list_of-edited.ensures) ∙ c.pop_before_others.ensures.first _ c.in-Some.is in
      subst (λ q. HasNumber q c.number_of.result) (some_same (sym first ∙ is)) c.number_of.ensures;
  null = search rules;
  stands = search rules;
  links_back = λ made p is.
      let first = sym (c.pop_before_others.ensures.first _ c.in-Some.is) ∙ ap (λ (e : Ends). e.head) c.list_of-edited.ensures ∙ is in
      rw (← c.new-links.ensures.1) (rw c.list_of-edited.ensures at (c.pop_before_others.ensures.links_back _ c.in-Some.is p first));
  touched = λ p is made.
      let view = c.new-links.ensures.1 in
      let first = sym (c.pop_before_others.ensures.first _ c.in-Some.is) ∙ ap (λ (e : Ends). e.head) c.list_of-edited.ensures ∙ is in
      rw is
      (touched_back no_word c.new-links.result c.pop_before_others.new.links view (search rules) (ap (λ es. Some p ∷ None ∷ beyond (table_of es) (Some p) None ∷ []) (sym view))
      (c.pop_before_others.ensures.touched p (c.in-Some.is ∙ first)));
  own = search rules;
  words = search rules;
  refused = search rules;
  why = search rules;
  is_status = search rules;
}
