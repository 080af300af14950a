use Rattle.std.proofs.Common.{◌≡◌, Option, Some, None, [], ◌∷◌, refl, sym, ap, subst, ◌∙◌, rules}
use Rattle.ic_link_ops.specs.Prelude.{Place, Front}
use Rattle.ic_link_ops.proofs.SequenceLemmas.{some_same}
use Rattle.ic_raw.specs.Words.{no_word, is_linked_one, HasNumber}
use Rattle.ic_raw.specs.Singly.{Represents, lent_table}
use Rattle.ic_raw.proofs.Views.{viewed, removed_back, unlinked_back}
use Rattle.ic_raw.proofs.Lists.{kept}
use Rattle.ic_raw.proofs.Own.{front_left}
use Rattle.ic_raw.proofs.Singly.{member_first, member_same, touches_places}
use Rattle.ic_raw.proofs.Touches.{touched_back}
use Rattle.ic_raw.proofs.stack_calls.pop_front.Goals as goal

pub returns-then-is_linked : goal.returns-then-is_linked
returns-then-is_linked c = record {
  taken = λ s p shown.
      let view = c.new-links.ensures.1 in
      let seen : Represents (lent_table c.new-links.result) c.stack_of-edited.result (p ∷ s) =
      rw c.stack_of-edited.ensures (viewed no_word kept c.new-links.result view shown) in
      let one : p ≡ c.in-Some.member = some_same (sym (c.first.ensures ∙ seen.head) ∙ c.in-Some.is) in
      let off = c.remove.ensures.removed [] s (rw one at seen) refl in
      rw one (record {
        accepted = refl;
        done = (
          removed_back no_word kept c.new-links.result c.remove.new.links view (search rules) (search rules) off.0,
          unlinked_back no_word is_linked_one c.remove.new.links _ (search rules) off.1,
          c.number_of.ensures,
        );
      });
  handed = λ p is made.
      let first = sym c.in-Some.is ∙ c.first.ensures ∙ ap (λ (l : Front). l.head) c.stack_of-edited.ensures in
      subst (λ q. HasNumber q c.number_of.result) (some_same (first ∙ is)) c.number_of.ensures;
  null = search rules;
  accepted =
      let first = member_first (lent_table c.new-links.result) (sym c.first.ensures ∙ c.in-Some.is) (sym c.is_linked.ensures ∙ c.if-is_linked.true) in
      ((λ ok. (member_same c.new-links.result c.new-links.ensures.1 c.stack_of-edited.ensures refl).0 first), (λ links_back. refl));
  own = λ made.
      let first = sym c.in-Some.is ∙ c.first.ensures ∙ ap (λ (l : Front). l.head) c.stack_of-edited.ensures in
      let front : ◌≡◌ {A = Option Place} None None = refl in
      front_left c.new-links.result c.args.list.now c.write_back.new.words c.new-links.ensures.1 c.stack_of-edited.ensures c.write_back.ensures.set front (sym first) c.remove.ensures.own;
  touched = λ p is made.
      let first = sym c.in-Some.is ∙ c.first.ensures ∙ ap (λ (l : Front). l.head) c.stack_of-edited.ensures in
      let one : p ≡ c.in-Some.member = some_same (sym is ∙ sym first) in
      rw one (touched_back no_word c.new-links.result c.remove.new.links c.new-links.ensures.1 (search rules) refl
      (touches_places (Some c.in-Some.member ∷ []) c.remove.ensures.touched));
  words = search rules;
  refused = search rules;
  why = search rules;
  is_status = search rules;
}
