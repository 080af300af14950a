use Rattle.std.proofs.Common.{◌≡◌, Some, [], ◌∷◌, refl, sym, ap, ◌∙◌, rules}
use Rattle.ic_link_ops.proofs.SequenceLemmas.{some_same}
use Rattle.ic_raw.specs.Prelude.{no_word, is_linked_one, beyond}
use Rattle.ic_raw.specs.Singly.{table_of}
use Rattle.ic_raw.proofs.Gaps.{never}
use Rattle.ic_raw.proofs.Touches.{touched_back}
use Rattle.ic_raw.proofs.Views.{free_viewed, viewed, replaced_back, unlinked_back}
use Rattle.ic_raw.proofs.Lists.{kept}
use Rattle.ic_raw.proofs.xor_calls.replace.Goals as goal

pub returns-then-not-replace : goal.returns-then-not-replace
returns-then-not-replace c = record {
  replaced = λ front back out p before at is shown free.
      let view = c.new-links.ensures.1 in
      let one : out ≡ c.in-Some.member = some_same (sym (c.place_of.ensures ∙ at) ∙ c.in-Some.is) in
      let same = rw one at (viewed no_word kept c.new-links.result view shown) in
      absurd (never c.if-not-replace.true (c.replace.ensures.replaced front back p (rw c.list_of-edited.ensures same) (c.place_of-neighbor.ensures ∙ before)
      (c.place_of-new.ensures ∙ is) (free_viewed no_word c.new-links.result view free)).0);
  free = search rules;
  no_place = search rules;
  null = search rules;
  stands = search rules;
  stands_before = search rules;
  links_back = search rules;
  touched = search rules;
  own = search rules;
  words = search rules;
  refused = search rules;
  why = search rules;
  is_status = search rules;
}

pub returns : goal.returns
returns c = record {
  replaced = λ front back out p before at is shown free.
      let view = c.new-links.ensures.1 in
      let one : out ≡ c.in-Some.member = some_same (sym (c.place_of.ensures ∙ at) ∙ c.in-Some.is) in
      let same = rw one at (viewed no_word kept c.new-links.result view shown) in
      let replaced = c.replace.ensures.replaced front back p (rw c.list_of-edited.ensures same) (c.place_of-neighbor.ensures ∙ before) (c.place_of-new.ensures ∙ is)
      (free_viewed no_word c.new-links.result view free) in
      rw one (record {
        accepted = refl;
        done = (
          replaced_back no_word kept c.new-links.result c.replace.new.links view (search rules) (search rules) replaced.1,
          unlinked_back no_word is_linked_one c.replace.new.links c.in-Some.member (search rules) replaced.2,
        );
      });
  free = search rules;
  no_place = search rules;
  null = search rules;
  stands = search rules;
  stands_before = search rules;
  links_back = search rules;
  touched = λ out p at is made.
      let view = c.new-links.ensures.1 in
      let neighbor = sym c.place_of-neighbor.ensures in
      let one : out ≡ c.in-Some.member = some_same (sym (c.place_of.ensures ∙ at) ∙ c.in-Some.is) in
      let there = at ∙ ap Some one in
      rw one
      (touched_back no_word c.new-links.result c.replace.new.links view (search rules)
      (λ k. Some p ∷ Some c.in-Some.member ∷ neighbor k ∷ beyond (table_of (sym view k)) (there k) (neighbor k) ∷ [])
      (c.replace.ensures.touched p (c.place_of-new.ensures ∙ is) c.if-not-replace.false));
  own = search rules;
  words = search rules;
  refused = search rules;
  why = search rules;
  is_status = search rules;
}
