use Rattle.std.proofs.Common.{◌≡◌, [], ◌∷◌, refl, sym, ap, ◌∙◌, rules}
use Rattle.ic_link_ops.proofs.SequenceLemmas.{some_same}
use Rattle.ic_raw.specs.Words.{no_tree_words, is_linked_three}
use Rattle.ic_raw.proofs.Gaps.{never}
use Rattle.ic_raw.proofs.Views.{free_viewed, viewed, replaced_back, unlinked_back}
use Rattle.ic_raw.proofs.Trees.{kept}
use Rattle.ic_raw.proofs.TreeSets.{exchanges_back, within_back}
use Rattle.ic_raw.proofs.tree_calls.replace.Goals as goal

pub returns-then-not-replace : goal.returns-then-not-replace
returns-then-not-replace c = record {
  replaced = λ front back out p at is shown' free.
      let view = c.new-links.ensures.1 in
      let one : out ≡ c.in-Some.member = some_same (sym at ∙ sym c.place_of.ensures ∙ c.in-Some.is) in
      let shown = rw one at shown' in
      let done = c.replace.ensures.replaced front back p (rw c.tree_of-edited.ensures (viewed no_tree_words kept c.new-links.result view shown))
      (c.place_of-2.ensures ∙ is) (free_viewed no_tree_words c.new-links.result view free) in
      absurd (never c.if-not-replace.true done.0);
  free = search rules;
  no_place = search rules;
  null = search rules;
  stands = search rules;
  root = search rules;
  own = search rules;
  exchanged = search rules;
  in_closed_set = search rules;
  words = search rules;
  refused = search rules;
  why = search rules;
  is_status = search rules;
}

pub returns : goal.returns
returns c = record {
  replaced = λ front back out p at is shown' free.
      let view = c.new-links.ensures.1 in
      let one : out ≡ c.in-Some.member = some_same (sym at ∙ sym c.place_of.ensures ∙ c.in-Some.is) in
      let shown = rw one at shown' in
      let done = c.replace.ensures.replaced front back p (rw c.tree_of-edited.ensures (viewed no_tree_words kept c.new-links.result view shown))
      (c.place_of-2.ensures ∙ is) (free_viewed no_tree_words c.new-links.result view free) in
      rw one (record {
        accepted = refl;
        done = (
          replaced_back no_tree_words kept c.new-links.result c.replace.new.links view (search rules) (search rules) done.1,
          unlinked_back no_tree_words is_linked_three c.replace.new.links c.in-Some.member (search rules) done.2,
        );
      });
  free = search rules;
  no_place = search rules;
  null = search rules;
  stands = search rules;
  root = search rules;
  own = search rules;
  exchanged = λ out p at is made.
      let one : out ≡ c.in-Some.member = some_same (sym at ∙ sym c.place_of.ensures ∙ c.in-Some.is) in
      rw one (exchanges_back c.new-links.result c.replace.new.links c.new-links.ensures.1 (search rules)
      (c.replace.ensures.exchanged p (c.place_of-2.ensures ∙ is) (search rules)));
  in_closed_set = λ made.
      let is = sym c.place_of.ensures ∙ c.in-Some.is in
      within_back c.new-links.result c.replace.new.links c.new-links.ensures.1 (search rules) (search rules) (search rules) (search rules) is (ap (λ o. o ∷ []) is)
      (c.replace.ensures.in_closed_set (search rules));
  words = search rules;
  refused = search rules;
  why = search rules;
  is_status = search rules;
}
