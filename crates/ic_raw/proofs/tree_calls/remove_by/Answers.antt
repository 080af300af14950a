use Rattle.std.proofs.Common.{◌≡◌, [], ◌∷◌, refl, sym, ap, ◌∙◌, rules}
use Rattle.ic_link_ops.proofs.SequenceLemmas.{some_same}
use Rattle.ic_link_ops.specs.LinkSteps.{releases}
use Rattle.ic_raw.specs.Words.{no_tree_words, is_linked_three}
use Rattle.ic_raw.proofs.Gaps.{never}
use Rattle.ic_raw.proofs.Views.{viewed, removed_back, unlinked_back}
use Rattle.ic_raw.proofs.Trees.{kept}
use Rattle.ic_raw.proofs.TreeSets.{steps_back, within_back}
use Rattle.ic_raw.proofs.tree_calls.remove_by.Goals as goal

pub returns-then-not-remove-clause-call : goal.returns-then-not-remove-clause-call
returns-then-not-remove-clause-call g c = record {
  removed = λ front back p at shown'.
      let view = c.new-links.ensures.1 in
      let one : p ≡ c.in-Some.member = some_same (sym at ∙ sym c.place_of.ensures ∙ c.in-Some.is) in
      let shown = rw one at shown' in
      let done = c.remove.ensures.removed front back (rw c.tree_of-edited.ensures (viewed no_tree_words kept c.new-links.result view shown)) in
      absurd (never c.if-not-remove.true done.0);
  null = search rules;
  stands = search rules;
  root = search rules;
  own = search rules;
  unlinked = search rules;
  in_closed_set = search rules;
  words = search rules;
  refused = search rules;
  why = search rules;
  is_status = search rules;
}

pub returns-clause-call : goal.returns-clause-call
returns-clause-call g c = record {
  removed = λ front back p at shown'.
      let view = c.new-links.ensures.1 in
      let one : p ≡ c.in-Some.member = some_same (sym at ∙ sym c.place_of.ensures ∙ c.in-Some.is) in
      let shown = rw one at shown' in
      let done = c.remove.ensures.removed front back (rw c.tree_of-edited.ensures (viewed no_tree_words kept c.new-links.result view shown)) in
      rw one (record {
        accepted = refl;
        done = (
          removed_back no_tree_words kept c.new-links.result c.remove.new.links view (search rules) (search rules) done.1,
          unlinked_back no_tree_words is_linked_three c.remove.new.links c.in-Some.member (search rules) done.2,
        );
      });
  null = search rules;
  stands = search rules;
  root = search rules;
  own = search rules;
  unlinked = λ p at made.
      let one : p ≡ c.in-Some.member = some_same (sym at ∙ sym c.place_of.ensures ∙ c.in-Some.is) in
      rw one (steps_back c.new-links.result c.remove.new.links (releases c.in-Some.member ∷ []) c.new-links.ensures.1 (search rules)
      (c.remove.ensures.unlinked (search rules)));
  in_closed_set = λ made.
      let is = sym c.place_of.ensures ∙ c.in-Some.is in
      within_back c.new-links.result c.remove.new.links c.new-links.ensures.1 (search rules) (search rules) (search rules) refl is (ap (λ o. o ∷ []) is)
      (c.remove.ensures.in_closed_set (search rules));
  words = search rules;
  refused = search rules;
  why = search rules;
  is_status = search rules;
}

pub returns-clause-reported : goal.returns-clause-reported
returns-clause-reported g c p at made =
    let one : p ≡ c.in-Some.member = some_same (sym at ∙ sym c.place_of.ensures ∙ c.in-Some.is) in
    rw one (c.new-links.result, c.remove.new.links, c.new-links.ensures.1, search rules, c.remove.ensures.reported (search rules))
