use Rattle.std.proofs.Common.{[], ◌∷◌, ◌≤◌, length, refl, ◌∙◌, sym, subst, rules}
use Rattle.ic_link_ops.specs.LinkSteps.{acquires}
use Rattle.ic_raw.specs.Prelude.{against, key_of, no_tree_words}
use Rattle.ic_raw.proofs.Gaps.{never}
use Rattle.ic_raw.proofs.Views.{free_viewed, viewed, ordered_back}
use Rattle.ic_raw.proofs.Trees.{kept}
use Rattle.ic_raw.proofs.TreeSets.{steps_back, within_back}
use Rattle.ic_raw.proofs.search_calls.insert_by.Goals as goal

pub returns-then-not-insert-clause-call : goal.returns-then-not-insert-clause-call
returns-then-not-insert-clause-call g c = record {
  inserted = λ s p is enough shown free.
      let view = c.new-links.ensures.1 in
      let done = c.insert.ensures.inserted s p (rw c.tree_of-edited.ensures (viewed no_tree_words kept c.new-links.result view shown)) (c.place_of.ensures ∙ is)
      (subst (λ es. length es ≤ length c.args.keys.now) (sym view) enough) (free_viewed no_tree_words c.new-links.result view free) in
      absurd (never c.if-not-insert.true done.0);
  free = search rules;
  no_place = search rules;
  enough = search rules;
  root = search rules;
  linked = search rules;
  in_closed_set = search rules;
  words = search rules;
  refused = search rules;
  why = search rules;
  is_status = search rules;
}

pub returns-clause-call : goal.returns-clause-call
returns-clause-call g c = record {
  inserted = λ s p is enough shown free.
      let view = c.new-links.ensures.1 in
      let done = c.insert.ensures.inserted s p (rw c.tree_of-edited.ensures (viewed no_tree_words kept c.new-links.result view shown)) (c.place_of.ensures ∙ is)
      (subst (λ es. length es ≤ length c.args.keys.now) (sym view) enough) (free_viewed no_tree_words c.new-links.result view free) in
      record {
        accepted = refl;
        done = ordered_back no_tree_words kept (against (key_of c.args.keys.now p) c.args.keys.now) p c.new-links.result c.insert.new.links view (search rules) (search rules) done.1;
      };
  free = search rules;
  no_place = search rules;
  enough = search rules;
  root = search rules;
  linked = λ p is made.
      steps_back c.new-links.result c.insert.new.links (acquires p ∷ []) c.new-links.ensures.1 (search rules)
      (c.insert.ensures.linked p (c.place_of.ensures ∙ is) (search rules));
  in_closed_set = λ made.
      within_back c.new-links.result c.insert.new.links c.new-links.ensures.1 (search rules) (search rules) (search rules) (search rules) refl refl
      (c.insert.ensures.in_closed_set (search rules));
  words = search rules;
  refused = search rules;
  why = search rules;
  is_status = search rules;
}

pub returns-clause-reported : goal.returns-clause-reported
returns-clause-reported g c p is made = (c.new-links.result, c.insert.new.links, c.new-links.ensures.1, search rules, c.insert.ensures.reported p (c.place_of.ensures ∙ is) (search rules))
