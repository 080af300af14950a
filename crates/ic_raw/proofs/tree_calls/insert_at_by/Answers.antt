use Rattle.std.proofs.Common.{[], ◌∷◌, refl, ◌∙◌, rules}
use Rattle.ic_link_ops.specs.LinkSteps.{acquires}
use Rattle.ic_raw.specs.Words.{no_tree_words}
use Rattle.ic_raw.proofs.Gaps.{never}
use Rattle.ic_raw.proofs.Views.{free_viewed, viewed, inserted_back}
use Rattle.ic_raw.proofs.Trees.{kept, insert_pos_viewed}
use Rattle.ic_raw.proofs.TreeSets.{steps_back, within_back}
use Rattle.ic_raw.proofs.tree_calls.insert_at_by.Goals as goal

pub returns-then-not-insert-clause-call : goal.returns-then-not-insert-clause-call
returns-then-not-insert-clause-call g c = record {
  inserted = λ cut p at is shown free.
      let view = c.new-links.ensures.1 in
      let done = c.insert.ensures.inserted cut p (rw c.tree_of-edited.ensures (viewed no_tree_words kept c.new-links.result view shown))
      (rw c.place_of.ensures (insert_pos_viewed c.new-links.result c.args.side _ cut view at)) (c.place_of-2.ensures ∙ is) (free_viewed no_tree_words c.new-links.result view free) in
      absurd (never c.if-not-insert.true done.0);
  free = search rules;
  no_place = search rules;
  stands = search rules;
  root = search rules;
  links_back = search rules;
  linked = search rules;
  in_closed_set = search rules;
  words = search rules;
  refused = search rules;
  why = search rules;
  is_status = search rules;
}

pub returns-clause-call : goal.returns-clause-call
returns-clause-call g c = record {
  inserted = λ cut p at is shown free.
      let view = c.new-links.ensures.1 in
      let done = c.insert.ensures.inserted cut p (rw c.tree_of-edited.ensures (viewed no_tree_words kept c.new-links.result view shown))
      (rw c.place_of.ensures (insert_pos_viewed c.new-links.result c.args.side _ cut view at)) (c.place_of-2.ensures ∙ is) (free_viewed no_tree_words c.new-links.result view free) in
      record { accepted = refl; done = inserted_back no_tree_words kept c.new-links.result c.insert.new.links view (search rules) (search rules) done.1 };
  free = search rules;
  no_place = search rules;
  stands = search rules;
  root = search rules;
  links_back = search rules;
  linked = λ p is made.
      steps_back c.new-links.result c.insert.new.links (acquires p ∷ []) c.new-links.ensures.1 (search rules)
      (c.insert.ensures.linked p (c.place_of-2.ensures ∙ is) (search rules));
  in_closed_set = λ made.
      within_back c.new-links.result c.insert.new.links c.new-links.ensures.1 (search rules) (search rules) (search rules) (search rules) refl (search rules)
      (c.insert.ensures.in_closed_set (search rules));
  words = search rules;
  refused = search rules;
  why = search rules;
  is_status = search rules;
}

pub returns-clause-reported : goal.returns-clause-reported
returns-clause-reported g c p is made = (c.new-links.result, c.insert.new.links, c.new-links.ensures.1, search rules, c.insert.ensures.reported p (c.place_of-2.ensures ∙ is) (search rules))
