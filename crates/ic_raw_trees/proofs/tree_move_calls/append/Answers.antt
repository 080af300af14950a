use Rattle.std.proofs.Common.{[], refl, rules}
use Rattle.ic_raw.proofs.Gaps.{never}
use Rattle.ic_raw_trees.proofs.MarkedViews.{appends_back, parts_back, parts_viewed, steps_back}
use Rattle.ic_raw_trees.proofs.tree_move_calls.append.Goals as goal

pub returns-then-not-represents_both : goal.returns-then-not-represents_both
returns-then-not-represents_both c = record {
  appended = λ gap both.
      let parts = parts_viewed c.new-links.result c.new-links.ensures.words both in
      absurd (never c.if-not-represents_both.true (c.represents_both.ensures.1 (gap, rw (c.tree_of-edited.ensures, c.tree_of-moved.ensures) parts)));
  shown = search rules;
  emptied = search rules;
  linked = search rules;
  words = search rules;
  refused = search rules;
  why = search rules;
  is_status = search rules;
}

pub returns : goal.returns
returns c = record {
  appended = λ gap both.
      let parts = parts_viewed c.new-links.result c.new-links.ensures.words both in
      let made = c.append.ensures.appended gap (rw (c.tree_of-edited.ensures, c.tree_of-moved.ensures) parts) in
      record { accepted = refl; done = appends_back c.new-links.result c.append.new.nodes c.new-links.ensures.words (search rules) c.write_back.ensures.set made };
  shown = λ accepted.
      let both = rw (c.tree_of-edited.ensures, c.tree_of-moved.ensures) at (c.represents_both.ensures.0 c.if-not-represents_both.false) in
      (both.0, parts_back c.new-links.result c.new-links.ensures.words both.1);
  emptied = search rules;
  linked = steps_back c.new-links.result c.append.new.nodes c.new-links.ensures.words (search rules) [] (c.append.ensures.keeps_links c.new-links.result [] (λ q. refl));
  words = search rules;
  refused = search rules;
  why = search rules;
  is_status = search rules;
}
