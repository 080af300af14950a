use Rattle.std.proofs.Common.{None, refl, rules}
use Rattle.ic_raw.specs.Prelude.{root_in, no_tree_words, is_linked_three}
use Rattle.ic_raw.proofs.Gaps.{never}
use Rattle.ic_raw.proofs.Trees.{kept}
use Rattle.ic_raw.proofs.TreeSteps.{leads_back}
use Rattle.ic_raw.proofs.Views.{viewed, clears_back, unlinks_back}
use Rattle.ic_raw.proofs.tree_calls.clear.Goals as goal

pub returns-then-not-clear : goal.returns-then-not-clear
returns-then-not-clear c = record {
  cleared = λ s shown. absurd (never c.if-not-clear.true (c.clear.ensures.cleared s (rw c.tree_of.ensures (viewed no_tree_words kept c.new-links.result c.new-links.ensures.1 shown))).0);
  root = search rules;
  ended = search rules;
  emptied = search rules;
  marks = unlinks_back no_tree_words c.new-links.result c.clear.new.links c.new-links.ensures.1 (search rules) c.clear.ensures.marks;
  refused = search rules;
  why = search rules;
  is_status = search rules;
}

pub returns : goal.returns
returns c = record {
  cleared = λ s shown.
      let done = (c.clear.ensures.cleared s (rw c.tree_of.ensures (viewed no_tree_words kept c.new-links.result c.new-links.ensures.1 shown))).1 in
      record { accepted = refl; done = clears_back no_tree_words is_linked_three c.new-links.result c.clear.new.links c.new-links.ensures.1 (search rules) done };
  root = search rules;
  ended = λ ok. leads_back c.new-links.result (root_in c.args.tree.now) None c.new-links.ensures.1 (rw c.tree_of.ensures at (c.clear.ensures.ended c.if-not-clear.false));
  emptied = search rules;
  marks = unlinks_back no_tree_words c.new-links.result c.clear.new.links c.new-links.ensures.1 (search rules) c.clear.ensures.marks;
  refused = search rules;
  why = search rules;
  is_status = search rules;
}
