use Rattle.std.proofs.Common.{[], ◌≤◌, length, sym, subst, rules}
use Rattle.ic_raw.specs.Words.{no_tree_words}
use Rattle.ic_raw.proofs.Views.{viewed}
use Rattle.ic_raw.proofs.Trees.{kept}
use Rattle.ic_raw.proofs.TreeSets.{reached_back}
use Rattle.ic_raw.proofs.Keys.{ends_back, target_back}
use Rattle.ic_raw.proofs.search_calls.find_target.Goals as goal

pub returns : goal.returns
returns c = record {
  found = λ s enough shown.
      let view = c.new-links.ensures.1 in
      c.store_found.ensures.found s (rw c.tree_of.ensures (viewed no_tree_words kept c.new-links.result view shown)) (subst (λ es. length es ≤ length c.args.keys.now) (sym view) enough);
  reached = λ ok. reached_back c.new-links.result [] _ c.new-links.ensures.1 (rw c.tree_of.ensures at (c.store_found.ensures.reached ok));
  bounded = λ ok. target_back c.new-links.result c.args.target c.args.keys.now c.args.key _ c.new-links.ensures.1 (c.store_found.ensures.bounded ok);
  ended = λ null. ends_back c.new-links.result c.args.target c.args.keys.now c.args.key c.new-links.ensures.1 (rw c.tree_of.ensures at (c.store_found.ensures.ended null));
  refused = search rules;
  same = search rules;
  looked = search rules;
  why = search rules;
  is_status = search rules;
}
