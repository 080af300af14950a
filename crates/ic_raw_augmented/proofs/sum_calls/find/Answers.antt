use Rattle.std.proofs.Common.{[], ◌∷◌, ◌≤◌, length, sym, subst, rules}
use Rattle.ic_raw.specs.Prelude.{root_in, no_tree_words, place_of}
use Rattle.ic_raw.proofs.Views.{viewed}
use Rattle.ic_raw.proofs.Trees.{kept}
use Rattle.ic_raw.proofs.TreeSets.{reached_back}
use Rattle.ic_raw_augmented.proofs.Ends.{find_back}
use Rattle.ic_raw_augmented.proofs.Viewed.{summed_viewed}
use Rattle.ic_raw_augmented.proofs.sum_calls.find.Goals as goal

pub returns : goal.returns
returns c = record {
  found = λ cut enough at shown right.
      let view = c.new-links.ensures.1 in
      c.store_found.ensures.found cut (subst (λ es. length es ≤ length c.args.sums.now) (sym view) enough) at (viewed no_tree_words kept c.new-links.result view shown)
      (summed_viewed c.args.kind c.new-links.result c.args.sums.now _ view right);
  reached = λ ok. reached_back c.new-links.result (place_of c.args.at ∷ []) _ c.new-links.ensures.1 (c.store_found.ensures.reached ok);
  ended = λ null. find_back c.new-links.result c.args.sums.now (root_in c.args.tree.now) (place_of c.args.at) c.args.bound c.new-links.ensures.1 (c.store_found.ensures.ended null);
  refused = search rules;
  same = search rules;
  looked = search rules;
  why = search rules;
  is_status = search rules;
}
