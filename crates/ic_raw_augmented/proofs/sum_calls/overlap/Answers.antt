use Rattle.std.proofs.Common.{[], ◌∷◌, ◌≤◌, length, sym, subst, rules}
use Rattle.ic_raw.specs.Prelude.{root_in, no_tree_words, place_of}
use Rattle.ic_raw.proofs.Views.{viewed}
use Rattle.ic_raw.proofs.Trees.{kept}
use Rattle.ic_raw.proofs.TreeSets.{reached_back}
use Rattle.ic_raw_augmented.specs.declared.sums.Kind.TheVariants.{Greatest}
use Rattle.ic_raw_augmented.proofs.Ends.{overlap_back}
use Rattle.ic_raw_augmented.proofs.Viewed.{summed_viewed}
use Rattle.ic_raw_augmented.proofs.sum_calls.overlap.Goals as goal

pub returns : goal.returns
returns c = record {
  found = λ cut starts enough at shown right sorted.
      let view = c.new-links.ensures.1 in
      c.store_overlap.ensures.found cut (subst (λ es. length es ≤ length c.args.starts.now) (sym view) starts) (subst (λ es. length es ≤ length c.args.sums.now) (sym view) enough) at
      (viewed no_tree_words kept c.new-links.result view shown) (summed_viewed Greatest c.new-links.result c.args.sums.now _ view right) sorted;
  reached = λ ok. reached_back c.new-links.result (place_of c.args.at ∷ []) _ c.new-links.ensures.1 (c.store_overlap.ensures.reached ok);
  ended = λ null.
      overlap_back c.new-links.result c.args.sums.now (root_in c.args.tree.now) (place_of c.args.at) c.args.starts.now c.args.from c.args.to c.new-links.ensures.1
      (c.store_overlap.ensures.ended null);
  refused = search rules;
  same = search rules;
  looked = search rules;
  why = search rules;
  is_status = search rules;
}
