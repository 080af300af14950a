use Rattle.std.proofs.Common.{◌≤◌, length, sym, subst, rules}
use Rattle.ic_raw.specs.Words.{no_tree_words, place_of}
use Rattle.ic_raw.proofs.Views.{viewed}
use Rattle.ic_raw.proofs.Trees.{kept}
use Rattle.ic_raw_augmented.proofs.Ends.{above_back}
use Rattle.ic_raw_augmented.proofs.Viewed.{summed_viewed}
use Rattle.ic_raw_augmented.proofs.sum_calls.before.Goals as goal

pub returns : goal.returns
returns c = record {
  links_back = λ root front back p at enough shown right.
      let view = c.new-links.ensures.1 in
      c.look_before.ensures.links_back root front back p at (subst (λ es. length es ≤ length c.args.sums.now) (sym view) enough) (viewed no_tree_words kept c.new-links.result view shown)
      (summed_viewed c.args.kind c.new-links.result c.args.sums.now _ view right);
  ended = λ ok. above_back c.new-links.result (place_of c.args.at) c.new-links.ensures.1 (c.look_before.ensures.ended ok);
  null = (c.look_before.ensures.null, c.look_before.ensures.none);
  refused = search rules;
  same = search rules;
  looked = search rules;
  why = search rules;
  is_status = search rules;
}
