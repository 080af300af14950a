use Rattle.ic_raw.specs.Tree.{lent_table}
use Rattle.ic_raw.specs.Words.{no_tree_words}
use Rattle.ic_raw.proofs.Trees.{in_range, kept, seen_represents}
use Rattle.ic_raw.proofs.Views.{viewed}
use Rattle.ic_raw_augmented.specs.Written.{is_noted}
use Rattle.ic_raw_augmented.proofs.Viewed.{but_viewed, summed_back}
use Rattle.ic_raw_augmented.proofs.edit_calls.settle.Goals as goal

pub returns-clause-right : goal.returns-clause-right
returns-clause-right c ok root s shown right =
    let links = c.new-links.result in
    let view = c.new-links.ensures.1 in
    summed_back c.args.kind links c.recompute_written.new.sums s view
    (c.recompute_written.ensures.right root s (seen_represents (lent_table links) (in_range links) (viewed no_tree_words kept links view shown))
    (but_viewed c.args.kind links c.args.sums.now s (is_noted c.args.written.now) view right))
