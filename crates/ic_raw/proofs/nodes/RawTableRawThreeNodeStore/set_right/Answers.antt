use Rattle.std.proofs.Common.{length, slice_index_or}
use Rattle.ic_raw.specs.Prelude.{no_tree_words, raw_entries}
use Rattle.ic_raw.proofs.Seen.{seen_changes, says_written, right_set, right_keeps_links, keeps_marks}
use Rattle.ic_raw.proofs.Entries.{changes_only}
use Rattle.ic_raw.proofs.nodes.RawTableRawThreeNodeStore.set_right.Goals as goal

pub returns-clause-set : goal.returns-clause-set
returns-clause-set c =
    let es = raw_entries c.args.self.now in
    says_written es c.args.place _ _ _ (λ e. record e { right = c.args.right }) c.index.ensures.value c.requires.linked
    (right_set c.args.place (length es) (slice_index_or es c.index.result no_tree_words) c.args.right c.requires.named _ c.to_word-words.ensures.value)

pub returns-clause-frame : goal.returns-clause-frame
returns-clause-frame c = seen_changes _ _ _ (changes_only _ _ _ _ _ c.index.ensures.value)

pub returns-clause-keeps_links : goal.returns-clause-keeps_links
returns-clause-keeps_links c =
    let es = raw_entries c.args.self.now in
    keeps_marks es c.args.place _ _ _ c.index.ensures.value c.requires.linked
    (right_keeps_links c.args.place (length es) (slice_index_or es c.index.result no_tree_words) c.args.right c.requires.named _ c.to_word-words.ensures.value)
