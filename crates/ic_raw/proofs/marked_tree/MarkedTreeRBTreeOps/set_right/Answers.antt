use Rattle.std.proofs.Common.{refl, slice_index_or}
use Rattle.ic_raw.specs.Prelude.{marked_entries, node, no_tree_words, is_linked_three}
use Rattle.ic_raw.proofs.Entries.{says_written, changes_only}
use Rattle.ic_raw.proofs.MarkedTrees.{right_set}
use Rattle.ic_raw.proofs.marked_tree.MarkedTreeRBTreeOps.set_right.Goals as goal

pub returns-clause-set : goal.returns-clause-set
returns-clause-set c =
    says_written is_linked_three no_tree_words refl node (λ r. record r { right = c.args.right }) _ _ _ _ _ _ c.index.ensures.value c.requires.linked refl
    (right_set (slice_index_or (marked_entries c.args.self.now) c.index.result no_tree_words) c.args.right _ c.to_word-words.ensures.value)

pub returns-clause-frame : goal.returns-clause-frame
returns-clause-frame c = changes_only _ _ _ _ _ c.index.ensures.value
