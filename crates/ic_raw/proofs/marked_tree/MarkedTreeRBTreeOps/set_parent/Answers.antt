use Rattle.std.proofs.Common.{refl}
use Rattle.ic_raw.specs.Prelude.{node, no_tree_words, is_linked_three}
use Rattle.ic_raw.proofs.Entries.{says_written, changes_only}
use Rattle.ic_raw.proofs.MarkedTrees.{parent_set}
use Rattle.ic_raw.proofs.marked_tree.MarkedTreeRBTreeOps.set_parent.Goals as goal

pub returns-clause-set : goal.returns-clause-set
returns-clause-set c =
    says_written is_linked_three no_tree_words refl node (λ r. record r { parent = c.args.parent }) _ _ _ _ _ _ c.index.ensures.value c.requires.linked refl
    (parent_set _ c.args.parent _ c.to_word.ensures.value)

pub returns-clause-frame : goal.returns-clause-frame
returns-clause-frame c = changes_only _ _ _ _ _ c.index.ensures.value
