use Rattle.std.proofs.Common.{◌≡◌, refl, sym, ap, ◌∙◌}
use Rattle.ic_link_ops.specs.TreeWords.{one_if_black}
use Rattle.ic_raw.specs.Prelude.{node, no_tree_words, is_linked_three}
use Rattle.ic_raw.proofs.Entries.{says_written, changes_only}
use Rattle.ic_raw.proofs.MarkedTrees.{color_set}
use Rattle.ic_raw.proofs.marked_tree.MarkedTreeRBTreeOps.set_color.Goals as goal
use Rattle.ic_raw.proofs.marked_tree.MarkedTreeRBTreeOps.set_color.Goals.{in-Red, in-Black}

pub returns-clause-set : goal.returns-clause-set
returns-clause-set c =
    let black : c.match-color.black ≡ one_if_black c.args.color = elim c.match-color.branch [
      | in-Red w ↦ w.black-is ∙ sym (ap one_if_black w.in-Red.is)
      | in-Black w ↦ w.black-is ∙ sym (ap one_if_black w.in-Black.is)
    ] in
    says_written is_linked_three no_tree_words refl node (λ r. record r { color = c.args.color }) _ _ _ _ _ _ c.index.ensures.value c.requires.linked refl
    (color_set _ c.args.place c.args.color c.match-color.black black)

pub returns-clause-frame : goal.returns-clause-frame
returns-clause-frame c = changes_only _ _ _ _ _ c.index.ensures.value
