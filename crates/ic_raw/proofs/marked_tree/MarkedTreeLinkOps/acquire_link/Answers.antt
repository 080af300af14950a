use Rattle.std.proofs.Common.{refl, sym, ap, ◌∙◌}
use Rattle.ic_link_ops.proofs.EntryLemmas.{entry_read, entry_same}
use Rattle.ic_link_ops.proofs.StepLemmas.{links_only}
use Rattle.ic_raw.specs.Prelude.{marked_entries, no_tree_words, is_linked_three}
use Rattle.ic_raw.proofs.Entries.{changes_only}
use Rattle.ic_raw.proofs.marked_tree.MarkedTreeLinkOps.acquire_link.Goals as goal

pub returns-clause-frame : goal.returns-clause-frame
returns-clause-frame c = changes_only _ _ _ _ _ c.index-index.ensures.value

pub returns-clause-acquired : goal.returns-clause-acquired
returns-clause-acquired c =
    let es = marked_entries c.args.self.now in
    let at = c.index-index.ensures.value in
    let was = entry_read no_tree_words es c.args.place _ _ c.index-index.result at c.requires.covered refl in
    let is = entry_same no_tree_words es c.args.place c.link.new.self c.index-index.result at c.requires.covered in
    links_only (ap is_linked_three was ∙ sym c.is_linked.ensures ∙ c.if-is_linked.false) (ap is_linked_three is ∙ c.link.ensures)
    (changes_only no_tree_words es c.args.place c.link.new.self c.index-index.result at)
