use Rattle.std.proofs.Common.{refl, ap, ◌∙◌}
use Rattle.ic_unsafe_ref.specs.Places.{index_of}
use Rattle.ic_link_ops.specs.EntryLaws.{linked_in_range}
use Rattle.ic_link_ops.proofs.Prelude.{entry_same, unlinks_only}
use Rattle.ic_raw.specs.Prelude.{marked_entries, no_tree_words, is_linked_three}
use Rattle.ic_raw.proofs.Entries.{changes_only}
use Rattle.ic_raw.proofs.marked_tree.MarkedTreeLinkOps.release_link.Goals as goal

pub returns-clause-frame : goal.returns-clause-frame
returns-clause-frame c = changes_only _ _ _ _ _ c.index.ensures.value

pub returns-clause-released : goal.returns-clause-released
returns-clause-released c =
    let es = marked_entries c.args.self.now in
    let at = c.index.ensures.value in
    let covered = linked_in_range is_linked_three no_tree_words refl es (index_of c.args.place) c.requires.linked in
    let is = entry_same no_tree_words es c.args.place c.unlink.new.self c.index.result at covered in
    unlinks_only c.requires.linked (ap is_linked_three is ∙ c.unlink.ensures) (changes_only no_tree_words es c.args.place c.unlink.new.self c.index.result at)
