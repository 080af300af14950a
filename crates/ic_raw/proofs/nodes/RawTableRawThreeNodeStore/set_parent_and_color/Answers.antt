use Rattle.std.proofs.Common.{◌≡◌, length, slice_index_or, ap, ◌∙◌, sym}
use Rattle.ic_link_ops.specs.TreeWords.{one_if_black}
use Rattle.ic_raw.specs.Prelude.{no_tree_words, raw_entries}
use Rattle.ic_raw.proofs.Seen.{seen_changes, says_written, parent_and_color_set, parent_and_color_keeps_links, keeps_marks}
use Rattle.ic_raw.proofs.Entries.{changes_only}
use Rattle.ic_raw.proofs.nodes.RawTableRawThreeNodeStore.set_parent_and_color.Goals as goal
use Rattle.ic_raw.proofs.nodes.RawTableRawThreeNodeStore.set_parent_and_color.Goals.{in-Red, in-Black}

pub returns-clause-set : goal.returns-clause-set
returns-clause-set c =
    let es = raw_entries c.args.self.now in
    let black : c.match-color.black ≡ one_if_black c.args.color = elim c.match-color.branch [
      | in-Red w ↦ w.black-is ∙ sym (ap one_if_black w.in-Red.is)
      | in-Black w ↦ w.black-is ∙ sym (ap one_if_black w.in-Black.is)
    ] in
    says_written es c.args.place _ _ _ (λ e. record e { parent = c.args.parent; color = c.args.color }) c.index.ensures.value c.requires.linked
    (parent_and_color_set c.args.place (length es) (slice_index_or es c.index.result no_tree_words) c.args.parent c.requires.named _ c.to_word.ensures.value c.args.color c.match-color.black black)

pub returns-clause-frame : goal.returns-clause-frame
returns-clause-frame c = seen_changes _ _ _ (changes_only _ _ _ _ _ c.index.ensures.value)

pub returns-clause-keeps_links : goal.returns-clause-keeps_links
returns-clause-keeps_links c =
    let es = raw_entries c.args.self.now in
    let black : c.match-color.black ≡ one_if_black c.args.color = elim c.match-color.branch [
      | in-Red w ↦ w.black-is ∙ sym (ap one_if_black w.in-Red.is)
      | in-Black w ↦ w.black-is ∙ sym (ap one_if_black w.in-Black.is)
    ] in
    keeps_marks es c.args.place _ _ _ c.index.ensures.value c.requires.linked
    (parent_and_color_keeps_links c.args.place (length es) (slice_index_or es c.index.result no_tree_words) c.args.parent c.requires.named _ c.to_word.ensures.value c.args.color c.match-color.black black)
