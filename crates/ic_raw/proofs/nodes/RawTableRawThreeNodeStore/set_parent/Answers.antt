use Rattle.std.proofs.Common.{length}
use Rattle.ic_raw.specs.Tables.{raw_entries}
use Rattle.ic_raw.proofs.Seen.{seen_changes, says_written, parent_set, parent_keeps_links, keeps_marks}
use Rattle.ic_raw.proofs.Entries.{changes_only}
use Rattle.ic_raw.proofs.nodes.RawTableRawThreeNodeStore.set_parent.Goals as goal

pub returns-clause-set : goal.returns-clause-set
returns-clause-set c =
    says_written (raw_entries c.args.self.now) c.args.place _ _ _ (λ e. record e { parent = c.args.parent }) c.index.ensures.value c.requires.linked
    (parent_set c.args.place (length (raw_entries c.args.self.now)) _ c.args.parent c.requires.named _ c.to_word.ensures.value)

pub returns-clause-frame : goal.returns-clause-frame
returns-clause-frame c = seen_changes _ _ _ (changes_only _ _ _ _ _ c.index.ensures.value)

pub returns-clause-keeps_links : goal.returns-clause-keeps_links
returns-clause-keeps_links c =
    keeps_marks (raw_entries c.args.self.now) c.args.place _ _ _ c.index.ensures.value c.requires.linked
    (parent_keeps_links c.args.place (length (raw_entries c.args.self.now)) _ c.args.parent c.requires.named _ c.to_word.ensures.value)
