use Rattle.std.proofs.Common.{ap, ◌∙◌}
use Rattle.ic_link_ops.proofs.SeenEntries.{entry_set}
use Rattle.ic_link_ops.proofs.StepLemmas.{unlinks_only}
use Rattle.ic_raw.specs.Tables.{raw_entries}
use Rattle.ic_raw.proofs.Entries.{changes_seen, seen_covered}
use Rattle.ic_raw.proofs.table.RawTableLinkOps.release_link.Goals as goal

pub returns-clause-frame : goal.returns-clause-frame
returns-clause-frame g c =
    changes_seen g.W.Words.width _ _ _ _ _ c.slot_of_linked-index.ensures.value
    (seen_covered g.W.Words.width g.W.Words.unlinked g.W.Words.is_linked g.met.W.Words.starts_unlinked (raw_entries c.args.self.now) c.args.place c.requires.linked)

pub returns-clause-released : goal.returns-clause-released
returns-clause-released g c =
    let at = c.slot_of_linked-index.ensures.value in
    let width = g.W.Words.width in
    let unlinked = g.W.Words.unlinked in
    let covered = seen_covered width unlinked g.W.Words.is_linked g.met.W.Words.starts_unlinked (raw_entries c.args.self.now) c.args.place c.requires.linked in
    let is = entry_set width unlinked (raw_entries c.args.self.now) c.args.place c.unlink.new.self c.slot_of_linked-index.result at covered in
    unlinks_only c.requires.linked (ap g.W.Words.is_linked is ∙ c.unlink.ensures)
    (changes_seen width unlinked (raw_entries c.args.self.now) c.args.place c.unlink.new.self c.slot_of_linked-index.result at covered)
