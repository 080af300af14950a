use Rattle.std.proofs.Common.{refl, sym, ap, ◌∙◌}
use Rattle.ic_link_ops.proofs.SeenEntries.{entry_seen, entry_set}
use Rattle.ic_link_ops.proofs.StepLemmas.{links_only}
use Rattle.ic_raw.specs.Tables.{raw_entries}
use Rattle.ic_raw.proofs.Entries.{changes_seen}
use Rattle.ic_raw.proofs.table.RawTableLinkOps.acquire_link.Goals as goal

pub returns-clause-frame : goal.returns-clause-frame
returns-clause-frame g c = changes_seen g.W.Words.width _ _ _ _ _ c.slot-index.ensures.value c.requires.covered

pub returns-then-is_linked-clause-refused : goal.returns-then-is_linked-clause-refused
returns-then-is_linked-clause-refused g c = (
  ap g.W.Words.is_linked (entry_seen g.W.Words.width g.W.Words.unlinked (raw_entries c.args.self.now) c.args.place _ _ c.slot-index.result c.slot-index.ensures.value c.requires.covered refl)
      ∙ sym c.is_linked.ensures ∙ c.if-is_linked.true,
  refl,
)

pub returns-clause-acquired : goal.returns-clause-acquired
returns-clause-acquired g c =
    let at = c.slot-index.ensures.value in
    let linked = g.W.Words.is_linked in
    let unlinked = g.W.Words.unlinked in
    let width = g.W.Words.width in
    let was = entry_seen width unlinked (raw_entries c.args.self.now) c.args.place _ _ c.slot-index.result at c.requires.covered refl in
    let is = entry_set width unlinked (raw_entries c.args.self.now) c.args.place c.link.new.self c.slot-index.result at c.requires.covered in
    links_only (ap linked was ∙ sym c.is_linked.ensures ∙ c.if-is_linked.false) (ap linked is ∙ c.link.ensures)
    (changes_seen width unlinked (raw_entries c.args.self.now) c.args.place c.link.new.self c.slot-index.result at c.requires.covered)
