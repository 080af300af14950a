use Rattle.std.proofs.Common.{refl, sym, ◌∙◌, ap}
use Rattle.ic_link_ops.specs.Links.{link_with}
use Rattle.ic_link_ops.specs.LentTables.{lent_entries}
use Rattle.ic_link_ops.specs.PlainTables.{linked_by}
use Rattle.ic_link_ops.proofs.SeenEntries.{view_changes_only, links_entry, entry_seen}
use Rattle.ic_link_ops.proofs.lent_table.LentTableLinkOps.acquire_link.Goals as goal

pub returns-clause-frame : goal.returns-clause-frame
returns-clause-frame g c = view_changes_only g.V.LinkValue.printed g.W.Words.width _ _ _ _ _ _ _ c.slot-index.ensures.value c.requires.covered refl refl

pub returns-clause-acquired : goal.returns-clause-acquired
returns-clause-acquired g c =
    links_entry g.W.Words.is_linked g.W.Words.width (link_with g.W.Words.unlinked g.V.LinkValue.initial) (lent_entries c.args.self.now) c.args.place _ _ _ c.slot-index.result c.slot-index.ensures.value c.requires.covered
    refl (sym c.is_linked.ensures ∙ c.if-is_linked.false) c.link.ensures

pub returns-then-is_linked-clause-refused : goal.returns-then-is_linked-clause-refused
returns-then-is_linked-clause-refused g c = (
  ap (linked_by g.W.Words.is_linked) (entry_seen g.W.Words.width (link_with g.W.Words.unlinked g.V.LinkValue.initial) (lent_entries c.args.self.now) c.args.place _ _ _ c.slot-index.ensures.value c.requires.covered refl)
      ∙ sym c.is_linked.ensures ∙ c.if-is_linked.true,
  refl,
)
