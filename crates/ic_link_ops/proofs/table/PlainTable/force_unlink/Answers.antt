use Rattle.std.proofs.Common.{refl, ap, ◌∙◌}
use Rattle.ic_link_ops.specs.Links.{link_with}
use Rattle.ic_link_ops.specs.PlainTables.{entries, linked_by}
use Rattle.ic_link_ops.proofs.SeenEntries.{changes_only, entry_set}
use Rattle.ic_link_ops.proofs.table.PlainTable.force_unlink.Goals as goal

pub returns-clause-frame : goal.returns-clause-frame
returns-clause-frame g c = changes_only g.V.LinkValue.printed g.W.Words.width _ _ _ c.index_mut-entry.result.now _ _ _ c.slot-index.ensures.value c.requires.covered c.index_mut-entry.ensures.value refl

pub returns-clause-unlinked : goal.returns-clause-unlinked
returns-clause-unlinked g c =
    ap (linked_by g.W.Words.is_linked)
    (entry_set g.W.Words.width (link_with g.W.Words.unlinked g.V.LinkValue.initial) (entries c.args.self.now) c.args.place _ c.slot-index.result c.slot-index.ensures.value c.requires.covered)
    ∙ c.unlink.ensures
