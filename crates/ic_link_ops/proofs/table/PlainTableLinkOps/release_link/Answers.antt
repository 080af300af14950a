use Rattle.std.proofs.Common.{refl, ap, ◌∙◌}
use Rattle.ic_unsafe_ref.specs.Places.{index_of}
use Rattle.ic_link_ops.specs.Links.{link_with}
use Rattle.ic_link_ops.specs.PlainTables.{entries, linked_by, table_beside}
use Rattle.ic_link_ops.specs.Widths.{nameable}
use Rattle.ic_link_ops.specs.EntryLaws.{linked_in_range}
use Rattle.ic_link_ops.proofs.StepLemmas.{unlinks_only}
use Rattle.ic_link_ops.proofs.SeenEntries.{changes_only, entry_set}
use Rattle.ic_link_ops.proofs.table.PlainTableLinkOps.release_link.Goals as goal

pub returns-clause-frame : goal.returns-clause-frame
returns-clause-frame g c =
    let covered = linked_in_range (linked_by g.W.Words.is_linked) (link_with g.W.Words.unlinked g.V.LinkValue.initial) g.met.W.Words.starts_unlinked
    (nameable g.W.Words.width (entries c.args.self.now)) (index_of c.args.place) c.requires.linked in
    changes_only g.V.LinkValue.printed g.W.Words.width _ _ _ c.index_mut-link.result.now _ _ _ c.slot_of_linked-index.ensures.value covered c.index_mut-link.ensures.value refl

pub returns-clause-released : goal.returns-clause-released
returns-clause-released g c =
    let covered = linked_in_range (linked_by g.W.Words.is_linked) (link_with g.W.Words.unlinked g.V.LinkValue.initial) g.met.W.Words.starts_unlinked
    (nameable g.W.Words.width (entries c.args.self.now)) (index_of c.args.place) c.requires.linked in
    unlinks_only {linked = linked_by g.W.Words.is_linked} {a = table_beside g.W.Words.width g.W.Words.unlinked g.V.LinkValue.initial g.V.LinkValue.printed c.args.self.now}
    c.requires.linked
    (ap (linked_by g.W.Words.is_linked)
    (entry_set g.W.Words.width (link_with g.W.Words.unlinked g.V.LinkValue.initial) (entries c.args.self.now) c.args.place _ c.slot_of_linked-index.result c.slot_of_linked-index.ensures.value covered)
    ∙ c.unlink.ensures)
    (changes_only g.V.LinkValue.printed g.W.Words.width _ _ _ c.index_mut-link.result.now _ _ _ c.slot_of_linked-index.ensures.value covered c.index_mut-link.ensures.value refl)
