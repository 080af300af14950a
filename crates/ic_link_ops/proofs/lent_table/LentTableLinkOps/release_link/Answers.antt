use Rattle.ic_unsafe_ref.specs.Places.{index_of}
use Rattle.ic_link_ops.specs.Links.{link_with}
use Rattle.ic_link_ops.specs.PlainTables.{linked_by}
use Rattle.ic_link_ops.specs.LentTables.{lent_entries, lent_table}
use Rattle.ic_link_ops.specs.Widths.{nameable}
use Rattle.ic_link_ops.specs.EntryLaws.{linked_in_range}
use Rattle.ic_link_ops.proofs.StepLemmas.{unlinks_only}
use Rattle.ic_link_ops.proofs.lent_table.LentTableLinkOps.release_link.Goals as goal

pub force_unlink-requires : goal.force_unlink-requires
force_unlink-requires g c =
    let covered = linked_in_range (linked_by g.W.Words.is_linked) (link_with g.W.Words.unlinked g.V.LinkValue.initial) g.met.W.Words.starts_unlinked
    (nameable g.W.Words.width (lent_entries c.args.self.now)) (index_of c.args.place) c.requires.linked in
    record { covered = covered }

pub returns-clause-released : goal.returns-clause-released
returns-clause-released g c =
    unlinks_only {linked = linked_by g.W.Words.is_linked} {a = lent_table g.W.Words.width g.W.Words.unlinked g.V.LinkValue.initial g.V.LinkValue.printed c.args.self.now} {b = lent_table g.W.Words.width g.W.Words.unlinked g.V.LinkValue.initial g.V.LinkValue.printed c.force_unlink.new.self}
    c.requires.linked c.force_unlink.ensures.unlinked c.force_unlink.ensures.frame
