use Rattle.std.proofs.Common.{slice_index_or, ap, ◌∙◌, length, refl, length-set}
use Rattle.ic_link_ops.specs.Links.{link_with, words_of}
use Rattle.ic_link_ops.specs.LentTables.{lent_entries}
use Rattle.ic_unsafe_ref.specs.Objects.{at_indexes}
use Rattle.ic_link_ops.specs.PlainTables.{values_beside}
use Rattle.ic_link_ops.specs.Widths.{nameable}
use Rattle.ic_link_ops.proofs.WidthLemmas.{nameable_written}
use Rattle.ic_link_ops.proofs.SeenEntries.{others_seen, says_kept}
use Rattle.ic_link_ops.proofs.ValuesBeside.{value_set}
use Rattle.ic_link_ops.proofs.link_value.LentTableLinkValues.set_value.Goals as goal

pub returns-clause-value : goal.returns-clause-value
returns-clause-value g c =
    let w = g.W.Words.width in
    ap (λ l. at_indexes (values_beside l)) (nameable_written w (lent_entries c.args.self.now) c.slot-index.result _ (rw c.slot-index.ensures.value c.requires.covered))
    ∙ value_set (nameable w (lent_entries c.args.self.now)) c.args.place _ c.slot-index.ensures.value c.requires.covered

pub returns-clause-others : goal.returns-clause-others
returns-clause-others g c =
    others_seen g.W.Words.width (link_with g.W.Words.unlinked g.V.LinkValue.initial) (lent_entries c.args.self.now) c.args.place (link_with (slice_index_or (lent_entries c.args.self.now) c.slot-index.result c.index-self-index.result).words c.args.value)
    c.slot-index.result c.slot-index.ensures.value c.requires.covered

pub returns-clause-links : goal.returns-clause-links
returns-clause-links g c = says_kept g.W.Words.width (link_with g.W.Words.unlinked g.V.LinkValue.initial) words_of (lent_entries c.args.self.now) c.args.place _ _ _ _ c.slot-index.ensures.value c.requires.covered refl refl

pub returns-clause-trace_stays : goal.returns-clause-trace_stays
returns-clause-trace_stays g c q = ap g.W.Words.is_linked (returns-clause-links g c q)

pub returns-clause-covers : goal.returns-clause-covers
returns-clause-covers g c =
    let w = g.W.Words.width in
    ap length (nameable_written w (lent_entries c.args.self.now) c.slot-index.result _ (rw c.slot-index.ensures.value c.requires.covered)) ∙ length-set (nameable w (lent_entries c.args.self.now)) c.slot-index.result _
