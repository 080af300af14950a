use Rattle.ic_link_ops.specs.Links.{link_with, words_of}
use Rattle.ic_link_ops.specs.PlainTables.{entries, values_beside}
use Rattle.std.proofs.Common.{ap, ◌∙◌, length, refl, length-set}
use Rattle.ic_unsafe_ref.specs.Objects.{at_indexes}
use Rattle.ic_link_ops.specs.Widths.{nameable}
use Rattle.ic_link_ops.proofs.WidthLemmas.{nameable_written}
use Rattle.ic_link_ops.proofs.SeenEntries.{others_seen, says_kept}
use Rattle.ic_link_ops.proofs.ValuesBeside.{value_set}
use Rattle.ic_link_ops.proofs.link_value.PlainTableLinkValues.set_value.Goals as goal

pub returns-clause-value : goal.returns-clause-value
returns-clause-value g c =
    let w = g.W.Words.width in
    ap (λ l. at_indexes (values_beside l)) (nameable_written w (entries c.args.self.now) c.slot-index.result _ (rw c.slot-index.ensures.value c.requires.covered))
    ∙ value_set (nameable w (entries c.args.self.now)) c.args.place _ c.slot-index.ensures.value c.requires.covered

pub returns-clause-others : goal.returns-clause-others
returns-clause-others g c =
    others_seen g.W.Words.width (link_with g.W.Words.unlinked g.V.LinkValue.initial) (entries c.args.self.now) c.args.place (link_with c.index_mut-entry.result.now.words c.args.value)
    c.slot-index.result c.slot-index.ensures.value c.requires.covered

pub returns-clause-links : goal.returns-clause-links
returns-clause-links g c = says_kept g.W.Words.width (link_with g.W.Words.unlinked g.V.LinkValue.initial) words_of (entries c.args.self.now) c.args.place c.index_mut-entry.result.now _ _ _ c.slot-index.ensures.value c.requires.covered c.index_mut-entry.ensures.value refl

pub returns-clause-trace_stays : goal.returns-clause-trace_stays
returns-clause-trace_stays g c q = ap g.W.Words.is_linked (returns-clause-links g c q)

pub returns-clause-covers : goal.returns-clause-covers
returns-clause-covers g c =
    let w = g.W.Words.width in
    ap length (nameable_written w (entries c.args.self.now) c.slot-index.result _ (rw c.slot-index.ensures.value c.requires.covered)) ∙ length-set (nameable w (entries c.args.self.now)) c.slot-index.result _
