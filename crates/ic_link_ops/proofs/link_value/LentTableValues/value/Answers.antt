use Rattle.std.proofs.Common.{arith, Some, ap, ◌∙◌}
use Rattle.ic_link_ops.specs.LentTables.{lent_entries}
use Rattle.ic_link_ops.specs.Links.{value_of}
use Rattle.ic_link_ops.specs.Widths.{nameable}
use Rattle.ic_link_ops.proofs.WidthLemmas.{nameable_fits, nameable_read}
use Rattle.ic_link_ops.proofs.ValuesBeside.{value_read}
use Rattle.ic_link_ops.proofs.link_value.LentTableValues.value.Goals as goal

pub offset_bounds-entries-index : goal.offset_bounds-entries-index
offset_bounds-entries-index g c = let h = (value_read (nameable g.W.Words.width (lent_entries c.args.self.now)) c.args.place c.index.ensures.value c.requires.placed).0 in omega (arith, h, nameable_fits g.W.Words.width (lent_entries c.args.self.now))

pub bounds-entries-index : goal.bounds-entries-index
bounds-entries-index g c =
    let h = (value_read (nameable g.W.Words.width (lent_entries c.args.self.now)) c.args.place c.index.ensures.value c.requires.placed).0 in omega (arith, h, nameable_fits g.W.Words.width (lent_entries c.args.self.now))

pub returns : goal.returns
returns g c =
    let read = value_read (nameable g.W.Words.width (lent_entries c.args.self.now)) c.args.place c.index.ensures.value c.requires.placed in
    read.1 c.index-entries-index.result ∙ ap (λ l. Some (value_of l)) (nameable_read g.W.Words.width (lent_entries c.args.self.now) c.index.result c.index-entries-index.result read.0)
