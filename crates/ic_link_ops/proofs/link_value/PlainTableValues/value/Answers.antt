use Rattle.std.proofs.Common.{Some, arith, sym, ap, ◌∙◌}
use Rattle.ic_link_ops.specs.Links.{value_of}
use Rattle.ic_link_ops.specs.PlainTables.{entries}
use Rattle.ic_link_ops.specs.Widths.{nameable}
use Rattle.ic_link_ops.proofs.WidthLemmas.{nameable_fits, nameable_read}
use Rattle.ic_link_ops.proofs.ValuesBeside.{value_read}
use Rattle.ic_link_ops.proofs.link_value.PlainTableValues.value.Goals as goal

pub index-requires-2 : goal.index-requires-2
index-requires-2 g c = let h = (value_read (nameable g.W.Words.width (entries c.args.self.now)) c.args.place c.index.ensures.value c.requires.placed).0 in omega (arith, h, nameable_fits g.W.Words.width (entries c.args.self.now), c.args.self.now.entries.ok.0)

pub returns : goal.returns
returns g c =
    let read = value_read (nameable g.W.Words.width (entries c.args.self.now)) c.args.place c.index.ensures.value c.requires.placed in
    read.1 _ ∙ ap (λ l. Some (value_of l)) (nameable_read g.W.Words.width (entries c.args.self.now) c.index.result _ read.0 ∙ sym c.index-2.ensures)
