use Rattle.std.proofs.Common.{arith}
use Rattle.ic_unsafe_ref.specs.Places.{index_of}
use Rattle.ic_link_ops.specs.Links.{link_with}
use Rattle.ic_link_ops.specs.PlainTables.{entries, linked_by}
use Rattle.ic_link_ops.specs.Widths.{nameable}
use Rattle.ic_link_ops.specs.EntryLaws.{linked_in_range}
use Rattle.ic_link_ops.proofs.WidthLemmas.{nameable_fits}
use Rattle.ic_link_ops.proofs.table.PlainTable.slot_of_linked.Goals as goal

pub returns-clause-in_bounds : goal.returns-clause-in_bounds
returns-clause-in_bounds g c =
    omega (
      arith,
      c.index.ensures,
      nameable_fits g.W.Words.width (entries c.args.self.now),
      linked_in_range (linked_by g.W.Words.is_linked) (link_with g.W.Words.unlinked g.V.LinkValue.initial) g.met.W.Words.starts_unlinked
          (nameable g.W.Words.width (entries c.args.self.now)) (index_of c.args.place) c.requires.linked,
    )
