use Rattle.std.proofs.Common.{arith}
use Rattle.ic_link_ops.proofs.WidthLemmas.{nameable_fits}
use Rattle.ic_raw.specs.Tables.{raw_entries}
use Rattle.ic_raw.proofs.Entries.{seen_covered}
use Rattle.ic_raw.proofs.table.RawTable.slot_of_linked.Goals as goal

pub returns-clause-in_bounds : goal.returns-clause-in_bounds
returns-clause-in_bounds g c =
    omega (
      arith,
      c.index.ensures.value,
      nameable_fits g.W.Words.width (raw_entries c.args.self.now),
      seen_covered g.W.Words.width g.W.Words.unlinked g.W.Words.is_linked g.met.W.Words.starts_unlinked (raw_entries c.args.self.now) c.args.place c.requires.linked,
    )
