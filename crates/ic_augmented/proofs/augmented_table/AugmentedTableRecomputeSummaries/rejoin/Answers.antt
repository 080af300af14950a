use Rattle.std.proofs.Common.{sym, ap, ◌∙◌}
use Rattle.ic_link_ops.proofs.EntryLemmas.{entry_read}
use Rattle.ic_augmented.specs.declared.augmented_table.Cell.{Cell}
use Rattle.ic_augmented.specs.AugmentedTables.{blank}
use Rattle.ic_augmented.proofs.AugmentedTableLemmas.{cell_writes}
use Rattle.ic_augmented.proofs.augmented_table.AugmentedTableRecomputeSummaries.rejoin.Goals as goal
use Rattle.ic_augmented.proofs.augmented_table.AugmentedTableRecomputeSummaries.rejoin.Goals.{in-Some, in_default}

pub returns-clause-written : goal.returns-clause-written
returns-clause-written g c = elim c.match-recomputed.branch [
  | in-Some w ↦
      cell_writes g.V.Summarize.join g.V.Summarize.initial c.args.self.now.cells.items c.args.place c.index_mut-recomputed.result.now _ _ c.index-index.result c.index-index.ensures.value c.requires.covered c.index_mut-recomputed.ensures.value _ c.args.upper
      (ap (λ (y : Cell g.row.V.Denot g.row.S.Denot). y.value) w.recomputed-is) (ap (λ (y : Cell g.row.V.Denot g.row.S.Denot). y.summary) w.recomputed-is) c.of-recomputed.ensures
  | in_default w ↦
      let read = entry_read (blank g.V.Summarize.initial) c.args.self.now.cells.items c.args.place c.index_mut-recomputed.result.now _ c.index-index.result c.index-index.ensures.value c.requires.covered c.index_mut-recomputed.ensures.value in
      let before = entry_read (blank g.V.Summarize.initial) c.args.self.now.cells.items c.args.place c.index-cell.result.now _ c.index-index.result c.index-index.ensures.value c.requires.covered c.index-cell.ensures in
      absurd (w.in_default.not-Some c.in_ok-was.was' (ap (λ (y : Cell g.row.V.Denot g.row.S.Denot). y.summary) (sym read ∙ before) ∙ c.in_ok-was.was))
]
