use Rattle.std.proofs.Common.{Some, refl, ap}
use Rattle.ic_augmented.proofs.AugmentedTableLemmas.{cell_writes, cell_joins}
use Rattle.ic_augmented.proofs.augmented_table.AugmentedTableRecomputeSummaries.write.Goals as goal

pub returns-clause-summary : goal.returns-clause-summary
returns-clause-summary g c =
    cell_joins g.V.Summarize.join g.V.Summarize.initial c.args.self.now.cells.items c.args.place c.index_mut-cell.result.now c.index_mut-cell.result.now _ c.index.result c.index.ensures.value c.requires.covered c.index_mut-cell.ensures.value
    _ _ _ c.args.left c.args.right c.join-summary.ensures refl refl

pub returns-clause-written : goal.returns-clause-written
returns-clause-written g c =
    let join = g.V.Summarize.join in
    let es = c.args.self.now.cells.items in
    cell_writes join g.V.Summarize.initial es c.args.place c.index_mut-cell.result.now _ _ c.index.result c.index.ensures.value c.requires.covered c.index_mut-cell.ensures.value _ c.args.upper refl
    (ap Some (cell_joins join g.V.Summarize.initial es c.args.place c.index_mut-cell.result.now c.index_mut-cell.result.now _ c.index.result c.index.ensures.value c.requires.covered c.index_mut-cell.ensures.value
    _ _ _ c.args.left c.args.right c.join-summary.ensures refl refl)) c.of-cell.ensures
