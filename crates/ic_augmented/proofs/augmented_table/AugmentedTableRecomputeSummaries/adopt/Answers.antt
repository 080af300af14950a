use Rattle.std.proofs.Common.{refl}
use Rattle.ic_augmented.proofs.AugmentedTableLemmas.{cell_moves}
use Rattle.ic_augmented.proofs.augmented_table.AugmentedTableRecomputeSummaries.adopt.Goals as goal

pub returns-clause-written : goal.returns-clause-written
returns-clause-written g c =
    cell_moves g.V.Summarize.join g.V.Summarize.initial c.args.self.now.cells.items c.args.place c.index_mut-adopted.result.now _ _ c.index-index.result c.index-index.ensures.value c.requires.covered c.index_mut-adopted.ensures.value c.args.upper refl refl c.of-adopted.ensures
