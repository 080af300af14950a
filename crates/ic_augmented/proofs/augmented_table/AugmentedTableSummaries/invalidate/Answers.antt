use Rattle.std.proofs.Common.{refl, rules, ◌<◌, length}
use Rattle.ic_unsafe_ref.specs.Places.{index_of}
use Rattle.ic_augmented.proofs.AugmentedTableLemmas.{cell_invalidates}
use Rattle.ic_augmented.proofs.augmented_table.AugmentedTableSummaries.invalidate.Goals as goal

pub returns-then-index-len-clause-invalidated : goal.returns-then-index-len-clause-invalidated
returns-then-index-len-clause-invalidated g c =
    let covered : index_of c.args.place < length c.args.self.now.cells.items = search rules in
    cell_invalidates g.V.Summarize.join g.V.Summarize.initial c.args.self.now.cells.items c.args.place c.index_mut-cell.result.now _ _ c.index-index.result c.index-index.ensures.value covered c.index_mut-cell.ensures.value refl refl refl
