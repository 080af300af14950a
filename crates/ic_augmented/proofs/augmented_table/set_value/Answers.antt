use Rattle.std.proofs.Common.{◌≡◌, ◌≢◌, ap, arith, refl, sym, ◌∙◌}
use Rattle.ic_link_ops.specs.Times.{times_in}
use Rattle.ic_link_ops.proofs.Prelude.{absent_times, others_same}
use Rattle.ic_rbtree.proofs.RepresentedClosed.{among}
use Rattle.ic_augmented.specs.declared.augmented_table.Cell.{Cell}
use Rattle.ic_augmented.specs.AugmentedTables.{blank, joined_in}
use Rattle.ic_augmented.proofs.BesideLemmas.{written_among, times_among, absent_out}
use Rattle.ic_augmented.proofs.AugmentedTableLemmas.{value_set, same_value}
use Rattle.ic_augmented.proofs.augmented_table.set_value.Goals as goal

pub returns-clause-values : goal.returns-clause-values
returns-clause-values g c q other =
    ap (λ (y : Cell _ _). y.value) (others_same (blank g.V.Summarize.initial) c.invalidate_up.new.summaries.cells.items c.args.place _ c.index.result c.index.ensures.value q other)
    ∙ same_value g.V.Summarize.join g.V.Summarize.initial g.met.V.Summarize.tells c.invalidate_up.new.summaries.cells.items c.args.summed.now.summaries.cells.items c.invalidate_up.ensures.consistent.join q

pub returns-clause-consistent : goal.returns-clause-consistent
returns-clause-consistent g c s h =
    value_set g.V.Summarize.join g.V.Summarize.initial c.invalidate_up.new.summaries.cells.items c.args.place c.index_mut-cell.result.now _ _ c.index.result c.index.ensures.value (c.invalidate_up.ensures.covers c.args.place c.requires.covered) c.index_mut-cell.ensures.value
    g.N.NodeStore.node (g.N.NodeStore.table c.args.summed.now.links) s refl refl c.invalidate_up.ensures.stale (c.invalidate_up.ensures.consistent.consistent s h)

pub returns-clause-same : goal.returns-clause-same
returns-clause-same g c s member within q absent =
    let other : q ≢ c.args.place = λ e. let none : times_in c.args.place s ≡ 0 = rw (sym e) (absent_times q s absent) in omega (arith, member, none) in
    let stays = others_same (blank g.V.Summarize.initial) c.invalidate_up.new.summaries.cells.items c.args.place _ c.index.result c.index.ensures.value q other in
    let stale = c.invalidate_up.ensures.beside (λ x. among x s) (written_among (joined_in g.V.Summarize.join g.V.Summarize.initial c.args.summed.now.summaries.cells.items) s within) (times_among c.args.place s member) q (absent_out q s absent) in
    record { fresh = ap (λ (y : Cell _ _). y.summary) stays ∙ stale.fresh; upper = ap (λ (y : Cell _ _). y.upper) stays ∙ stale.upper }
