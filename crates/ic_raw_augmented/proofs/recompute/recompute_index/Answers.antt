use Rattle.std.proofs.Common.{◌+◌}
use Rattle.ic_link_ops.proofs.Walks.{is_end_no}
use Rattle.ic_raw_augmented.specs.Sums.{is_from}
use Rattle.ic_raw_augmented.proofs.Recomputing.{also_off, from_next}
use Rattle.ic_raw_augmented.proofs.recompute.recompute_index.Goals as goal

pub returns-clause-right : goal.returns-clause-right
returns-clause-right c root s shown right =
    c.recompute_from.ensures.right root s (is_from (c.args.index + 1)) shown (λ q m off.
    let beside = also_off c.place_at.result (is_from (c.args.index + 1)) q off in
    right q m (from_next c.args.index q beside.1 (λ e. is_end_no c.place_at.result q beside.0 (c.place_at.ensures q e))))
