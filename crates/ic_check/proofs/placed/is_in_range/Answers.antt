use Rattle.std.proofs.Common.{refl}
use Rattle.ic_check.proofs.HashTables.{placed_exactly}
use Rattle.ic_check.proofs.placed.is_in_range.Goals as goal

pub returns : goal.returns
returns g c = placed_exactly c.args.values.now c.args.place c.index.ensures.value refl
