use Rattle.std.proofs.Common.{◌≡◌, vec_len}
use Rattle.ic_workers.specs.Claimed.{IsRow}
use Rattle.ic_workers.proofs.sharing.first_places.Given as goal

abbrev pub invariant-loop-index : goal.invariant-loop-index
invariant-loop-index g l = record {
  row : IsRow 0 l.places.items;
  count : vec_len l.places ≡ l.index;
}
