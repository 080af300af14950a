use Rattle.std.proofs.Common.{◌≡◌, ◌≤◌}
use Rattle.ic_workers.specs.SharedOut.{places_in}
use Rattle.ic_workers.specs.Doubles.{doubles_below}
use Rattle.ic_workers.proofs.doubled.doubles.Given as goal

abbrev pub invariant-loop-index : goal.invariant-loop-index
invariant-loop-index g l = record {
  counted : l.found ≡ doubles_below l.index (places_in l.lists);
  few : l.found ≤ l.index;
}
