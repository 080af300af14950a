use Rattle.std.proofs.Common.{◌≡◌, ◌≤◌, take}
use Rattle.ic_workers.specs.SharedOut.{places_in}
use Rattle.ic_workers.specs.Doubles.{times}
use Rattle.ic_workers.proofs.doubled.lists_with.Given as goal

abbrev pub invariant-loop-list : goal.invariant-loop-list
invariant-loop-list g l = record {
  counted : l.count ≡ times (places_in (take l.list-index l.lists)) l.index;
  few : l.count ≤ l.list-index;
}
