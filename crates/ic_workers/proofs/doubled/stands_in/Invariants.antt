use Rattle.std.proofs.Common.{◌≡◌, ◌≤◌, ◌-◌, false, length, take, drop}
use Rattle.ic_workers.specs.SharedOut.{has}
use Rattle.ic_workers.proofs.doubled.stands_in.Given as goal

-- no place of the list before position `low` or from position `high` on has the index
abbrev pub invariant-loop-low : goal.invariant-loop-low
invariant-loop-low l = record {
  order : l.low ≤ l.high;
  inside : l.high ≤ length l.list;
  front : has (take l.low l.list) l.index ≡ false;
  back : has (drop l.high l.list) l.index ≡ false;
}

abbrev pub decreases-loop-low : goal.decreases-loop-low
decreases-loop-low l = l.high - l.low
