use Rattle.std.proofs.Common.{◌≤◌}
use Rattle.keyed_tests.proofs.augmented.intervals.plain_count.Given as goal

abbrev pub invariant-loop-index : goal.invariant-loop-index
invariant-loop-index l = record { few : l.count ≤ l.index }
