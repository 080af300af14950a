use Rattle.std.proofs.Common.{◌≤◌, ◌-◌, length}
use Rattle.ic_raw.specs.Tables.{raw_entries}
use Rattle.ic_raw.proofs.HashChecks.{ChecksOwn}
use Rattle.ic_raw.proofs.check_calls.all_members.Given as goal

-- before each step, the chains in the buckets before the number `at` are checked, and `members` is the number of their members
abbrev pub invariant-loop-at : goal.invariant-loop-at
invariant-loop-at l = record {
  checks : ChecksOwn (raw_entries l.fn.links) l.fn.hashes l.fn.buckets l.at l.members;
  in_bounds : l.at ≤ length l.fn.buckets;
}

abbrev pub decreases-loop-at : goal.decreases-loop-at
decreases-loop-at l = length l.fn.buckets - l.at
