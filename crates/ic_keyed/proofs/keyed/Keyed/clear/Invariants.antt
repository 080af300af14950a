use Rattle.std.proofs.Common.{◌≡◌, ◌+◌, length}
use Rattle.ic_keyed.proofs.keyed.Keyed.clear.Given as goal

abbrev pub invariant-loop-popped : goal.invariant-loop-popped
invariant-loop-popped g l = record {
  parts : l.self.parts ≡ l.fn.self.parts;
  count : length l.self.values + l._popped ≡ length l.fn.self.values;
}
