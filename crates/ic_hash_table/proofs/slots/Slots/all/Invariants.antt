use Rattle.std.proofs.Common.{◌≡◌, ◌+◌, ◌^◌, ◌<◌, ◌-◌, ◌*◌, ℕ}
use Rattle.ic_hash_table.proofs.slots.Slots.all.Given as goal

-- more than half of the numbers within the mask are below `count`, and the mask is a power of 2 minus one
abbrev pub invariant-loop-mask : goal.invariant-loop-mask
invariant-loop-mask l = record {
  half : l.mask + 1 < 2 * l.fn.count;
  bits : (k : ℕ) × (l.mask + 1 ≡ 2 ^ k);
}

abbrev pub decreases-loop-mask : goal.decreases-loop-mask
decreases-loop-mask l = l.fn.count - l.mask
