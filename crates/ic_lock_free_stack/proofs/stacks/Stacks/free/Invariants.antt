use Rattle.std.proofs.Common.{◌≡◌, ℕ, ◌+◌, ◌<◌, ◌≤◌, length, get_or}
use Rattle.ic_lock_free_stack.proofs.stacks.Stacks.free.Given as goal

abbrev pub invariant-loop-i : goal.invariant-loop-i
invariant-loop-i g l = record {
  long : length l.words.items ≡ l.places + l.stacks;
  zeros : (j : ℕ) → j < l.places → get_or l.words.items j 0 ≡ 0;
  ones : (j : ℕ) → l.places ≤ j → j < l.i → get_or l.words.items j 0 ≡ 1;
}
