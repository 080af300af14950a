use Rattle.std.proofs.Common.{◌≡◌, ◌<◌, ℕ, length, slice_index_or, false}
use Rattle.ic_check.proofs.whole.clear.Given as goal

abbrev pub invariant-loop-index : goal.invariant-loop-index
invariant-loop-index l = record {
  long : length l.marks ≡ length l.initial.marks;
  cleared : (j : ℕ) → j < l.index → slice_index_or l.marks j false ≡ false;
}
