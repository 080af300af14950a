use Rattle.std.proofs.Common.{◌≡◌, ℕ, ◌<◌, None}
use Rattle.ic_container.specs.ListArray.{list_at}
use Rattle.ic_container.proofs.list_array.first.Given as goal

abbrev pub invariant-loop-list : goal.invariant-loop-list
invariant-loop-list g l = (i : ℕ) → i < l.list-index → (list_at l.array i).head ≡ None
