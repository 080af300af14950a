use Rattle.std.proofs.Common.{◌≡◌, ◌≤◌, List, length}
use Rattle.ic_link_ops.specs.Prelude.{Place, last, releases_each, TraceIs}
use Rattle.ic_link_ops.specs.XorLinkedList.{IsJoined}
use Rattle.ic_link_ops.proofs.Clearing.{Releases}
use Rattle.ic_raw.specs.Words.{is_linked_one}
use Rattle.ic_raw.specs.Singly.{lent_table}
use Rattle.ic_raw.specs.Xor.{Represents, HasNeighbors, OnlyUnlinks}
use Rattle.ic_raw.proofs.xor_list.release_all.Given as goal

-- before each step, only linked places have been unlinked. The members before `at` are unlinked, and there are at most `left` members from `at` on
abbrev pub invariant-loop-left : goal.invariant-loop-left
invariant-loop-left l = record {
  marks : OnlyUnlinks (lent_table l.fn.links) (lent_table l.links);
  released : (s : List Place) → Represents (lent_table l.fn.links) l.fn.list s
      → (k : Releases (IsJoined is_linked_one HasNeighbors) (lent_table l.fn.links) (lent_table l.links) s l.at)
      × (l.prev ≡ last k.done) × TraceIs is_linked_one (lent_table l.fn.links) (lent_table l.links) (releases_each k.done) × (length k.rest ≤ l.left);
}

abbrev pub decreases-loop-left : goal.decreases-loop-left
decreases-loop-left l = l.left
