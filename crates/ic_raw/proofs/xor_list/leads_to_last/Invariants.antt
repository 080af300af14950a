use Rattle.std.proofs.Common.{◌≡◌, ◌≤◌, Some, None, List, length}
use Rattle.ic_link_ops.specs.Prelude.{Place, last, IsStretch}
use Rattle.ic_link_ops.specs.XorLinkedList.{IsJoined}
use Rattle.ic_raw.specs.Words.{is_linked_one}
use Rattle.ic_raw.specs.Singly.{lent_table}
use Rattle.ic_raw.specs.Xor.{Represents, HasNeighbors, LeadsOn, LeadsThrough}
use Rattle.ic_raw.proofs.xor_list.leads_to_last.Given as goal

-- before each step, if the links lead from `at` through a sequence to the end, they lead through a whole list from its first member. In each sequence
-- that the words represent, the remaining members end with the last member, and there are at most `left` of them
abbrev pub invariant-loop-left : goal.invariant-loop-left
invariant-loop-left l = record {
  leads : (s : List Place) → LeadsOn (lent_table l.fn.links).entry l.fn.list.tail l.prev (Some l.at) s → (r : List Place) × LeadsThrough (lent_table l.fn.links) l.fn.list r;
  rest : (s : List Place) → Represents (lent_table l.fn.links) l.fn.list s
      → (w : List Place) × IsStretch (IsJoined is_linked_one HasNeighbors) (lent_table l.fn.links).entry l.prev (Some l.at) (last w) None w × (last s ≡ last w) × (length w ≤ l.left);
}

abbrev pub decreases-loop-left : goal.decreases-loop-left
decreases-loop-left l = l.left
