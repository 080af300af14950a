use Rattle.std.proofs.Common.{◌≡◌, ◌≤◌, Some, List, length}
use Rattle.ic_link_ops.specs.Prelude.{Place, last}
use Rattle.ic_link_ops.specs.SinglyLinkedList.{IsWalk, list_from}
use Rattle.ic_raw.specs.Singly.{LeadsTo, Represents, lent_table, successor}
use Rattle.ic_raw.proofs.stack.last_from.Given as goal

-- before each step, the links lead from the first member to the place `at`. In each sequence that the words represent, the remaining members end with
-- the last member of the sequence, and there are at most `left` of them
abbrev pub invariant-loop-left : goal.invariant-loop-left
invariant-loop-left l = record {
  leads : LeadsTo (lent_table l.fn.links) l.fn.front l.at;
  rest : (s : List Place) → Represents (lent_table l.fn.links) (list_from (Some l.fn.front)) s
      → (w : List Place) × IsWalk successor (lent_table l.fn.links).entry (Some l.at) w × (last s ≡ last w) × (length w ≤ l.left);
}

abbrev pub decreases-loop-left : goal.decreases-loop-left
decreases-loop-left l = l.left
