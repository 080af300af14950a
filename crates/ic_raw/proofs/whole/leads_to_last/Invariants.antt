use Rattle.std.proofs.Common.{◌≡◌, ◌≤◌, Some, None, List, length}
use Rattle.ic_link_ops.specs.Prelude.{Place, last, IsStretch, IsBetween}
use Rattle.ic_raw.specs.Doubly.{Represents}
use Rattle.ic_raw.proofs.DoublyWalks.{LeadsTo}
use Rattle.ic_raw.specs.LinkWords.{lent_table, neighbors}
use Rattle.ic_raw.proofs.LinkViews.{link_words}
use Rattle.ic_raw.proofs.whole.leads_to_last.Given as goal

-- before each step, the links lead from the first member to the place `at`. In each sequence that the words represent, the remaining members end with
-- the last member of the sequence, and there are at most `left` of them
abbrev pub invariant-loop-left : goal.invariant-loop-left
invariant-loop-left g l =
    let words = link_words g.W.Words g.W.NextWord g.W.PrevPlace in record {
      leads : LeadsTo words (lent_table words l.fn.links) l.fn.list l.prev l.at;
      rest : (s : List Place) → Represents words (lent_table words l.fn.links) l.fn.list s
          → (w : List Place) × IsStretch (IsBetween (neighbors words)) (lent_table words l.fn.links).entry l.prev (Some l.at) (last w) None w × (last s ≡ last w) × (length w ≤ l.left);
    }

abbrev pub decreases-loop-left : goal.decreases-loop-left
decreases-loop-left g l = l.left
