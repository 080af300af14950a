-- The links that a step of a tree follows depend only on the words. A step in a view is therefore a step in the words that the caller lent.
use Rattle.std.proofs.Common.{◌≡◌, ℕ, List, [], ◌∷◌, Option, Some}
use Rattle.ic_unsafe_ref.specs.declared.place.Place.{Place}
use Rattle.ic_link_ops.specs.declared.side.Side.{Side}
use Rattle.ic_raw.specs.declared.table.RawTable.{RawTable}
use Rattle.ic_raw.specs.declared.words.RawThree.{RawThree}
use Rattle.ic_raw.specs.Seen.{HandsOutStep, StepEndsIn}
use Rattle.ic_raw.specs.Tables.{raw_entries}
use Rattle.ic_raw.specs.Tree.{table_of, lent_table}
use Rattle.ic_raw.specs.TreeShape.{LeadsThrough, LeadsToEnd}

-- if a step finds a place in a view, or finds none, it does so in the words that the caller lent
pub step_back : (t : RawTable RawThree) {es : List RawThree} (root at : Option Place) (side : Side) (number : ℕ) → raw_entries t ≡ es
    → HandsOutStep (lent_table t) root side at number → HandsOutStep (table_of es) root side at number
step_back t root at side number view out =
    let back : HandsOutStep (table_of (raw_entries t)) root side at number = out in rw (← view) back

pub end_back : (t : RawTable RawThree) {es : List RawThree} (root at : Option Place) (side : Side) → raw_entries t ≡ es
    → StepEndsIn (lent_table t) root side at → StepEndsIn (table_of es) root side at
end_back t root at side view ends = let back : StepEndsIn (table_of (raw_entries t)) root side at = ends in rw (← view) back

-- if steps lead to an end in a view, they lead to an end in the words that the caller lent
through : (t : RawTable RawThree) (root at : Option Place) (s : List Place) → LeadsThrough (lent_table t) root at s → LeadsThrough (table_of (raw_entries t)) root at s
through t root at [] h = h
through t root at (x ∷ s) h = (h.0, h.1, through t root (Some x) s h.2)

pub leads_back : (t : RawTable RawThree) {es : List RawThree} (root at : Option Place) → raw_entries t ≡ es
    → LeadsToEnd (lent_table t) root at → LeadsToEnd (table_of es) root at
leads_back t root at view h =
    let back : LeadsToEnd (table_of (raw_entries t)) root at = (h.0, through t root at h.0 h.1) in rw (← view) back
