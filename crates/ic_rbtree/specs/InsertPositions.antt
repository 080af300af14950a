-- Where an object belongs in a tree, and how many comparisons find the insert position. An insert position is a missing child, where a new member can be
-- inserted.
use Rattle.std.specs.Prelude.{◌≡◌, ℕ, ◌+◌, ◌*◌, ◌^◌, ◌≤◌, Bool, false, not, Option, None, Some, List, length}
use Rattle.std.specs.declared.cmp.Ordering.{Ordering}
use Rattle.ic_link_ops.specs.Prelude.{Place, Objects, Cut, join, IsBefore, Table, Node}
use Rattle.ic_link_ops.specs.declared.side.Side.{Side}
use Rattle.ic_rbtree.specs.Borders.{IsBorder, less_at}
use Rattle.ic_rbtree.specs.Comparing.{compared}
use Rattle.ic_rbtree.specs.Insertion.{IsInsertPos}

-- whether the searched key is less than the member at a position, and false if the position is null
abbrev pub less_there : (Place → Ordering) → Option Place → Bool
less_there at None = false
less_there at (Some p) = less_at at p

-- whether there is a member at the position, and the searched key is not less than the member
abbrev pub after_there : (Place → Ordering) → Option Place → Bool
after_there at None = false
after_there at (Some p) = not (less_at at p)

-- the number of comparisons with the member at a position: one, or zero if there is no member
abbrev pub looks_there : Option Place → ℕ
looks_there None = 0
looks_there (Some p) = 1

module _ {E : Type 0} (n : E → Node) where
  -- THE INSERT POSITION IS WHERE THE SEARCHED KEY BELONGS, at a gap of s. The member before the gap, if any, is at most the key, and the member after the
  -- gap, if any, is greater
  pub record IsInOrder (v : Table E) (at : Place → Ordering) (s : List Place) (parent : Option Place) (d : Side) : Type 0 where
    pub gap : Cut
    pub same : join gap ≡ s
    pub border : IsBorder (less_at at) gap
    pub insert_pos : IsInsertPos n v parent d gap

-- the gap before the member p of s is a border of the test: p passes the test, and the member before p, if any, fails it
pub record BelongsBefore (test : Place → Bool) (p : Place) (s : List Place) : Type 0 where
  pub gap : Cut
  pub same : join gap ≡ s
  pub before : IsBefore gap (Some p)
  pub border : IsBorder test gap

module _ {P V : Type 0} (order : P → V → Ordering) (count : P → ℕ) where
  -- THE COMPARISONS OF ONE INSERT WITH A HINT: their number is at most one more than the bound of a descent allows. It is at most two if the searched key
  -- belongs directly before the hint
  pub record HintedLooks (objects : Objects V) (hint : Place) (old new : P) (s : List Place) : Type 0 where
    pub looks : ℕ
    pub counted : count new ≡ count old + looks
    pub few : 2 ^ looks ≤ 2 * (length s + 1) ^ 2
    pub at_hint : BelongsBefore (less_at (compared (order old) objects)) hint s → looks ≤ 2
    pub order_is : order new ≡ order old
