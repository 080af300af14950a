-- Contracts describe a walk that removes the members of a tree by these definitions.
use Rattle.std.specs.Prelude.{Option, List}
use Rattle.ic_link_ops.specs.Prelude.{Place, Table, LinkStep, Ends, Node}
use Rattle.ic_link_ops.specs.Taking as taking
use Rattle.ic_link_ops.specs.Taking.{Taking}
use Rattle.ic_rbtree.specs.Ends.{RepresentsWithin}
use Rattle.ic_rbtree.specs.Members.{members_around}
use Rattle.ic_rbtree.specs.declared.into_iter.IntoIter.{IntoIter}

-- the state of the walk: the first and the last member that remain, and the table that the walk borrows
abbrev pub rest_of : {A L : Type 0} → IntoIter A L → Taking L Ends
rest_of t = record { head = record { head = t.front; tail = t.back }; links = t.links }

module _ {A L E : Type 0} (n : E → Node) (table : L → Table E) where
  -- w are the members that the walk has not returned yet
  abbrev pub Leaves : IntoIter A L → List Place → Type 0
  Leaves t w = taking.Leaves (RepresentsWithin n) table (rest_of t) w

  -- some sequence of members remains for the walk, maybe the empty one
  abbrev pub CanTake : IntoIter A L → Type 0
  CanTake t = (w : List Place) × Leaves t w

  -- the members that remain for the walk, in their order in the tree
  abbrev pub members_left : IntoIter A L → List Place
  members_left t = members_around n (table t.links.now) t.front

  module _ (Trace : L → L → List LinkStep → Type 0) where
    -- one call changes the walk from the state s to the state t and returns r: the call removes the first remaining member. `TakesLast` states this for the
    -- last remaining member
    abbrev pub TakesFirst : IntoIter A L → Option Place → IntoIter A L → Type 0
    TakesFirst s r t = taking.TakesFirst (RepresentsWithin n) table Trace (rest_of s) r (rest_of t)

    abbrev pub TakesLast : IntoIter A L → Option Place → IntoIter A L → Type 0
    TakesLast s r t = taking.TakesLast (RepresentsWithin n) table Trace (rest_of s) r (rest_of t)
