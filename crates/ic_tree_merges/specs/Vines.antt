-- A vine is a tree in which each member is the right child of the member before it. These definitions describe the private calls that merge and split
-- vines.
use Rattle.std.specs.Prelude.{◌≡◌, ℕ, Bool, true, false, not, Option, Some, None, List, ◌++◌}
use Rattle.std.specs.Ordering.{is_lt}
use Rattle.std.specs.declared.cmp.Ordering.{Ordering}
use Rattle.std.specs.declared.cmp.Ordering.TheVariants.{Less}
use Rattle.ic_link_ops.specs.Prelude.{Place, Objects, IsAbsent, first, Table, ArePlaced, Ends, list_head, Node}
use Rattle.ic_rbtree.specs.Vines.{IsVine, RepresentsVine}
use Rattle.ic_tree_merges.specs.TwoTrees.{MergesTo, PartsTo}
use Rattle.ic_tree_merges.specs.declared.vine.Vine.{Vine}

-- the ends of a vine, which are its first and its last member
abbrev pub ends_of : Vine → Ends
ends_of v = list_head v.first v.last

-- whether a merge takes the left of two members next: it does so if the right member is not less or is missing
abbrev pub takes_left : (Place → Place → Ordering) → Option Place → Option Place → Bool
takes_left cmp (Some p) (Some q) = not (is_lt (cmp q p))
takes_left cmp (Some p) None = true
takes_left cmp None (Some q) = false
takes_left cmp None None = true

-- how many comparisons a merge makes to choose between two members: one if there are both, and otherwise none
abbrev pub looks_between : Option Place → Option Place → ℕ
looks_between (Some p) (Some q) = 1
looks_between (Some p) None = 0
looks_between None other = 0

-- how the place p compares with another place, or `Less` if there is no other place
abbrev pub standing : (Place → Place → Ordering) → Place → Option Place → Ordering
standing cmp p None = Less
standing cmp p (Some q) = cmp p q

module _ {E : Type 0} (n : E → Node) where
  -- A RUN has the members s, which begin with `front`: each is the right child of the member before it, and there is an object at each
  pub record IsRun {V : Type 0} (objects : Objects V) (t : Table E) (front : Option Place) (s : List Place) : Type 0 where
    pub chain : IsVine n t.entry s None
    pub starts : front ≡ first s
    pub placed : ArePlaced objects s

  module _ (cmp : Place → Place → Ordering) (old new : Table E) where
    -- TWO RUNS s and u are merged into a vine, whose members are all in s or in u
    abbrev pub MergesRuns : Ends → List Place → List Place → Type 0
    MergesRuns ends s u = (m : MergesTo (RepresentsVine n) cmp old new ends s u) × ((q : Place) → IsAbsent q (s ++ u) → IsAbsent q m.merged)

    -- A RUN s is split into two vines, whose members are all in s
    abbrev pub PartsRun : Ends → Ends → List Place → List Place → Type 0
    PartsRun common rest s u = (m : PartsTo (RepresentsVine n) cmp old new common rest s u) × ((q : Place) → IsAbsent q s → IsAbsent q (m.common ++ m.rest))
