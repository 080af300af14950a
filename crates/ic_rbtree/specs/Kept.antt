-- What a tree stores of its members: its root, and in one kind of tree also its first and its last member.
use Rattle.std.specs.Prelude.{◌≡◌, ℕ, ◌+◌, true, cond, Option, None, Some, List, []}
use Rattle.std.specs.declared.cmp.Ordering.{Ordering}
use Rattle.ic_link_ops.specs.Prelude.{Place, Objects, Cut, first, last, Table, is_end}
use Rattle.ic_link_ops.specs.declared.side.Side.{Side}
use Rattle.ic_link_ops.specs.declared.side.Side.TheVariants.{Left, Right}
use Rattle.ic_link_ops.specs.RedBlackTree.{Node, Represents, RepresentsSome}
use Rattle.ic_rbtree.specs.Comparing.{HasRoom, WithinComparisonBound, Looks, compared}
use Rattle.ic_rbtree.specs.Ends.{end_on}
use Rattle.ic_rbtree.specs.InsertPositions.{after_there}
use Rattle.ic_rbtree.specs.Insertion.{are_across}
use Rattle.ic_rbtree.specs.Sides.{IsBeside}

-- a head that stores the root, the first member and the last member of a tree, or none for each in an empty tree
pub record RootAndEnds : Type 0 where
  pub root : Option Place
  pub front : Option Place
  pub back : Option Place

-- the head of a tree with no member, if the tree stores its ends: the root and both ends are none
abbrev pub no_ends : RootAndEnds
no_ends = record { root = None; front = None; back = None }

-- WHAT A TREE STORES: its root alone, or its root and its two ends, which are the first and the last member
pub data Kept : Type 0 where
  alone : Option Place → Kept
  ended : RootAndEnds → Kept

abbrev pub root_kept : Kept → Option Place
root_kept (alone root) = root
root_kept (ended h) = h.root

-- the last member, if it is stored
abbrev pub last_kept : Kept → Option Place
last_kept (alone root) = None
last_kept (ended h) = h.back

-- the stored ends, if any, are right: they are the first and the last member of s
abbrev pub TellsEnds : Kept → List Place → Type 0
TellsEnds (alone root) s = Unit {0}
TellsEnds (ended h) s = (h.front ≡ first s) × (h.back ≡ last s)

-- the head is that of a tree with no member: the root is none, and so are the ends if they are stored
abbrev pub IsEmptied : Kept → Type 0
IsEmptied (alone root) = root ≡ None
IsEmptied (ended h) = h ≡ no_ends

module _ {E : Type 0} (n : E → Node) where
  -- THE TABLE REPRESENTS s for a head h that stores ends: the table t represents s for the root of h. The ends of h are the first and the last member of s
  pub record RepresentsWithEnds (t : Table E) (h : RootAndEnds) (s : List Place) : Type 0 where
    pub shown : Represents n t h.root s
    pub front_is : h.front ≡ first s
    pub back_is : h.back ≡ last s

  -- THE TABLE REPRESENTS s for a tree that stores its root alone, or for a tree that also stores its ends
  abbrev pub RepresentsFor : Table E → Kept → List Place → Type 0
  RepresentsFor t (alone root) = Represents n t root
  RepresentsFor t (ended h) = RepresentsWithEnds t h

  -- `end` is the outermost member of the tree on side d. If the tree stores its ends, `end` is the stored one. Otherwise `end` is the outermost member of the
  -- sequence that the table represents
  abbrev pub EndIs : Side → Table E → Kept → Option Place → Type 0
  EndIs d t (alone root) end = (s : List Place) → Represents n t root s → end ≡ end_on d s
  EndIs Left t (ended h) end = end ≡ h.front
  EndIs Right t (ended h) end = end ≡ h.back

  -- a call can find the ends of the tree, because the ends are stored, or because the table represents the tree
  abbrev pub HasEnds : Table E → Kept → Type 0
  HasEnds t (alone root) = RepresentsSome n t root
  HasEnds t (ended h) = Unit {0}

-- `kept` says of a head what it stores: the root alone, or the root and the ends
module _ {H E : Type 0} (kept : H → Kept) (n : E → Node) where
  -- THE TABLE t REPRESENTS s for the tree with the head `head`
  abbrev pub RepresentsKept : Table E → H → List Place → Type 0
  RepresentsKept t head = RepresentsFor n t (kept head)

  -- the table t represents some sequence for the tree with the head `head`
  abbrev pub RepresentsKeptSome : Table E → H → Type 0
  RepresentsKeptSome t head = (s : List Place) × RepresentsKept t head s

-- the gap is on side `below` of the member q, or if there is no member q, it is the only gap of a tree without members
abbrev pub IsBelow : Option Place → Side → Cut → Type 0
IsBelow None below gap = (gap.front ≡ []) × (gap.back ≡ [])
IsBelow (Some q) below gap = IsBeside below gap (Some q)

-- the end on side d after p is inserted on side `below` of the member q, or into an empty tree. In a tree with members, p is the new end only if q was the
-- end and `below` is side d
abbrev pub end_with : Side → Option Place → Side → Place → Option Place → Option Place
end_with d None below p end = Some p
end_with d (Some q) below p end = cond (are_across d below) end (cond (is_end end q) (Some p) end)

-- the end of a tree after p has replaced the member `out`: p if `out` was the end, otherwise the old end
abbrev pub end_for : Place → Place → Option Place → Option Place
end_for out p end = cond (is_end end out) (Some p) end

-- a probe that has made `count` comparisons can count the comparisons of one descent without an overflow, and one comparison more if the tree stores its
-- ends
abbrev pub HasRoomFor : Kept → ℕ → Type 0
HasRoomFor (alone root) count = HasRoom count
HasRoomFor (ended h) count = HasRoom (count + 1)

module _ {P V : Type 0} (order : P → V → Ordering) (count : P → ℕ) where
  -- THE COMPARISONS OF ONE INSERT that compares the last member first: their number is always within the bound of one descent. It is one if the searched key is
  -- not less than the last member. The probe compares as it did before the insert
  pub record EndLooks (objects : Objects V) (old new : P) (s : List Place) : Type 0 where
    pub looks : ℕ
    pub counted : count new ≡ count old + looks
    pub few : WithinComparisonBound looks s
    pub at_last : after_there (compared (order old) objects) (last s) ≡ true → looks ≡ 1
    pub order_is : order new ≡ order old

  -- one insert makes as many comparisons as `Looks` states if the tree stores its root alone, and as many as `EndLooks` states if the tree stores its ends
  abbrev pub InsertLooks : Kept → Objects V → P → P → List Place → Type 0
  InsertLooks (alone root) objects = Looks order count
  InsertLooks (ended h) objects = EndLooks objects
