-- In a consistent tree each fresh summary is right. Every edit keeps a tree consistent.
use Rattle.std.specs.Prelude.{◌≡◌, ◌≤◌, ℕ, true, Option, Some, None, List, [], ◌∷◌}
use Rattle.ic_link_ops.specs.Prelude.{Place, Table, Tree, leaf, fork, top, times, times_in}
use Rattle.ic_link_ops.specs.Frames.{Frame, frame}
use Rattle.ic_link_ops.specs.RedBlackTree.{Node, Represents}
use Rattle.ic_rbtree.specs.Height.{height}
use Rattle.ic_augmented.specs.Summaries.{Summaries, is_fresh, seen, IsSummed, WritesNoSummary}

module _ {S : Type 0} where
  -- if there is a child, its summary is fresh, and q was its parent when the summary was written
  abbrev pub IsUnder : Summaries S → Place → Option Place → Type 0
  IsUnder z q None = Unit {0}
  IsUnder z q (Some c) = (is_fresh (z.fresh c) ≡ true) × (z.upper c ≡ Some q)

  -- the summary x of the place q is computed from the value of q and from the summaries of its children, which are fresh
  pub record IsJoined (z : Summaries S) (q : Place) (left right : Option Place) (x : S) : Type 0 where
    pub joined : x ≡ z.join q (seen z left) (seen z right)
    pub left_is : IsUnder z q left
    pub right_is : IsUnder z q right

  -- no fresh summary was computed from the summary of q: the parent that is stored with the summary of q has a stale summary, or there is none
  abbrev pub IsBelowStale : Summaries S → Place → Type 0
  IsBelowStale z q = (p : Place) → z.upper q ≡ Some p → z.fresh p ≡ None

  -- the place q has in both states the same summary and the same stored parent
  pub record IsSameAt (z w : Summaries S) (q : Place) : Type 0 where
    pub fresh : w.fresh q ≡ z.fresh q
    pub upper : w.upper q ≡ z.upper q

  -- each fresh summary in the tree is right: it is computed from the present summaries of both subtrees
  abbrev pub IsConsistentTree : Summaries S → Tree → Type 0
  IsConsistentTree z leaf = Unit {0}
  IsConsistentTree z (fork c a p b) = ((x : S) → z.fresh p ≡ Some x → IsJoined z p (top a) (top b) x) × IsConsistentTree z a × IsConsistentTree z b

  -- each fresh summary in both subtrees of the root is right
  abbrev pub IsConsistentBelow : Summaries S → Tree → Type 0
  IsConsistentBelow z leaf = Unit {0}
  IsConsistentBelow z (fork c a p b) = IsConsistentTree z a × IsConsistentTree z b

  -- each fresh summary is right in every tree beside a path from the root
  abbrev pub IsConsistentBeside : Summaries S → List Frame → Type 0
  IsConsistentBeside z [] = Unit {0}
  IsConsistentBeside z (frame d c p b ∷ fs) = IsConsistentTree z b × IsConsistentBeside z fs

  -- from state z to state w nothing outside the tree t has changed. If t was consistent, has no place twice, and is at most `fuel` high, each member of t has
  -- the right summary in state w
  pub record Refreshes (IsConsistent : Summaries S → Tree → Type 0) (z w : Summaries S) (up : Option Place) (t : Tree) (fuel : ℕ) : Type 0 where
    pub frame : (q : Place) → times q t ≡ 0 → IsSameAt z w q
    pub join : w.join ≡ z.join
    pub summed : ((q : Place) → times q t ≤ 1) → IsConsistent z t → height t ≤ fuel → IsSummed w up t

module _ {E S : Type 0} (n : E → Node) where
  -- each fresh summary of a member of s is right, except maybe the one of the place `but`
  abbrev pub IsConsistentBut : Table E → Summaries S → List Place → Option Place → Type 0
  IsConsistentBut v z s but =
      (q : Place) → 1 ≤ times_in q s → (but ≡ Some q → ⊥) → (x : S) → z.fresh q ≡ Some x → IsJoined z q (n (v.entry q)).left (n (v.entry q)).right x

  abbrev pub IsConsistent : Table E → Summaries S → List Place → Type 0
  IsConsistent v z s = IsConsistentBut v z s None

  -- an edit keeps the fresh summaries of every tree right. It writes no summary and may make some stale
  pub record KeepsConsistent (v w : Table E) (z y : Summaries S) : Type 0 where
    pub consistent : (s : List Place) → IsConsistent v z s → IsConsistent w y s
    pub marks : WritesNoSummary z y
    pub join : y.join ≡ z.join

  -- the place `was` may have a wrong summary before the edit, and the place `is` after it. The edit keeps all other fresh summaries right, and writes none
  pub record KeepsEdge (v w : Table E) (z y : Summaries S) (was is : Option Place) : Type 0 where
    pub consistent : (s : List Place) → IsConsistentBut v z s was → IsConsistentBut w y s is
    pub marks : WritesNoSummary z y
    pub join : y.join ≡ z.join

  -- the table represents s as the tree with the root `root`, and each fresh summary of a member is right
  abbrev pub RepresentsConsistent : Summaries S → Table E → Option Place → List Place → Type 0
  RepresentsConsistent z v root s = Represents n v root s × IsConsistent v z s

  -- the table represents s as the tree with the root `root`, and this tree is summed: each member stores the summary of its subtree
  pub record RepresentsAugmented (z : Summaries S) (v : Table E) (root : Option Place) (s : List Place) : Type 0 where
    pub shows : Represents n v root s
    pub summed : IsSummed z None shows.tree
