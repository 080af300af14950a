-- The members of a tree, in the order in which a walk along the entries reaches them.
use Rattle.std.specs.Prelude.{◌≡◌, ◌⊎◌, true, ℕ, zero, suc, cond, Option, Some, None, List, [], ◌∷◌, ◌++◌}
use Rattle.ic_link_ops.specs.Prelude.{Place, first, last, Table, IsCovered, Tree, leaf, fork, in_order, is_end}
use Rattle.ic_link_ops.specs.RedBlackTree.{Node, Represents}

-- the second of two optional places, or the first if the second is none
abbrev pub some_or : Option Place → Option Place → Option Place
some_or o None = o
some_or o (Some q) = Some q

-- the members of a sequence from its start up to the member `tail`, or all members if `tail` is not among them
abbrev pub up_to : Option Place → List Place → List Place
up_to tail [] = []
up_to tail (x ∷ s) = x ∷ cond (is_end tail x) [] (up_to tail s)

-- the members of a sequence from the member `head` to the member `tail`, no members if `head` is none
abbrev pub between : Option Place → Option Place → List Place → List Place
between head tail [] = []
between head tail (x ∷ s) = cond (is_end head x) (up_to tail (x ∷ s)) (between head tail s)

module _ {E : Type 0} (n : E → Node) where
  -- the tree that the entries describe from the place o down, cut off below k levels
  unfoldable pub tree_below : (Place → E) → ℕ → Option Place → Tree
  tree_below entry zero o = leaf
  tree_below entry (suc k) None = leaf
  tree_below entry (suc k) (Some p) =
      fork (n (entry p)).color (tree_below entry k (n (entry p)).left) p (tree_below entry k (n (entry p)).right)

  -- the last place on the path from the place o up along the parents, or the place after k steps if the path is longer
  unfoldable pub top_above : (Place → E) → ℕ → Option Place → Option Place
  top_above entry zero o = o
  top_above entry (suc k) None = None
  top_above entry (suc k) (Some p) = some_or (Some p) (top_above entry k (n (entry p)).parent)

  -- the members of the tree with this root. `tree_below` reads as many levels as the table covers places, and no tree has more levels
  abbrev pub members : Table E → Option Place → List Place
  members t root = in_order (tree_below t.entry t.extent.places root)

  -- the members of the tree in which the place p is
  abbrev pub members_around : Table E → Option Place → List Place
  members_around t p = members t (top_above t.entry t.extent.places p)

  -- q is covered and linked, and has p as a child
  pub record HasChild (t : Table E) (q p : Place) : Type 0 where
    pub covered : IsCovered t q
    pub linked : (n (t.entry q)).linked ≡ true
    pub child : ((n (t.entry q)).left ≡ Some p) ⊎ ((n (t.entry q)).right ≡ Some p)

  -- A PATH DOWN from the place o: the list begins with o, and each member of the list is a child of the member before it
  abbrev pub IsPathDown : Table E → Option Place → List Place → Type 0
  IsPathDown t o [] = Unit {0}
  IsPathDown t o (p ∷ path) = (o ≡ Some p) × (IsPathDown t (n (t.entry p)).left path ⊎ IsPathDown t (n (t.entry p)).right path)

  -- the members w are consecutive in the tree, and `head` and `tail` are the first and the last member of w (none if w is empty)
  pub record IsWalk (t : Table E) (root head tail : Option Place) (w : List Place) : Type 0 where
    pub front : List Place
    pub back : List Place
    pub shown : Represents n t root (front ++ (w ++ back))
    pub starts : head ≡ first w
    pub ends : tail ≡ last w
