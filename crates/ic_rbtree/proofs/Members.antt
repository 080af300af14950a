-- The members that are reached along the entries of a tree are the sequence that the table represents for it.
use Rattle.std.proofs.Common.{◌≡◌, ℕ, suc, zero, ◌+◌, ◌≤◌, Bool, true, Option, Some, None, List, [], ◌∷◌, ◌++◌, length, refl, sym, ap, ◌∙◌, subst, arith, length-append}
use Rattle.ic_link_ops.specs.Prelude.{Place, first, Table, IsCovered, IsLinked, Tree, leaf, fork, top, in_order}
use Rattle.ic_link_ops.specs.RedBlackTree.{Node, IsTree, Holds, Represents, RepresentsEnds}
use Rattle.ic_link_ops.specs.Frames.{Frame, frame, plug, above, topmost, IsAround}
use Rattle.ic_link_ops.proofs.Frames.{focus}
use Rattle.ic_link_ops.proofs.RepresentedTrees.{holds_length, holds_once}
use Rattle.ic_link_ops.proofs.Trees.{leaf_is}
use Rattle.ic_rbtree.specs.Members.{some_or, tree_below, top_above, members, members_around}
use Rattle.ic_rbtree.specs.Pieces.{ClimbState}
use Rattle.ic_rbtree.proofs.Branches.{side_up}
use Rattle.ic_rbtree.proofs.ParentClimbs.{length_frames}
use Rattle.ic_rbtree.proofs.Removing.{go_into}

topmost_some : (fs : List Frame) (q p : Place) → some_or (Some p) (topmost fs (Some q)) ≡ topmost fs (Some q)
topmost_some [] q p = refl
topmost_some (frame d c r b ∷ fs) q p = topmost_some fs r p

length_fork : (a : Tree) (p : Place) (b : Tree) → length (in_order a) + length (in_order b) + 1 ≡ length (in_order a ++ p ∷ in_order b)
length_fork a p b = omega (arith, length-append (in_order a) (p ∷ in_order b))

-- a table covers each place that is linked according to the node of its entry
pub nodes_covered : {L E : Type 0} {linked : E → Bool} (n : E → Node) (table : L → Table E) → ((t : L) (q : Place) → IsLinked linked (table t) q → IsCovered (table t) q)
    → ((e : E) → (n e).linked ≡ linked e) → (t : L) (q : Place) → (n ((table t).entry q)).linked ≡ true → IsCovered (table t) q
nodes_covered n table covered alike t q h = covered t q (sym (alike _) ∙ h)

module _ {E : Type 0} (n : E → Node) where
  -- a tree in the table is a piece of the table, without frames above it and without other pieces
  pub stands_of : {v : Table E} {tree : Tree} {s : List Place} → Holds n v tree s → ClimbState n v v (top tree) [] tree []
  stands_of h = record {
    are = ((tt, refl), (h.entries, tt));
    once = λ q. omega (arith, holds_once h q);
    beside = λ q none. refl;
    linked = λ q. refl;
    extent = refl;
  }

  -- if a tree has at most k members, `tree_below` reads the same tree from the entries at and below its root
  tree_read : (entry : Place → E) (up : Option Place) (t : Tree) (k : ℕ) → IsTree n entry up t → length (in_order t) ≤ k → tree_below n entry k (top t) ≡ t
  unfolding tree_below
  tree_read entry up leaf zero h fits = refl
  tree_read entry up leaf (suc k) h fits = refl
  tree_read entry up (fork c a p b) zero h fits = absurd (omega (arith, length_fork a p b))
  tree_read entry up (fork c a p b) (suc k) h fits =
      let left : tree_below n entry k ((n (entry p)).left) ≡ a =
      ap (tree_below n entry k) h.0.left ∙ tree_read entry (Some p) a k h.1 (omega (arith, length_fork a p b)) in
      let right : tree_below n entry k ((n (entry p)).right) ≡ b =
      ap (tree_below n entry k) h.0.right ∙ tree_read entry (Some p) b k h.2 (omega (arith, length_fork a p b)) in
      let color : (n (entry p)).color ≡ c = h.0.color in
      λ i. fork (color i) (left i) p (right i)

  top_none : (entry : Place → E) (k : ℕ) → top_above n entry k None ≡ None
  unfolding top_above
  top_none entry zero = refl
  top_none entry (suc k) = refl

  -- the path along the parents leads from a member up to the root
  above_read : (entry : Place → E) (fs : List Frame) (o : Option Place) (p : Place) (k : ℕ) → IsAround n entry fs o → length fs ≤ k
      → some_or (Some p) (top_above n entry k (above fs)) ≡ topmost fs (Some p)
  unfolding top_above
  above_read entry [] o p k h fits = ap (some_or (Some p)) (top_none entry k)
  above_read entry (frame d c q b ∷ fs) o p zero h fits = absurd (omega arith)
  above_read entry (frame d c q b ∷ fs) o p (suc k) h fits =
      let up : (n (entry q)).parent ≡ above fs = side_up n entry d q c o (top b) (above fs) h.0 in
      ap (λ (x : Option Place). some_or (Some p) (some_or (Some q) (top_above n entry k x))) up
      ∙ ap (some_or (Some p)) (above_read entry fs (Some q) q k h.2 (omega arith)) ∙ topmost_some fs q p

  top_read : (entry : Place → E) (fs : List Frame) (o : Option Place) (p : Place) (k : ℕ) → (n (entry p)).parent ≡ above fs → IsAround n entry fs o → suc (length fs) ≤ k
      → top_above n entry k (Some p) ≡ topmost fs (Some p)
  unfolding top_above
  top_read entry fs o p zero up h fits = absurd (omega arith)
  top_read entry fs o p (suc k) up h fits =
      ap (λ (x : Option Place). some_or (Some p) (top_above n entry k x)) up ∙ above_read entry fs o p k h (omega arith)

  -- the lemmas are about a table t in which only covered places are linked
  module _ (t : Table E) (law : (q : Place) → (n (t.entry q)).linked ≡ true → IsCovered t q) where
    pub members_held : {tree : Tree} {s : List Place} → Holds n t tree s → members n t (top tree) ≡ s
    members_held {tree} {s} h =
        let few : length s ≤ t.extent.places = holds_length t law h in
        let fits : length (in_order tree) ≤ t.extent.places = rw h.order few in
        ap in_order (tree_read t.entry None tree t.extent.places h.entries fits) ∙ h.order

    around_held : (tree : Tree) (s : List Place) → Holds n t tree s → members_around n t (first s) ≡ s
    around_held tree [] h = ap (members n t) (top_none t.entry t.extent.places ∙ sym (ap top (leaf_is tree h.order))) ∙ members_held h
    around_held tree (x ∷ s) h =
        let f = focus tree [] [] x s h.order in
        let st = go_into n (top tree) f.0 (fork f.1 f.2 x f.3) [] (subst (λ (y : Tree). ClimbState n t t (top tree) [] y []) (sym f.4) (stands_of h)) in
        let few : length (x ∷ s) ≤ t.extent.places = holds_length t law h in
        let all : length (in_order (plug f.0 (fork f.1 f.2 x f.3))) ≡ length (x ∷ s) = ap (λ (y : Tree). length (in_order y)) f.4 ∙ ap length h.order in
        let fits : suc (length f.0) ≤ t.extent.places =
        omega (arith, all, length_frames f.0 (fork f.1 f.2 x f.3), length_fork f.2 x f.3) in
        let root : top_above n t.entry t.extent.places (Some x) ≡ top tree =
        top_read t.entry f.0 (Some x) x t.extent.places st.are.1.0.0.parent st.are.0.0 fits ∙ sym st.are.0.1 in
        ap (members n t) root ∙ members_held h

    -- if the table represents s between the ends `front` and `back`, the members of the tree in which `front` is are s
    pub members_between_ends : (front back : Option Place) (s : List Place) → RepresentsEnds n t front back s → members_around n t front ≡ s
    members_between_ends front back s h = ap (members_around n t) h.starts ∙ around_held h.tree s h.held

-- THE MEMBERS that are reached from the root of a tree are the sequence that the table represents for the tree
pub members_represented : {E : Type 0} {n : E → Node} (t : Table E) → ((q : Place) → (n (t.entry q)).linked ≡ true → IsCovered t q)
    → (root : Option Place) (s : List Place) → Represents n t root s → members n t root ≡ s
members_represented {n = n} t law root s h = ap (members n t) h.starts ∙ members_held n t law h.held
