-- Laws for callers about the shape of a represented tree and about the length of its paths.
use Rattle.std.proofs.Common.{◌≡◌, ◌+◌, ◌^◌, ◌≤◌, Option, Some, None, List, [], ◌∷◌, length, sym, ◌∙◌, subst, arith, inl, inr}
use Rattle.std.proofs.Math.Nat.{le_trans, le-max_left, le-max_right, pow-le-pow_right}
use Rattle.ic_link_ops.specs.Prelude.{Place, Table, Tree, leaf, fork, top, top_color, IsEven, NoRedPair}
use Rattle.ic_link_ops.specs.declared.color.Color.TheVariants.{Black}
use Rattle.ic_link_ops.specs.RedBlackTree.{Node, IsTree, Holds, Represents}
use Rattle.ic_link_ops.proofs.SequenceLemmas.{none_not, some_same}
use Rattle.ic_rbtree.specs.Height.{height}
use Rattle.ic_rbtree.specs.Members.{IsPathDown}
use Rattle.ic_rbtree.proofs.Heights.{height_few}

module _ {E : Type 0} (n : E → Node) where
  -- THE SHAPE of a tree, as three facts with names: the root is black, no red member has a red child, and all paths down have equally many black members
  pub record HasShape (t : Table E) (root : Option Place) (s : List Place) : Type 0 where
    pub tree : Tree
    pub held : Holds n t tree s
    pub starts : root ≡ top tree
    pub the_root_is_black : top_color tree ≡ Black
    pub no_red_child_of_a_red_member : NoRedPair tree
    pub equally_many_black_members : IsEven tree

  pub shape : {t : Table E} {root : Option Place} {s : List Place} → Represents n t root s → HasShape t root s
  shape h = record {
    tree = h.tree;
    held = h.held;
    starts = h.starts;
    the_root_is_black = h.shape.black_root;
    no_red_child_of_a_red_member = h.shape.no_red_pair;
    equally_many_black_members = h.shape.even;
  }

  -- the number of members on a path down is at most the height of the tree
  path_in_height : (t : Table E) (up o : Option Place) (tree : Tree) (path : List Place) → IsTree n t.entry up tree → o ≡ top tree → IsPathDown n t o path → length path ≤ height tree
  path_in_height t up o tree [] h is down = omega arith
  path_in_height t up o leaf (p ∷ path) h is down = absurd (none_not p (sym is ∙ down.0))
  path_in_height t up o (fork c a q b) (p ∷ path) h is down =
      let same : q ≡ p = some_same (sym is ∙ down.0) in
      elim down.1 [
        | inl left ↦
            let l : (n (t.entry p)).left ≡ top a = subst (λ (z : Place). (n (t.entry z)).left ≡ top a) same h.0.left in
            omega (arith, path_in_height t (Some q) (n (t.entry p)).left a path h.1 l left, le-max_left (height a) (height b))
        | inr right ↦
            let r : (n (t.entry p)).right ≡ top b = subst (λ (z : Place). (n (t.entry z)).right ≡ top b) same h.0.right in
            omega (arith, path_in_height t (Some q) (n (t.entry p)).right b path h.2 r right, le-max_right (height a) (height b))
      ]

  -- PATHS ARE SHORT: a path of v members from the root down, in a tree of m members, has 2 ^ v <= (m + 1) ^ 2
  pub paths_are_short : {t : Table E} {root : Option Place} {s : List Place} (path : List Place) → Represents n t root s → IsPathDown n t root path → 2 ^ length path ≤ (length s + 1) ^ 2
  paths_are_short {t} {root} {s} path h down =
      let low : 2 ^ height h.tree ≤ (length s + 1) ^ 2 = subst (λ (z : List Place). 2 ^ height h.tree ≤ (length z + 1) ^ 2) h.held.order (height_few h.tree h.shape) in
      le_trans (pow-le-pow_right (omega arith) (path_in_height t None root h.tree path h.held.entries h.starts down)) low
