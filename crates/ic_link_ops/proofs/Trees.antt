-- This file proves facts about trees in a table: which places are their members, what a setter changes, and that there is at most
-- one tree below a root.
use Rattle.std.proofs.Common.{◌≡◌, ◌≢◌, ◌<◌, Option, Some, [], ◌∷◌, true, false, refl, sym, ap, ◌∙◌, subst}
use Rattle.std.specs.List.{AllByRecursion}
use Rattle.ic_link_ops.specs.Base.{Place, index_of, IsAbsent, Table, IsCovered}
use Rattle.ic_link_ops.specs.declared.color.Color.{Color}
use Rattle.ic_link_ops.specs.Trees.{Tree, leaf, fork, top, in_order}
use Rattle.ic_link_ops.specs.RedBlackTree.{Node, IsAt, IsTree}
use Rattle.ic_link_ops.proofs.SequenceLemmas.{absent_left, absent_right, absent_both, none_not, some_same, split_member}
use Rattle.ic_link_ops.proofs.Each.{all_both}

-- A place that is no member of a tree is not its root.
pub top_not : (t : Tree) (q : Place) → IsAbsent q (in_order t) → top t ≢ Some q
top_not leaf q out e = none_not q e
top_not (fork c a p b) q out e = (absent_right q (in_order a) (p ∷ in_order b) out).0 (sym (some_same e))

-- A place that is absent from a tree is not its root and is absent from both of its subtrees.
pub absent_parts : (c : Color) (a : Tree) (p : Place) (b : Tree) (q : Place) → IsAbsent q (in_order (fork c a p b))
    → (q ≢ p) × IsAbsent q (in_order a) × IsAbsent q (in_order b)
absent_parts c a p b q out =
    let k = absent_right q (in_order a) (p ∷ in_order b) out in (k.0, absent_left q (in_order a) (p ∷ in_order b) out, k.1)

-- A tree with no members is a leaf.
pub leaf_is : (t : Tree) → in_order t ≡ [] → t ≡ leaf
leaf_is leaf e = refl
leaf_is (fork c a p b) e = absurd (split_member (in_order a) p (in_order b) (rw e tt))

-- The parts of a linked place with this color, these two children and this parent.
abbrev member : Color → Option Place → Option Place → Option Place → Node
member c a b up = record { linked = true; left = a; right = b; parent = up; color = c }

module _ {E : Type 0} {n : E → Node} {entry : Place → E} {p : Place} {c : Color} {a b up : Option Place} where
  -- A setter computes the parts e of the new entry by the function f from the old entry of p. If p has the color c, the children
  -- a and b and the parent `up`, e is f of these parts.
  at_set : (f : Node → Node) (e : Node) → e ≡ f (n (entry p)) → IsAt n entry p c a b up → e ≡ f (member c a b up)
  at_set f e set h = set ∙ ap f (λ k. record { linked = h.linked k; left = h.left k; right = h.right k; parent = h.parent k; color = h.color k })

  at_is : n (entry p) ≡ member c a b up → IsAt n entry p c a b up
  at_is e = record {
    linked = ap (λ x. x.linked) e;
    left = ap (λ x. x.left) e;
    right = ap (λ x. x.right) e;
    parent = ap (λ x. x.parent) e;
    color = ap (λ x. x.color) e;
  }

module _ {E : Type 0} {n : E → Node} {old new : Place → E} {p : Place} {c : Color} {a b up : Option Place} where
  -- `IsAt` still holds for the same parts if the new entry of p has the parts of the old one. Each setter of one part of an entry
  -- changes this part and keeps the other parts.
  pub at_same : n (new p) ≡ n (old p) → IsAt n old p c a b up → IsAt n new p c a b up
  at_same same h = at_is (at_set (λ e. e) (n (new p)) same h)

  pub at_left : (x : Option Place) → n (new p) ≡ record (n (old p)) { left = x } → IsAt n old p c a b up → IsAt n new p c x b up
  at_left x set h = at_is (at_set (λ e. record e { left = x }) (n (new p)) set h)

  pub at_right : (x : Option Place) → n (new p) ≡ record (n (old p)) { right = x } → IsAt n old p c a b up → IsAt n new p c a x up
  at_right x set h = at_is (at_set (λ e. record e { right = x }) (n (new p)) set h)

  pub at_parent : (x : Option Place) → n (new p) ≡ record (n (old p)) { parent = x } → IsAt n old p c a b up → IsAt n new p c a b x
  at_parent x set h = at_is (at_set (λ e. record e { parent = x }) (n (new p)) set h)

  pub at_color : (x : Color) → n (new p) ≡ record (n (old p)) { color = x } → IsAt n old p c a b up → IsAt n new p x a b up
  at_color x set h = at_is (at_set (λ e. record e { color = x }) (n (new p)) set h)

module _ {E : Type 0} (n : E → Node) where
  -- A linked place has exactly the color, the children and the parent that its entry stores.
  pub at_loose : (entry : Place → E) (p : Place) → (n (entry p)).linked ≡ true
      → IsAt n entry p (n (entry p)).color (n (entry p)).left (n (entry p)).right (n (entry p)).parent
  at_loose entry p h = record { linked = h; left = refl; right = refl; parent = refl; color = refl }

  -- A tree stays if no entry of its members changes.
  pub tree_kept : (old new : Place → E) (up : Option Place) (t : Tree)
      → ((q : Place) → (IsAbsent q (in_order t) → ⊥) → new q ≡ old q) → IsTree n old up t → IsTree n new up t
  tree_kept old new up leaf same h = tt
  tree_kept old new up (fork c a p b) same h = (
    at_same (ap n (same p (λ k. (absent_parts c a p b p k).0 refl))) h.0,
    tree_kept old new (Some p) a (λ q m. same q (λ k. m (absent_parts c a p b q k).1)) h.1,
    tree_kept old new (Some p) b (λ q m. same q (λ k. m (absent_parts c a p b q k).2)) h.2,
  )

  -- A place that is not linked is no member of a tree.
  pub tree_absent : (entry : Place → E) (up : Option Place) (t : Tree) (q : Place)
      → IsTree n entry up t → (n (entry q)).linked ≡ false → IsAbsent q (in_order t)
  tree_absent entry up leaf q h free = tt
  tree_absent entry up (fork c a p b) q h free =
      absent_both q (in_order a) (p ∷ in_order b) (tree_absent entry (Some p) a q h.1 free)
      ((λ e. let k : (n (entry q)).linked ≡ true = rw e h.0.linked in cc), tree_absent entry (Some p) b q h.2 free)

  -- The entry of a tree's root names `up`, the place below which the tree is, as the parent.
  pub top_parent : (entry : Place → E) (up : Option Place) (t : Tree) (q : Place) → IsTree n entry up t → top t ≡ Some q → (n (entry q)).parent ≡ up
  top_parent entry up leaf q h e = absurd (none_not q e)
  top_parent entry up (fork c a p b) q h e = rw (← some_same e) h.0.parent

  -- Let `read` return a child or the parent from a place's entry. If r is no member, each place for which `read` returns r is no
  -- member either.
  pub read_absent : (entry : Place → E) (read : Node → Option Place) (r : Place)
      → ((p : Place) (c : Color) (a b up : Option Place) → IsAt n entry p c a b up → a ≢ Some r → b ≢ Some r → up ≢ Some r → read (n (entry p)) ≢ Some r)
      → (up : Option Place) (t : Tree) → IsTree n entry up t → up ≢ Some r → IsAbsent r (in_order t)
      → (q : Place) → read (n (entry q)) ≡ Some r → IsAbsent q (in_order t)
  read_absent entry read r not up leaf h above out q e = tt
  read_absent entry read r not up (fork c a p b) h above out q e =
      let k = absent_parts c a p b r out in
      let below : Some p ≢ Some r = λ i. k.0 (sym (some_same i)) in
      absent_both q (in_order a) (p ∷ in_order b) (read_absent entry read r not (Some p) a h.1 below k.1 q e) (
        (λ i. not p c (top a) (top b) up h.0 (top_not a r k.1) (top_not b r k.2) above (rw i at e)),
        read_absent entry read r not (Some p) b h.2 below k.2 q e,
      )

  -- A table has at most one tree with a given root and a given parent of the root.
  pub one_tree : (entry : Place → E) (up : Option Place) (t t' : Tree) → IsTree n entry up t → IsTree n entry up t' → top t ≡ top t' → t ≡ t'
  one_tree entry up leaf leaf h h' e = refl
  one_tree entry up leaf (fork c a p b) h h' e = absurd (none_not p e)
  one_tree entry up (fork c a p b) leaf h h' e = absurd (none_not p (sym e))
  one_tree entry up (fork c a p b) (fork c' a' p' b') h h' e =
      let same : p' ≡ p = sym (some_same e) in
      let at : IsAt n entry p c' (top a') (top b') up = subst (λ (x : Place). IsAt n entry x c' (top a') (top b') up) same h'.0 in
      let color : c ≡ c' = sym h.0.color ∙ at.color in
      let left : a ≡ a' = one_tree entry (Some p) a a' h.1 (subst (λ (x : Place). IsTree n entry (Some x) a') same h'.1) (sym h.0.left ∙ at.left) in
      let right : b ≡ b' = one_tree entry (Some p) b b' h.2 (subst (λ (x : Place). IsTree n entry (Some x) b') same h'.2) (sym h.0.right ∙ at.right) in
      cc

  -- Each member of a tree is covered by the table, if all linked places are covered.
  pub tree_covered : (t : Table E) → ((q : Place) → (n (t.entry q)).linked ≡ true → IsCovered t q) → (up : Option Place) (tree : Tree)
      → IsTree n t.entry up tree → AllByRecursion (λ q. index_of q < t.extent.places) (in_order tree)
  tree_covered t law up leaf h = tt
  tree_covered t law up (fork c a p b) h =
      all_both (λ q. index_of q < t.extent.places) (in_order a) (p ∷ in_order b) (tree_covered t law (Some p) a h.1)
      (law p h.0.linked, tree_covered t law (Some p) b h.2)
