-- This file proves facts about the trees that a table holds, and about their sequences. A tree keeps its sequence if only entries
-- of other places change. A table represents at most one sequence for a tree.
use Rattle.std.proofs.Common.{◌≡◌, ◌≢◌, ◌≤◌, arith, Bool, true, false, Option, Some, None, List, [], ◌∷◌, length, refl, sym, ap, ◌∙◌}
use Rattle.std.proofs.lemmas.Bool.{true_from_ne_false}
use Rattle.ic_link_ops.specs.Base.{Place, IsAbsent, IsDisjoint, Table, IsCovered, ChangesOnlyIn}
use Rattle.ic_link_ops.specs.declared.color.Color.{Color}
use Rattle.ic_link_ops.specs.Trees.{Tree, leaf, fork, top, in_order}
use Rattle.ic_link_ops.specs.RedBlackTree.{Node, IsAt, Holds, Represents}
use Rattle.ic_link_ops.proofs.SequenceLemmas.{disjoint_sym, none_not}
use Rattle.ic_link_ops.proofs.Trees.{top_not, tree_kept, tree_absent, read_absent, one_tree, tree_covered, leaf_is}
use Rattle.ic_link_ops.proofs.CollectionLaws.{IsKind}
use Rattle.ic_link_ops.proofs.Walks.{pigeonhole}
use Rattle.ic_link_ops.specs.Times.{times, times_in}
use Rattle.ic_link_ops.proofs.Times.{distinct_times, absent_times, times_order}

-- If two sequences s and t share no member, a member of t is no member of s.
outside_of : (q : Place) (s t : List Place) → (IsAbsent q t → ⊥) → IsDisjoint s t → IsAbsent q s
outside_of q [] t m d = tt
outside_of q (x ∷ s) t m d = ((λ e. m (rw e d.0)), outside_of q s t m d.1)

module _ {E : Type 0} {n : E → Node} where
  -- The table still holds a tree if it keeps the entries of the tree's members.
  pub holds_kept : {old new : Table E} {tree : Tree} {s : List Place}
      → Holds n old tree s → ((q : Place) → (IsAbsent q s → ⊥) → new.entry q ≡ old.entry q) → Holds n new tree s
  holds_kept {old} {new} {tree} {s} h same = record {
    order = h.order;
    distinct = h.distinct;
    entries = tree_kept n old.entry new.entry None tree (λ q m. same q (λ k. m (rw h.order k))) h.entries;
  }

  -- The table still holds a tree if only the entry of a place that is no member changes.
  pub holds_beside : {old new : Table E} {tree : Tree} {s : List Place} {p : Place}
      → Holds n old tree s → IsAbsent p s → ((q : Place) → q ≢ p → new.entry q ≡ old.entry q) → Holds n new tree s
  holds_beside {old} {new} {tree} {s} {p} h out same = holds_kept h (λ q m. same q (λ e. m (rw e out)))

  -- The table still holds a tree if only entries at members of s change and s shares no member with the tree.
  pub holds_frame : {old new : Table E} {tree : Tree} {s t : List Place}
      → Holds n old tree t → IsDisjoint t s → ChangesOnlyIn old new s → Holds n new tree t
  holds_frame {old} {new} {tree} {s} {t} h d keeps = holds_kept h (λ q m. keeps.others q (outside_of q s t m (disjoint_sym t s d)))

  -- A place that is not linked is no member of a tree.
  pub holds_absent : {t : Table E} {tree : Tree} {s : List Place} {p : Place}
      → Holds n t tree s → (n (t.entry p)).linked ≡ false → IsAbsent p s
  holds_absent {t} {tree} {s} {p} h free = rw (← h.order) (tree_absent n t.entry None tree p h.entries free)

  -- Each member of a held tree is linked.
  pub holds_linked : {t : Table E} {tree : Tree} {s : List Place} {q : Place}
      → Holds n t tree s → (IsAbsent q s → ⊥) → (n (t.entry q)).linked ≡ true
  holds_linked {t} {tree} {s} {q} h m = true_from_ne_false (n (t.entry q)).linked (λ free. m (holds_absent h free))

  -- The root of a held tree is a member of its sequence.
  pub holds_top : {t : Table E} {tree : Tree} {s : List Place} {q : Place} → Holds n t tree s → top tree ≡ Some q → IsAbsent q s → ⊥
  holds_top {t} {tree} {s} {q} h e out = top_not tree q (rw h.order out) e

  -- The children and the parent of a member are members.
  read_member : {t : Table E} {tree : Tree} {s : List Place} {q r : Place} (read : Node → Option Place)
      → ((p : Place) (c : Color) (a b up : Option Place) → IsAt n t.entry p c a b up → a ≢ Some r → b ≢ Some r → up ≢ Some r → read (n (t.entry p)) ≢ Some r)
      → Holds n t tree s → (IsAbsent q s → ⊥) → read (n (t.entry q)) ≡ Some r → IsAbsent r s → ⊥
  read_member {t} {tree} {s} {q} {r} read not h m e out =
      m (rw (← h.order) (read_absent n t.entry read r not None tree h.entries (none_not r) (rw h.order out) q e))

  pub left_member : {t : Table E} {tree : Tree} {s : List Place} {q r : Place}
      → Holds n t tree s → (IsAbsent q s → ⊥) → (n (t.entry q)).left ≡ Some r → IsAbsent r s → ⊥
  left_member = read_member (λ x. x.left) (λ p c a b up h x y z e. x (sym h.left ∙ e))

  pub right_member : {t : Table E} {tree : Tree} {s : List Place} {q r : Place}
      → Holds n t tree s → (IsAbsent q s → ⊥) → (n (t.entry q)).right ≡ Some r → IsAbsent r s → ⊥
  right_member = read_member (λ x. x.right) (λ p c a b up h x y z e. y (sym h.right ∙ e))

  -- A held tree has at most as many members as the table covers places, if only covered places are linked.
  pub holds_length : (t : Table E) → ((q : Place) → (n (t.entry q)).linked ≡ true → IsCovered t q)
      → {tree : Tree} {s : List Place} → Holds n t tree s → length s ≤ t.extent.places
  holds_length t law {tree} {s} h =
      pigeonhole s t.extent.places h.distinct (rw (← h.order) (tree_covered n t law None tree h.entries))

  -- No place occurs twice in a held tree.
  pub holds_once : {t : Table E} {tree : Tree} {s : List Place} → Holds n t tree s → (q : Place) → times q tree ≤ 1
  holds_once {t} {tree} {s} h q =
      let k : times_in q (in_order tree) ≤ 1 = rw h.order (distinct_times s h.distinct q) in omega (arith, k, times_order q tree)

  -- A place that is absent from the sequence of a held tree does not occur in the tree.
  pub holds_out : {t : Table E} {tree : Tree} {s : List Place} → Holds n t tree s → (q : Place) → IsAbsent q s → times q tree ≡ 0
  holds_out {t} {tree} {s} h q out = sym (times_order q tree) ∙ rw h.order (absent_times q s out)

  -- Every table holds the empty tree.
  pub holds_nothing : (t : Table E) → Holds n t leaf []
  holds_nothing t = record { order = refl; distinct = tt; entries = tt }

  pub represents_nothing : (t : Table E) → Represents n t None []
  represents_nothing t = record { tree = leaf; held = holds_nothing t; starts = refl; shape = record { black_root = refl; no_red_pair = tt; even = tt } }

  -- A tree keeps its represented sequence if the table keeps the entries of its members.
  pub represents_kept : {old new : Table E} {root : Option Place} {s : List Place}
      → Represents n old root s → ((q : Place) → (IsAbsent q s → ⊥) → new.entry q ≡ old.entry q) → Represents n new root s
  represents_kept h same = record { tree = h.tree; held = holds_kept h.held same; starts = h.starts; shape = h.shape }

  -- A tree keeps its sequence if only the entry of a place that is no member changes.
  pub represents_beside : {old new : Table E} {root : Option Place} {s : List Place} {p : Place}
      → Represents n old root s → IsAbsent p s → ((q : Place) → q ≢ p → new.entry q ≡ old.entry q) → Represents n new root s
  represents_beside h out same = record { tree = h.tree; held = holds_beside h.held out same; starts = h.starts; shape = h.shape }

  -- A tree that shares no member with s keeps its sequence if only entries at members of s change.
  pub represents_frame : {old new : Table E} {root : Option Place} {s t : List Place}
      → Represents n old root t → IsDisjoint t s → ChangesOnlyIn old new s → Represents n new root t
  represents_frame h d keeps = record { tree = h.tree; held = holds_frame h.held d keeps; starts = h.starts; shape = h.shape }

  -- A place that is not linked is no member of a tree.
  pub free_absent : {t : Table E} {root : Option Place} {s : List Place} {p : Place}
      → Represents n t root s → (n (t.entry p)).linked ≡ false → IsAbsent p s
  free_absent h free = holds_absent h.held free

  -- The root of a represented tree is a member of the tree's sequence.
  pub root_member : {t : Table E} {root : Option Place} {s : List Place} {q : Place} → Represents n t root s → root ≡ Some q → IsAbsent q s → ⊥
  root_member h e = holds_top h.held (sym h.starts ∙ e)

  -- A represented tree has a root exactly if it has a member.
  pub no_root : {t : Table E} {s : List Place} → Represents n t None s → s ≡ []
  no_root {t} {s} h = none h.tree s h.starts h.held.order where
    none : (tree : Tree) (s : List Place) → None ≡ top tree → in_order tree ≡ s → s ≡ []
    none leaf s e order = sym order
    none (fork c a p b) s e order = absurd (none_not p e)

  pub no_members : {t : Table E} {root : Option Place} → Represents n t root [] → root ≡ None
  no_members {t} {root} h = h.starts ∙ ap top (leaf_is h.tree h.held.order)

  -- A table represents at most one sequence for a tree.
  pub one_sequence : {t : Table E} {root : Option Place} {s s' : List Place} → Represents n t root s → Represents n t root s' → s ≡ s'
  one_sequence {t} {root} {s} {s'} h k =
      sym h.held.order ∙ ap in_order (one_tree n t.entry None h.tree k.tree h.held.entries k.held.entries (sym h.starts ∙ k.starts)) ∙ k.held.order

-- The five facts of `IsKind` hold for red-black trees, if n and `linked` agree on whether the place of an entry is linked.
pub red_black_trees : {E : Type 0} {n : E → Node} {linked : E → Bool} → ((e : E) → (n e).linked ≡ linked e) → IsKind (Represents n) linked None
red_black_trees {n = n} alike = record {
  frame = λ old new root s touched shown apart same. represents_kept shown (λ q m. same q (outside_of q touched s m (disjoint_sym s touched apart)));
  free = λ t root s p shown off. free_absent shown (alike (t.entry p) ∙ off);
  distinct = λ t root s shown. shown.held.distinct;
  nothing = λ t. represents_nothing t;
  one = λ t root s u shown other. one_sequence shown other;
}
