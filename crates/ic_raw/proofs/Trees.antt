-- These lemmas compare a tree as its words describe it with the tree as an edit reads the words.
use Rattle.std.proofs.Common.{◌≡◌, ◌≢◌, ℕ, zero, suc, ◌+◌, ◌≤◌, Bool, true, false, cond, nat_lt, Option, Some, None, List, [], ◌∷◌, ◌++◌, refl, sym, ap, ◌∙◌, subst, inl, inr, arith, lt-ltb}
use Rattle.ic_link_ops.specs.Prelude.{Place, index_of, Cut, join, first, last, IsAbsent, Extent, Table, IsCovered, IsLinked, ChangesOnlyIn, Tree, leaf, fork, top, in_order, entry_at, times, times_in, IsTree}
use Rattle.ic_link_ops.proofs.Prelude.{same_or_not, gap_not, none_not, absent_with, absent_both, absent_right, one_at_self, one_at_other, times_order, times_absent}
use Rattle.ic_link_ops.specs.declared.color.Color.{Color}
use Rattle.ic_link_ops.specs.declared.side.Side.{Side}
use Rattle.ic_link_ops.specs.declared.side.Side.TheVariants.{Left, Right}
use Rattle.ic_link_ops.specs.EntryLaws.{linked_in_range}
use Rattle.ic_link_ops.specs.Frames.{child_on}
use Rattle.ic_link_ops.specs.RedBlackTree as trees
use Rattle.ic_link_ops.proofs.RepresentedTrees.{no_members, no_root, root_member, holds_linked, holds_out, represents_kept}
use Rattle.ic_rbtree.specs.Prelude.{IsIn, IsClosed, Piece, ArePieces, Represented, IsBeside}
use Rattle.ic_rbtree.specs.Insertion as insert_positions
use Rattle.ic_rbtree.proofs.Closed.{in_there}
use Rattle.ic_rbtree.proofs.Removing.{represented_of, represents_of}
use Rattle.ic_raw.specs.declared.words.RawThree.{RawThree}
use Rattle.ic_raw.specs.declared.table.RawTable.{RawTable}
use Rattle.ic_raw.specs.Prelude.{IsNoneOrLinked, place_in, no_tree_words, is_linked_three, raw_entries}
use Rattle.ic_raw.specs.Tree.{node, Represents, IsInsertPos, table_of, lent_table}
use Rattle.ic_raw.specs.Seen.{named_within, seen_node, seen, has_place, IsWithin, KeepsMarks}
use Rattle.ic_raw.proofs.Seen.{named_itself}

-- a table still represents a tree if no entry changes
pub kept : (t u : Table RawThree) (root : Option Place) (s : List Place) → Represents t root s → ((q : Place) → u.entry q ≡ t.entry q) → Represents u root s
kept t u root s shown same = represents_kept shown (λ q member. same q)

-- a place beside a gap is a member of the tree, and is linked. At most one place is on each side of a gap
beside_member : (side : Side) (cut : Cut) {at : Option Place} {q : Place} → IsBeside side cut at → at ≡ Some q → IsAbsent q (join cut) → ⊥
beside_member Left cut e is out = (gap_not cut.front cut.back refl e out).1 is
beside_member Right cut e is out = (gap_not cut.front cut.back e refl out).0 is

pub beside_stands : {t : Table RawThree} {root : Option Place} (side : Side) (cut : Cut) → Represents t root (join cut) → {at : Option Place} → IsBeside side cut at → IsNoneOrLinked is_linked_three t at
beside_stands side cut shown e q is = holds_linked shown.held (beside_member side cut e is)

pub one_beside : (side : Side) (cut : Cut) {a b : Option Place} → IsBeside side cut a → IsBeside side cut b → a ≡ b
one_beside Left cut x y = x ∙ sym y
one_beside Right cut x y = x ∙ sym y

-- the root of a tree is none or linked
pub root_stands : {t : Table RawThree} {root : Option Place} {s : List Place} → Represents t root s → IsNoneOrLinked is_linked_three t root
root_stands shown q is = holds_linked shown.held (λ out. root_member shown is out)

-- a tree has a root if it has a member beside a gap
pub beside_rooted : {t : Table RawThree} {root : Option Place} (side : Side) (cut : Cut) → Represents t root (join cut) → {at : Option Place} {q : Place} → IsBeside side cut at → at ≡ Some q → root ≢ None
beside_rooted {t} {root} side cut shown {at} {q} e is none =
    beside_member side cut e is (subst (λ s. IsAbsent q s) (sym (no_root (subst (λ r. Represents t r (join cut)) none shown))) tt)

-- a position for a child on a side of a member is beside this member. If `at` is none, the position is beside none
pub insert_pos_beside : (t : Table RawThree) (side : Side) (at : Option Place) (cut : Cut) → IsInsertPos side t at cut → IsBeside side cut at
insert_pos_beside t Left None cut h = sym (ap first h.1)
insert_pos_beside t Right None cut h = sym (ap last h.0)
insert_pos_beside t side (Some x) cut h = h.1

-- the place at a position for a child is none or linked
pub insert_pos_stands : {t : Table RawThree} {root : Option Place} (side : Side) (at : Option Place) (cut : Cut) → Represents t root (join cut) → IsInsertPos side t at cut → IsNoneOrLinked is_linked_three t at
insert_pos_stands side None cut shown h = λ q e. absurd (none_not q e)
insert_pos_stands side (Some x) cut shown h = beside_stands side cut shown h.1

pub insert_pos_empty : {t : Table RawThree} {root : Option Place} (side : Side) (cut : Cut) → Represents t root (join cut) → IsInsertPos side t None cut → root ≡ None
insert_pos_empty {t} {root} side cut shown h = no_members (subst (λ s. Represents t root s) (ap (λ s. s ++ cut.back) h.0 ∙ h.1) shown)

-- a position for a child in the words that the caller lent is a position for a child in their view
pub insert_pos_viewed : {es : List RawThree} (t : RawTable RawThree) (side : Side) (at : Option Place) (cut : Cut) → raw_entries t ≡ es → IsInsertPos side (table_of es) at cut
    → IsInsertPos side (lent_table t) at cut
insert_pos_viewed t side None cut e h = h
insert_pos_viewed t side (Some q) cut e h = (subst (λ fs. child_on side (node (entry_at no_tree_words fs q)) ≡ None) (sym e) h.0, h.1)

-- if an entry is the same before and after, as an edit reads it, its words are the same
pub frame_told : {t u : Table RawThree} {s : List Place} → ChangesOnlyIn (seen t) (seen u) s → ChangesOnlyIn t u s
frame_told frame = record { extent = frame.extent; others = λ q out. ap (λ e. e.words) (frame.others q out) }

-- AN EDIT READS A PLACE AS ITS WORDS SAY if the place is linked and its words name only places of the table
abbrev pub AreLinked : Table RawThree → Place → Type 0
AreLinked t p = IsLinked is_linked_three t p × IsWithin t p

pub told_kept : {t u : Table RawThree} → KeepsMarks t u → (q : Place) → AreLinked t q → AreLinked u q
told_kept kept q h = (kept.marks q ∙ h.0, kept.names q h.1)

-- NO LINK LEADS OUT OF THE TABLE, as an edit reads the words. Therefore no link leads out of the set of all places of the table
module _ (t : Table RawThree) where
  named_in : (o : Option Place) → IsIn (has_place t) (named_within t.extent.places o)
  named_in None = tt
  named_in (Some q) = pick (has_place t q) refl where
    pick : (b : Bool) → has_place t q ≡ b → IsIn (has_place t) (cond b (Some q) None)
    pick true e = e
    pick false e = tt

  pub child_in : (side : Side) (p : Place) → IsIn (has_place t) (child_on side (seen_node ((seen t).entry p)))
  child_in Left p = named_in (place_in (t.entry p).left)
  child_in Right p = named_in (place_in (t.entry p).right)

  pub closed : (root : Option Place) → IsIn (has_place t) root → IsClosed seen_node (seen t) root (has_place t)
  closed root starts = record {
    linked = λ p has. has;
    left = λ p has out. named_in (place_in (t.entry p).left);
    right = λ p has out. named_in (place_in (t.entry p).right);
    parent = λ p has out. named_in (place_in (t.entry p).parent);
    starts = starts;
  }

  -- a position for a child in the words themselves is a position for a child as an edit reads the words
  pub seen_insert_pos : (side : Side) (at : Option Place) (cut : Cut) → IsInsertPos side t at cut → insert_positions.IsInsertPos seen_node (seen t) at side cut
  seen_insert_pos side None cut h = h
  seen_insert_pos Left (Some q) cut h = (ap (named_within t.extent.places) h.0, h.1)
  seen_insert_pos Right (Some q) cut h = (ap (named_within t.extent.places) h.0, h.1)

-- a place of a table belongs to every table of the same extent
pub in_kept : (t u : Table RawThree) (at : Option Place) → u.extent ≡ t.extent → IsIn (has_place t) at → IsIn (has_place u) at
in_kept t u at e i = subst (λ (x : Extent). IsIn (λ q. nat_lt (index_of q) x.places) at) (sym e) i

-- only places of the table are linked
pub in_range : (t : RawTable RawThree) (q : Place) → is_linked_three ((lent_table t).entry q) ≡ true → IsCovered (lent_table t) q
in_range t q on = linked_in_range is_linked_three no_tree_words refl (raw_entries t) (index_of q) on

-- A TREE THAT THE WORDS DESCRIBE is a tree as an edit reads the words. `law` says that only places of the table are linked
module _ (t : Table RawThree) (law : (q : Place) → is_linked_three (t.entry q) ≡ true → IsCovered t q) where
  pub has : (p : Place) → is_linked_three (t.entry p) ≡ true → has_place t p ≡ true
  has p on = lt-ltb (index_of p) t.extent.places (law p on)

  pub end_in : (at : Option Place) → IsNoneOrLinked is_linked_three t at → IsIn (has_place t) at
  end_in None h = tt
  end_in (Some p) h = has p (h p refl)

  top_in : (up : Option Place) (tree : Tree) → IsTree node t.entry up tree → IsIn (has_place t) (top tree)
  top_in up leaf h = tt
  top_in up (fork c a p b) h = has p h.0.linked

  -- the words of a member name its children and its parent, so that they name only places of the table
  named_as : {o : Option Place} (x : Option Place) → o ≡ x → IsIn (has_place t) x → named_within t.extent.places o ≡ o
  named_as {o} x e h = named_itself t.extent.places o (λ q k. in_there (has_place t) h (sym e ∙ k))

  member_within : (up : Option Place) (c : Color) (a : Tree) (p : Place) (b : Tree) → IsTree node t.entry up (fork c a p b) → IsIn (has_place t) up → IsWithin t p
  member_within up c a p b h i = record {
    left = named_as (top a) h.0.left (top_in (Some p) a h.1);
    right = named_as (top b) h.0.right (top_in (Some p) b h.2);
    parent = named_as up h.0.parent i;
  }

  either : {R : Type 0} (m n : ℕ) → 1 ≤ m + n → (1 ≤ m → R) → (1 ≤ n → R) → R
  either zero n some one other = other (omega (arith, some))
  either (suc m) n some one other = one (omega arith)

  tree_within : (up : Option Place) (tree : Tree) → IsTree node t.entry up tree → IsIn (has_place t) up → (q : Place) → 1 ≤ times q tree → IsWithin t q
  tree_within up leaf h i q some = absurd (omega (arith, some))
  tree_within up (fork c a p b) h i q some =
      let here = has p h.0.linked in elim (same_or_not q p) [
        | inl e ↦ subst (IsWithin t) (sym e) (member_within up c a p b h i)
        | inr n ↦ either (times q a) (times q b) (omega (arith, some, one_at_other q p n)) (λ m. tree_within (Some p) a h.1 here q m) (λ m. tree_within (Some p) b h.2 here q m)
      ]

  pub within : {root : Option Place} {s : List Place} → Represents t root s → (q : Place) → (IsAbsent q s → ⊥) → IsWithin t q
  within {root} {s} shown q member = tree_within None shown.tree shown.held.entries tt q (positive (times q shown.tree) refl) where
    positive : (m : ℕ) → times q shown.tree ≡ m → 1 ≤ times q shown.tree
    positive zero e = absurd (member (times_absent q s (ap (times_in q) (sym shown.held.order) ∙ times_order q shown.tree ∙ e)))
    positive (suc m) e = omega (arith, e)

  -- a position for a child, as an edit reads the words, is a position for a child in the words themselves
  pub insert_pos_told : {root : Option Place} (side : Side) (at : Option Place) (cut : Cut) → Represents t root (join cut) → insert_positions.IsInsertPos seen_node (seen t) at side cut → IsInsertPos side t at cut
  insert_pos_told side None cut shown h = h
  insert_pos_told Left (Some q) cut shown h = (sym (within shown q (beside_member Left cut h.1 refl)).left ∙ h.0, h.1)
  insert_pos_told Right (Some q) cut shown h = (sym (within shown q (beside_member Right cut h.1 refl)).right ∙ h.0, h.1)

  seen_tree : (up : Option Place) (tree : Tree) → IsTree node t.entry up tree → IsIn (has_place t) up → IsTree seen_node (seen t).entry up tree
  seen_tree up leaf h i = tt
  seen_tree up (fork c a p b) h i =
      let here = has p h.0.linked in
      let names = member_within up c a p b h i in (
        record { linked = here; left = names.left ∙ h.0.left; right = names.right ∙ h.0.right; parent = names.parent ∙ h.0.parent; color = h.0.color },
        seen_tree (Some p) a h.1 here,
        seen_tree (Some p) b h.2 here,
      )

  pub seen_represented : {root : Option Place} {s : List Place} (ps : List Piece) → Represented node t t root s ps → ArePieces seen_node (seen t).entry ps
      → Represented seen_node (seen t) (seen t) root s ps
  seen_represented ps h rest = record {
    tree = h.tree;
    stands = record {
      are = ((tt, h.stands.are.0.1), (seen_tree None h.tree h.stands.are.1.0 tt, rest));
      once = h.stands.once;
      beside = λ q none. refl;
      linked = λ q. refl;
      extent = refl;
    };
    order = h.order;
    shape = h.shape;
  }

  pub seen_represents : {root : Option Place} {s : List Place} → Represents t root s → trees.Represents seen_node (seen t) root s
  seen_represents h = represents_of seen_node (seen_represented [] (represented_of node h) tt)

  -- an edit reads each member of a tree as its words say. This also holds of one more place, if it is linked and its words name only places of the
  -- table
  pub members_told : {root : Option Place} {s : List Place} → Represents t root s → (q : Place) → (IsAbsent q s → ⊥) → AreLinked t q
  members_told shown q member = (holds_linked shown.held member, within shown q member)

  pub told_with : {root : Option Place} {s : List Place} (front : List Place) (p : Place) (back : List Place) → Represents t root s → AreLinked t p
      → ((q : Place) → IsAbsent q s → IsAbsent q (front ++ back)) → (q : Place) → (IsAbsent q (front ++ p ∷ back) → ⊥) → AreLinked t q
  told_with front p back shown is among q member = elim (same_or_not q p) [
    | inl e ↦ subst (AreLinked t) (sym e) is
    | inr n ↦ members_told shown q (λ out. member (absent_with front back p q n (among q out)))
  ]

-- A TREE AS AN EDIT READS IT is the tree that the words describe, if an edit reads each member as its words say
module _ (t : Table RawThree) where
  told_tree : (up : Option Place) (tree : Tree) → IsTree seen_node (seen t).entry up tree → ((q : Place) → 1 ≤ times q tree → AreLinked t q) → IsTree node t.entry up tree
  told_tree up leaf h is = tt
  told_tree up (fork c a p b) h is =
      let here = is p (let one = one_at_self p in omega (arith, one)) in (
        record {
          linked = here.0;
          left = sym here.1.left ∙ h.0.left;
          right = sym here.1.right ∙ h.0.right;
          parent = sym here.1.parent ∙ h.0.parent;
          color = h.0.color;
        },
        told_tree (Some p) a h.1 (λ q m. is q (omega (arith, m))),
        told_tree (Some p) b h.2 (λ q m. is q (omega (arith, m))),
      )

  pub links_back : {root : Option Place} {s : List Place} → trees.Represents seen_node (seen t) root s → ((q : Place) → (IsAbsent q s → ⊥) → AreLinked t q) → Represents t root s
  links_back h is = record {
    tree = h.tree;
    held = record {
      order = h.held.order;
      distinct = h.held.distinct;
      entries = told_tree None h.tree h.held.entries (λ q m. is q (λ out. let none = holds_out h.held q out in omega (arith, none, m)));
    };
    starts = h.starts;
    shape = h.shape;
  }

-- A MEMBER THAT NAMES NO PARENT IS THE ROOT, because each other member is below a member that it names as its parent
below_named : (entry : Place → RawThree) (up : Place) (tree : Tree) (p : Place) → IsTree node entry (Some up) tree → (node (entry p)).parent ≡ None → IsAbsent p (in_order tree)
below_named entry up leaf p t none = tt
below_named entry up (fork c a x b) p t none =
    let apart : p ≢ x = λ e. none_not up (sym none ∙ ap (λ q. (node (entry q)).parent) e ∙ t.0.parent) in
    absent_with (in_order a) (in_order b) x p apart (absent_both p (in_order a) (in_order b) (below_named entry x a p t.1 none) (below_named entry x b p t.2 none))

topmost : (entry : Place → RawThree) (tree : Tree) (p : Place) → IsTree node entry None tree → (node (entry p)).parent ≡ None → (IsAbsent p (in_order tree) → ⊥) → top tree ≡ Some p
topmost entry leaf p t none inside = absurd (inside tt)
topmost entry (fork c a x b) p t none inside = elim (same_or_not p x) [
  | inl e ↦ ap Some (sym e)
  | inr apart ↦ absurd (inside (absent_with (in_order a) (in_order b) x p apart (absent_both p (in_order a) (in_order b) (below_named entry x a p t.1 none) (below_named entry x b p t.2 none))))
]

pub root_by_parent : {t : Table RawThree} {root : Option Place} (front : List Place) (p : Place) (back : List Place) → Represents t root (front ++ p ∷ back) → (node (t.entry p)).parent ≡ None → root ≡ Some p
root_by_parent {t} front p back shown none =
    shown.starts ∙ topmost t.entry shown.tree p shown.held.entries none (λ out. (absent_right p front (p ∷ back) (subst (IsAbsent p) shown.held.order out)).0 refl)
