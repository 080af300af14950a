-- Searches and insertions by key. What the collection's call ensures follows from the contract of the tree's own call. The collection's call moves
-- the cursor after the tree's own call.
use Rattle.std.proofs.Common.{◌≡◌, ◌∙◌, ℕ, Bool, true, false, cond, append_assoc, Option, Some, None, IfSome, List, [], ◌∷◌, ◌++◌, drop, refl, sym, ap, subst, Ordering}
use Rattle.std.specs.Prelude.{⊤}
use Rattle.std.specs.Bool.{OnTrue, OnFalse}
use Rattle.ic_link_ops.specs.Prelude.{Place, Cut, join, insert, at_front, first, IsAbsent, IsMember, Table, ChangesOnlyIn, LinksAlso, IsBefore, IsValidCursor, site, acquires, Inserts}
use Rattle.ic_any_collection.specs.Prelude.{tree_table_in, is_tree_linked, Link, ThreeWords, PlainTable, node_of, InsertsInOrder, root_of, RBTree, Entry, is_linked, node, Unkeyed, AnyTable, Tree, IsAt, members_in, Held, AtGap, Moves, Puts, PutsInOrder, PutsAtKey, IsVacantFor}
use Rattle.ic_link_ops.specs.RedBlackTree as tree
use Rattle.ic_link_ops.proofs.Prelude.{member_split, first_is, absent_right, absent_without, gap_after, last_of_push, none_not, one_sequence_is_represented}
use Rattle.ic_rbtree.specs.declared.keys.entry.Entry.{Entry as TreeEntry}
use Rattle.ic_rbtree.specs.declared.keys.entry.Entry.TheVariants.{Occupied, Vacant}
use Rattle.ic_rbtree.specs.declared.keys.entry.InsertCursor.{InsertCursor}
use Rattle.ic_rbtree.specs.Cursor.{Cursor, tree_of, links_of, position, site_of}
use Rattle.ic_rbtree.specs.CursorMut.{CursorMut}
use Rattle.ic_rbtree.specs.Borders.{Finds, equal_at, if_passes}
use Rattle.ic_any_collection.proofs.OwnTrees.{of_field, to_own, step_in_field, inserts_in_field}
use Rattle.ic_any_collection.proofs.Made.{own_trees, before_at}

-- a cursor can be on each member of a sequence
on_it : {s : List Place} (front : List Place) (p : Place) (back : List Place) → front ++ p ∷ back ≡ s → IsAt s (Some p)
on_it front p back same = (record { front = front ++ p ∷ []; back = back }, append_assoc front (p ∷ []) back ∙ same, sym (last_of_push front p))

-- p IS INSERTED INTO A COLLECTION that is a tree, if the tree's own call inserted p and the cursor was then put to `cursor`
pub puts_in_tree : {V : Type 0} {t t' : Table Entry} {l l' : RBTree (Unkeyed V) (Option Place)} {at at' : Option Place} {gap : Cut} {p : Place} {cursor : Option Place}
    → Held {V = V} t (Tree l at) → join gap ≡ members_in {V = V} t (Tree l at) → Inserts (tree.Represents node) t t' (root_of l') gap p
    → LinksAlso is_linked t t' p → IsAt (insert gap p) cursor → at' ≡ cursor
    → Puts {V = V} t t' (Tree l at) (Tree l' at') gap p cursor
puts_in_tree {t = t} {t' = t'} {p = p} held same put links at there = record {
  leaves = record {
    kept = record { carried = rw put.frame.extent held.carried; shown = put.shows; stands = rw there at };
    alike = refl;
    cursor_is = there;
    frame = subst (λ s. ChangesOnlyIn t t' (p ∷ s)) same put.frame;
  };
  links = links;
}

-- a position of a cursor in s is also a position in the sequence with p inserted
still_at : {s : List Place} (gap : Cut) (p : Place) → join gap ≡ s → (at : Option Place) → IsAt s at → IsAt (insert gap p) at
still_at gap p same None at = (at_front _, refl, refl)
still_at {s} gap p same (Some q) at =
    let old = before_at at in
    let there : IsMember q (insert gap p) =
    λ out. (absent_right q old.0.front (q ∷ drop 1 old.0.back)
    (subst (IsAbsent q) (same ∙ sym old.1 ∙ ap (λ b. old.0.front ++ b) (first_is old.0.back old.2)) (absent_without gap.front gap.back p q out))).0 refl in
    let k = member_split q (insert gap p) there in
    on_it k.0 q k.1 (sym k.2)

-- p is inserted in the order of keys, and the cursor stays or goes to p. `t` and `t'` are the tree's own table before and after the call, and `l'` is
-- the tree after the call
module _ {V : Type 0} {t t' : Table (Link (ThreeWords ℕ) ⊤)} {l l' : RBTree (Unkeyed V) (Option Place)} {at : Option Place} (held : Held {V = V} (of_field t) (Tree l at)) (by : Place → Ordering) (p : Place) where
  put_in_order : {at' cursor : Option Place} → InsertsInOrder (tree.Represents node_of) by t t' (root_of l') (members_in {V = V} (of_field t) (Tree l at)) p → LinksAlso is_tree_linked t t' p
      → ((gap : Cut) → join gap ≡ members_in {V = V} (of_field t) (Tree l at) → IsAt (insert gap p) cursor) → at' ≡ cursor
      → PutsInOrder {V = V} by (of_field t) (of_field t') (Tree l at) (Tree l' at') p cursor
  put_in_order put links stands is =
      (put.gap, put.same, (put.border, puts_in_tree held put.same (inserts_in_field put.inserted) (step_in_field _ _ (acquires p) links) (stands put.gap put.same) is))

  pub puts_and_goes : {at' : Option Place} → InsertsInOrder (tree.Represents node_of) by t t' (root_of l') (members_in {V = V} (of_field t) (Tree l at)) p → LinksAlso is_tree_linked t t' p → at' ≡ Some p
      → PutsInOrder {V = V} by (of_field t) (of_field t') (Tree l at) (Tree l' at') p (Some p)
  puts_and_goes put links is = put_in_order put links (λ gap same. on_it gap.front p gap.back refl) is

pub puts_and_stays : {V : Type 0} (acquired : Bool) (t t' : Table (Link (ThreeWords ℕ) ⊤)) (l l' : RBTree (Unkeyed V) (Option Place)) (at : Option Place) (by : Place → Ordering) (p : Place) → Held {V = V} (of_field t) (Tree l at)
    → ((s : List Place) → tree.Represents node_of t (root_of l) s → OnTrue acquired (InsertsInOrder (tree.Represents node_of) by t t' (root_of l') s p))
    → OnTrue acquired (LinksAlso is_tree_linked t t' p) → OnTrue acquired (PutsInOrder {V = V} by (of_field t) (of_field t') (Tree l at) (Tree l' at) p at)
puts_and_stays true t t' l l' at by p held put links = put_in_order held by p (put _ (to_own held.shown)) links (λ gap same. still_at gap p same at held.stands) refl
puts_and_stays false t t' l l' at by p held put links = tt

-- AN INSERTION THAT IS REFUSED leaves the collection and its table as they were
pub put_stays : {V : Type 0} (acquired : Bool) {L M : Type 0} (table : L → Table Entry) (field : L → AnyTable M) (old new : L) (l l' : RBTree (Unkeyed V) (Option Place)) (at : Option Place) (Linked Asked : Type 0) → Held {V = V} (table old) (Tree l at)
    → OnFalse acquired (Linked × Asked) → OnFalse acquired ((l' ≡ l) × (new ≡ old)) → OnFalse acquired (Linked × Asked × ((field new ≡ field old) × Moves {V = V} (table old) (Tree l at) (Tree l' at) at))
put_stays true table field old new l l' at Linked Asked held why same = tt
put_stays false table field old new l l' at Linked Asked held why same = (why.0, why.1, (ap field same.1, record { kept = rw same.0 held; alike = refl; cursor_is = refl }))

-- an entry that is not occupied is vacant
pub vacant_one : {A L V K : Type 0} (entry : TreeEntry A L (Option Place) V K) → ((c : CursorMut A L V) → entry ≡ Occupied c → ⊥) → (v : InsertCursor A L (Option Place)) × (entry ≡ Vacant v)
vacant_one (Occupied c) other = absurd (other c refl)
vacant_one (Vacant v) other = (v, refl)

-- AFTER AN EDIT THROUGH A BORROW, the root and the table are those with which the borrow ended. So what the edit ensures holds of this root and this
-- table
pub inserts_left : {old old' t t' : Table (Link (ThreeWords ℕ) ⊤)} {root root' : Option Place} {gap : Cut} {p p' : Place} → old ≡ old' → p ≡ p' → Inserts (tree.Represents node_of) old t root gap p
    → t' ≡ t → root' ≡ root → Inserts (tree.Represents node_of) old' t' root' gap p'
inserts_left same place put table head = rw (table, head, ← same, ← place) put

pub links_left : {old old' t t' : Table (Link (ThreeWords ℕ) ⊤)} {p p' : Place} → old ≡ old' → p ≡ p' → LinksAlso is_tree_linked old t p → t' ≡ t → LinksAlso is_tree_linked old' t' p'
links_left same place linked table = rw (table, ← same, ← place) linked

-- A MEMBER WITH THE KEY was found, and the cursor moves to this member
passed : (test : Place → Bool) (o : Option Place) {p : Place} → Some p ≡ if_passes test o → Some p ≡ o
passed test None e = e
passed test (Some q) {p} e = by (test q) e where
  by : (b : Bool) → Some p ≡ cond b (Some q) None → Some p ≡ Some q
  by true e = e
  by false e = absurd (none_not p (sym e))

pub moves_to_key : {V : Type 0} {by : Place → Ordering} {t : Table Entry} {l l' : RBTree (Unkeyed V) (Option Place)} {at at' : Option Place} {p : Place} → Held {V = V} t (Tree l at)
    → Finds by (members_in {V = V} t (Tree l at)) (Some p) → l' ≡ l → at' ≡ Some p → Moves {V = V} t (Tree l at) (Tree l' at') (Some p)
moves_to_key {by = by} {p = p} held found same there =
    let k = gap_after found.gap (Some p) (passed (equal_at by) (first found.gap.back) found.answer) in
    record { kept = record { carried = held.carried; shown = rw same held.shown; stands = rw there (k.0, k.1 ∙ found.same, k.2) }; alike = refl; cursor_is = there }

-- AN OBJECT IS INSERTED into the gap where the searched key belongs, and the cursor is put on the object
pub puts_at_key : {V : Type 0} (by : Place → Ordering) {t t' : Table (Link (ThreeWords ℕ) ⊤)} {l l' : RBTree (Unkeyed V) (Option Place)} {at at' : Option Place} {p : Place} → Held {V = V} (of_field t) (Tree l at)
    → AtGap (members_in {V = V} (of_field t) (Tree l at)) (λ gap. IsVacantFor by gap × Inserts (tree.Represents node_of) t t' (root_of l') gap p) → LinksAlso is_tree_linked t t' p
    → at' ≡ Some p → PutsAtKey {V = V} by (of_field t) (of_field t') (Tree l at) (Tree l' at') p (Some p)
puts_at_key by {p = p} held put links there =
    let gap = put.0 in (gap, put.1, (put.2.0, puts_in_tree held put.1 (inserts_in_field put.2.1) (step_in_field _ _ (acquires p) links) (on_it gap.front p gap.back refl) there))

-- if the position of a cursor in s is not null, it is a member of s
on_member : {s : List Place} (position : Option Place) → IsAt s position → IfSome position (λ p. AtGap s (λ gap. IsBefore gap (Some p)))
on_member None at = tt
on_member (Some p) at = before_at at

-- the position of a cursor that a search of the tree returns is a member, if it is not null
pub found_member : {V M : Type 0} {links : PlainTable (ThreeWords ℕ) M ⊤} {l : RBTree (Unkeyed V) (Option Place)} {s : List Place} {at : Option Place} (c : Cursor (Unkeyed V) (PlainTable (ThreeWords ℕ) M ⊤) V (Option Place))
    → tree.Represents node_of (tree_table_in links) (root_of l) s → IsValidCursor (tree.Represents node_of) tree_table_in (site_of c) → tree_of c ≡ l → links_of c ≡ links → at ≡ position c
    → IfSome at (λ p. AtGap s (λ gap. IsBefore gap (Some p)))
found_member {links = links} {l = l} {at = at} c shown valid same_tree same_links is =
    let v : IsValidCursor (tree.Represents node_of) tree_table_in (site links (root_of l) at) = rw (← same_tree, ← same_links, is) valid in
    on_member at (v.gap, one_sequence_is_represented own_trees v.shown shown, v.after)
