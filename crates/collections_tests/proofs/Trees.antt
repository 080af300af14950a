-- Lemmas on trees: a tree with no root represents the empty sequence, each member of a tree has an object, and a vacant entry can insert an object.
use Rattle.std.proofs.Common.{◌≡◌, true, Option, None, List, [], ◌∷◌, refl, Ordering}
use Rattle.std.specs.List.{AllByRecursion}
use Rattle.ic_link_ops.specs.Prelude.{Place, index_of, Objects, is_placed, Table, IsCovered, ArePlaced, RepresentsPlaced, link_of, entries, linked_by}
use Rattle.ic_link_ops.specs.EntryLaws.{linked_in_range}
use Rattle.ic_link_ops.specs.RedBlackTree.{Node, Represents}
use Rattle.ic_link_ops.specs.ThreeWords.{no_words, has_link, node_of}
use Rattle.ic_link_ops.proofs.RepresentedTrees.{represents_nothing}
use Rattle.ic_link_ops.proofs.Trees.{tree_covered}
use Rattle.ic_rbtree.specs.CursorMut.{CursorOf}
use Rattle.ic_rbtree.specs.Entry.{IfVacant, IsVacantFor, CanInsert}
use Rattle.ic_rbtree.specs.Prelude.{TreeLinkOps, plain_table, PlainRepresents, PlainRepresentsSome, root_of, alone}
use Rattle.ic_rbtree.specs.declared.keys.entry.Entry.{Entry}
use Rattle.ic_rbtree.specs.declared.keys.entry.Entry.TheVariants.{Occupied, Vacant}
use Rattle.ic_rbtree.specs.declared.keys.entry.InsertCursor.{InsertCursor}
use Rattle.ic_rbtree.specs.declared.tree.RBTree.{RBTree}

pub none_represented : {A : Type 0} (links : TreeLinkOps A) (root : Option Place) → root ≡ None → PlainRepresentsSome links root
none_represented links root e = ([], rw e (represents_nothing {n = node_of} (plain_table links)))

-- if there is an object at each covered place, then there is an object at each member of a tree, because each member is covered
module _ {A : Type 0} (links : TreeLinkOps A) {T : Type 0} (o : Objects T) (all : (q : Place) → IsCovered (plain_table links) q → is_placed o q ≡ true) where
  each_placed : (s : List Place) → AllByRecursion (λ q. IsCovered (plain_table links) q) s → ArePlaced o s
  each_placed [] h = tt
  each_placed (x ∷ s) h = (all x h.0, each_placed s h.1)

  pub represents_placed : (root : Option Place) → PlainRepresentsSome links root → RepresentsPlaced (PlainRepresents links root) o
  represents_placed root (s, h) =
      let linked_is_covered = linked_in_range (linked_by has_link) (link_of no_words) refl (entries links) in
      let covered : AllByRecursion (λ q. IsCovered (plain_table links) q) s
      = rw (← h.held.order) (tree_covered node_of (plain_table links) (λ q k. linked_is_covered (index_of q) k) None h.tree h.held.entries) in
      record { members = s; shown = h; placed = each_placed s covered }

-- a vacant entry of a represented tree can insert an object, because the entry has a gap of the sequence `s`. `P` and `Q` are other facts about the entry,
-- which the proof does not use
module _ {A L V K E : Type 0} (n : E → Node) (table : L → Table E) (at : Place → Ordering) (P Q : InsertCursor A L (Option Place) → Type 0) (tree : RBTree A (Option Place)) (links : L) {s : List Place}
    (shown : Represents n (table links) (root_of tree) s) where
  pub can_insert : (e : Entry A L (Option Place) V K) → IfVacant e (IsVacantFor n at (table links) s) → IfVacant e (λ v. P v × Q v × (v.tree.now ≡ tree) × (v.links.now ≡ links))
      → IfVacant e (CanInsert alone n table)
  can_insert (Occupied c) f b = tt
  can_insert (Vacant v) f b = (f.gap, rw (b.2, b.3, f.same) shown, rw b.3 f.is_at)

-- if the entry of a key is not occupied, then it is vacant
pub vacant_one : {A L H V K : Type 0} (entry : Entry A L H V K) → ((c : CursorOf A L V H) → entry ≡ Occupied c → ⊥) → (v : InsertCursor A L H) × (entry ≡ Vacant v)
vacant_one (Occupied c) other = absurd (other c refl)
vacant_one (Vacant v) other = (v, refl)
