-- If there is an object at each covered place, then there is an object at each member of a tree.
use Rattle.std.proofs.Common.{◌≡◌, true, Option, None, List, [], ◌∷◌, refl}
use Rattle.std.specs.List.{AllByRecursion}
use Rattle.ic_link_ops.specs.Prelude.{Place, index_of, Objects, is_placed, IsCovered, ArePlaced, RepresentsPlaced, link_of, entries, linked_by}
use Rattle.ic_link_ops.specs.EntryLaws.{linked_in_range}
use Rattle.ic_link_ops.specs.ThreeWords.{no_words, has_link, node_of}
use Rattle.ic_link_ops.proofs.Trees.{tree_covered}
use Rattle.ic_rbtree.specs.PlainTrees.{TreeLinkOps, plain_table, PlainRepresents, PlainRepresentsSome}

module _ {A : Type 0} (links : TreeLinkOps A) {T : Type 0} (o : Objects T) (all : (q : Place) → IsCovered (plain_table links) q → is_placed o q ≡ true) where
  each_placed : (s : List Place) → AllByRecursion (λ q. IsCovered (plain_table links) q) s → ArePlaced o s
  each_placed [] h = tt
  each_placed (x ∷ s) h = (all x h.0, each_placed s h.1)

  pub represents_placed : (root : Option Place) → PlainRepresentsSome links root → RepresentsPlaced (PlainRepresents links root) o
  represents_placed root (s, h) =
      let linked_is_covered = linked_in_range (linked_by has_link) (link_of no_words) refl (entries links) in
      let covered : AllByRecursion (λ q. IsCovered (plain_table links) q) s
      = rw (← h.held.order) (tree_covered node_of (plain_table links) (λ q k. linked_is_covered (index_of q) k) None h.tree h.held.entries) in
      record { members = s; shown = h; placed = each_placed s covered }
