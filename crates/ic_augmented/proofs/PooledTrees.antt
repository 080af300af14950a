-- A caller with a pool needs these lemmas: fresh summaries stay right if tables grow, and an insert into a summed tree is also an insert into the tree
-- alone.
use Rattle.std.proofs.Common.{◌≡◌, ℕ, Option, List, sym, ◌∙◌, subst, Ordering}
use Rattle.ic_link_ops.specs.Prelude.{Place, Table}
use Rattle.ic_link_ops.specs.RedBlackTree.{Node, Represents}
use Rattle.ic_link_ops.proofs.RepresentedTrees.{one_sequence}
use Rattle.ic_rbtree.specs.Ordered.{InsertsInOrder}
use Rattle.ic_augmented.specs.declared.augmented_table.AugmentedTable.{AugmentedTable}
use Rattle.ic_augmented.specs.Prelude.{IsJoined, IsSameAt, IsConsistent, RepresentsConsistent, Summaries}
use Rattle.ic_augmented.specs.Fresh.{RepresentsFresh}
use Rattle.ic_augmented.specs.Greatest.{greatest, greatest_of, number_at}
use Rattle.ic_augmented.specs.GreatestLaws.{greatest_tells}
use Rattle.ic_augmented.proofs.ConsistencyLemmas.{joined_at}
use Rattle.ic_augmented.proofs.AugmentedTableLemmas.{same_value}

module _ {E S : Type 0} (n : E → Node) where
  -- IF BOTH TABLES GROW, fresh summaries that were right still are
  pub grown_consistent : (v w : Table E) (z y : Summaries S) (s : List Place) → ((q : Place) → w.entry q ≡ v.entry q) → ((q : Place) → y.join q ≡ z.join q) → ((q : Place) → IsSameAt z y q)
      → IsConsistent n v z s → IsConsistent n w y s
  grown_consistent v w z y s entries joins same h q member but x fresh =
      subst (λ (e : E). IsJoined y q (n e).left (n e).right x) (sym (entries q))
      (joined_at z y q _ _ x (h q member but x (sym (same q).fresh ∙ fresh)) (joins q) (λ c k. same c) (λ c k. same c))

  -- AN INSERT IN ORDER into a tree with right summaries is an insert in order into the tree alone
  pub inserts_represented : {at : Place → Ordering} {old new : Table E} {z : Summaries S} {root : Option Place} {s : List Place} {p : Place} → InsertsInOrder (RepresentsConsistent n z) at old new root s p
      → InsertsInOrder (Represents n) at old new root s p
  inserts_represented i = record { gap = i.gap; same = i.same; border = i.border; inserted = record { shows = i.inserted.shows.0; frame = i.inserted.frame } }

  -- an insert in order after which no summary is stale is also an insert in order after which each fresh summary is right
  pub inserts_consistent : {at : Place → Ordering} {old new : Table E} {z : Summaries S} {root : Option Place} {s : List Place} {p : Place} → InsertsInOrder (RepresentsFresh n z) at old new root s p
      → InsertsInOrder (RepresentsConsistent n z) at old new root s p
  inserts_consistent i = record { gap = i.gap; same = i.same; border = i.border; inserted = record { shows = i.inserted.shows.consistent; frame = i.inserted.frame } }

  -- a table represents only one sequence for a root, so fresh summaries that are right in one represented sequence are right in each
  pub consistent_in : {v : Table E} {z : Summaries S} {root : Option Place} {t : List Place} (s : List Place) → RepresentsConsistent n z v root t → Represents n v root s → IsConsistent n v z s
  consistent_in {v} {z} s h shown = subst (IsConsistent n v z) (one_sequence h.0 shown) h.1

-- THE NUMBERS STAY if the summary of each place is computed as before
pub numbers_stay : {A : Type 0} (z y : AugmentedTable ℕ ℕ A) → (greatest y).join ≡ (greatest z).join → (q : Place) → number_at y q ≡ number_at z q
numbers_stay z y same q = same_value greatest_of 0 greatest_tells y.cells.items z.cells.items same q
