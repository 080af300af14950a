-- Laws for callers about trees over the plain table of tree links.
use Rattle.std.proofs.Common.{◌≡◌, Option, None, List, refl}
use Rattle.ic_link_ops.specs.Prelude.{Place, index_of, IsCovered, IsLinked, link_of, entries}
use Rattle.ic_link_ops.specs.EntryLaws.{linked_in_range}
use Rattle.ic_link_ops.specs.ThreeWords.{no_words}
use Rattle.ic_link_ops.proofs.Prelude.{IsKind, red_black_trees}
use Rattle.ic_rbtree.specs.PlainTrees.{TreeLinkOps, is_linked, plain_table, RepresentsTree, PlainRepresents, members_of}
use Rattle.ic_rbtree.proofs.Members.{members_represented}

-- THE FIVE FACTS of a kind of collection hold for trees: an edit elsewhere changes nothing, no unlinked place is a member, members are distinct, a new tree has
-- no members, and at most one sequence is represented
pub plain_trees : IsKind RepresentsTree is_linked None
plain_trees = red_black_trees (λ e. refl)

module _ {A : Type 0} (links : TreeLinkOps A) where
  -- the plain table covers each place that is linked
  pub plain_covered : (p : Place) → IsLinked is_linked (plain_table links) p → IsCovered (plain_table links) p
  plain_covered p linked = linked_in_range is_linked (link_of no_words) refl (entries links) (index_of p) linked

  module _ {root : Option Place} {s : List Place} (shown : PlainRepresents links root s) where
    -- the members that `members_of` gives for a root are the sequence that the plain table represents for it
    pub plain_members : members_of links root ≡ s
    plain_members = members_represented (plain_table links) plain_covered root s shown
