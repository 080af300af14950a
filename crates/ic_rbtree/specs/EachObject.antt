-- These definitions are about a tree that has each placed object as a member.
use Rattle.std.specs.Prelude.{◌≡◌, ℕ, Option, List}
use Rattle.std.specs.Ordering.{nat_cmp}
use Rattle.ic_link_ops.specs.Prelude.{Place, Objects, is_placed}
use Rattle.ic_rbtree.specs.PlainTrees.{TreeLinkOps, RepresentsTree, is_linked, plain_table}
use Rattle.ic_rbtree.specs.SortedValues.{HasSorted}

-- THE TREE HAS EACH OBJECT, in the order of the objects' keys. `values` are the values of the objects in this order, and a place is linked exactly if an
-- object is there
pub record HasEach {V A : Type 0} (key_of : V → ℕ) (links : TreeLinkOps A) (root : Option Place) (objects : Objects V) (values : List V) : Type 0 where
  pub sorted : HasSorted nat_cmp key_of RepresentsTree is_linked (plain_table links) root objects values
  pub exact : (p : Place) → is_linked ((plain_table links).entry p) ≡ is_placed objects p
