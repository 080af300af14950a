-- Facts about a list, and about a tree with summaries, which each edit of a test maintains. The tree's table covers eight places, the fresh summaries are
-- right, and each place has an object and room for a summary.
use Rattle.std.specs.Prelude.{◌≡◌, ◌<◌, true, Option, List}
use Rattle.ic_link_ops.specs.Prelude.{Place, index_of, Objects, is_placed, Table, IsCovered, ListHead, RepresentsSomeChain, Node}
use Rattle.ic_rbtree.specs.Prelude.{Kept, RepresentsKept, head_of}
use Rattle.ic_rbtree.specs.declared.tree.RBTree.{RBTree}
use Rattle.ic_augmented.specs.Prelude.{IsConsistent, Summaries, links_of, summaries_of}
use Rattle.ic_augmented.specs.declared.augmented.Augmented.{Augmented}

module _ {H N M E S A : Type 0} (kept : H → Kept) (n : E → Node) (table : N → Table E) (summaries : M → Summaries S) (Covers : M → Place → Type 0) where
  -- the table covers eight places and represents `members` for the tree. The fresh summaries of the members are right, and each covered place has room for
  -- a summary. After a `refresh` the summaries can be read
  pub record IsReady (tree : RBTree A H) (summed : Augmented N M) : Type 0 where
    pub covers : (table (links_of summed)).extent.places ≡ 8
    pub members : List Place
    pub shown : RepresentsKept kept n (table (links_of summed)) (head_of tree) members
    pub right : IsConsistent n (table (links_of summed)) (summaries (summaries_of summed)) members
    pub room : (q : Place) → IsCovered (table (links_of summed)) q → Covers (summaries_of summed) q

  -- the tree is ready for edits, and there is an object at each of the eight places
  pub record IsKept {T : Type 0} (objects : Objects T) (tree : RBTree A H) (summed : Augmented N M) : Type 0 where
    pub placed : (q : Place) → index_of q < 8 → is_placed objects q ≡ true
    pub ready : IsReady tree summed

module _ {E W : Type 0} (between : E → Option Place → Option Place → Type 0) (kept : Option Place → W) where
  -- THE LIST IS READY FOR EDITS: its table covers eight places, and represents some members for the list
  pub record IsReadyList (t : Table E) (list : ListHead W) : Type 0 where
    pub covers : t.extent.places ≡ 8
    pub shown : RepresentsSomeChain between kept t list
