-- A vine is a tree without left children: linked places, each the right child of the place before it. The left children, the parents and the colors in the
-- entries of a vine may be anything.
use Rattle.std.specs.Prelude.{◌≡◌, ℕ, ◌+◌, ◌^◌, ◌≤◌, length, Option, None, List}
use Rattle.ic_link_ops.specs.Prelude.{Place, IsDistinct, first_or, Table, ChangesOnlyIn, top_color, blacks, IsEven, NoRedPair, Successor, IsFollowed, Node, IsTree, Tree, top, in_order}
use Rattle.ic_link_ops.specs.declared.color.Color.TheVariants.{Black}
use Rattle.ic_link_ops.specs.Chains.{Ends, IsChain, RepresentsBetween}
use Rattle.ic_rbtree.specs.Height.{IsLowest}

module _ {E : Type 0} (n : E → Node) where
  -- the parts of an entry that a vine uses: whether its place is linked, and its right child
  abbrev pub along : E → Successor
  along e = record { linked = (n e).linked; next = (n e).right }

  -- s is a vine, and the right child of its last member is `after`
  abbrev pub IsVine : (Place → E) → List Place → Option Place → Type 0
  IsVine entry s after = IsChain (IsFollowed along) entry None s after

  -- THE TABLE REPRESENTS s for the vine with these ends. s is a vine of distinct places, its last member has no right child, and the ends are the first and
  -- the last of s
  abbrev pub RepresentsVine : Table E → Ends → List Place → Type 0
  RepresentsVine = RepresentsBetween (IsFollowed along)

  -- the table represents some sequence for the vine with these ends
  abbrev pub RepresentsVineSome : Table E → Ends → Type 0
  RepresentsVineSome v ends = (s : List Place) × RepresentsVine v ends s

  -- A VINE OF `count` MEMBERS, from `first` to the member before `after`. A tree of the black height `height` can have this number of members
  pub record IsVineOf (v : Table E) (first : Option Place) (count height : ℕ) (s : List Place) (after : Option Place) : Type 0 where
    pub vine : IsVine v.entry s after
    pub distinct : IsDistinct s
    pub starts : first ≡ first_or s after
    pub counted : count ≡ length s
    pub enough : 2 ^ height ≤ count + 1
    pub few : count + 1 ≤ 2 ^ (height + 1)

  -- THE VINE BECOMES A TREE of the black height `height`, whose root is black unless the height is 0. No entries are changed except those of the vine's
  -- members
  pub record BecomesTree (v w : Table E) (root next : Option Place) (height : ℕ) (s : List Place) (after : Option Place) : Type 0 where
    pub tree : Tree
    pub entries : IsTree n w.entry None tree
    pub root_is : root ≡ top tree
    pub next_is : next ≡ after
    pub order : in_order tree ≡ s
    pub blacks_are : blacks tree ≡ height
    pub even : IsEven tree
    pub no_red_pair : NoRedPair tree
    pub black_root : 1 ≤ height → top_color tree ≡ Black
    pub lowest : IsLowest tree
    pub frame : ChangesOnlyIn v w s

  -- A TREE of distinct places, whatever its colors: the root of the tree is `root`, and the parent of the root is `up`
  pub record IsTreeOf (v : Table E) (root up : Option Place) (t : Tree) : Type 0 where
    pub entries : IsTree n v.entry up t
    pub distinct : IsDistinct (in_order t)
    pub root_is : root ≡ top t

  -- THE MEMBERS OF A TREE BECOME A VINE, whose last member has the right child `after`. No entries are changed except those of the members
  pub record BecomesVine (v w : Table E) (first : Option Place) (s : List Place) (after : Option Place) : Type 0 where
    pub vine : IsVine w.entry s after
    pub first_is : first ≡ first_or s after
    pub frame : ChangesOnlyIn v w s

-- `Represents t head s` states that the table t represents the sequence s for the collection with this head
module _ {E H : Type 0} (Represents : Table E → H → List Place → Type 0) where
  -- THE MEMBERS ARE REARRANGED, and the head is `head`: the sequence is still s, and no entries are changed except those of the members
  pub record Rearranges (v w : Table E) (head : H) (s : List Place) : Type 0 where
    pub shows : Represents w head s
    pub frame : ChangesOnlyIn v w s
