-- The collections of all kinds: the sequence that a table represents for a collection, and the position of its cursor.
use Rattle.std.specs.Prelude.{◌≡◌, true, Option, List}
use Rattle.ic_link_ops.specs.Prelude.{Place, Cut, join, first, IsAfter, Table}
use Rattle.ic_link_ops.specs.LinkedList as doubly
use Rattle.ic_link_ops.specs.SinglyLinkedList as singly
use Rattle.ic_link_ops.specs.XorLinkedList as xor
use Rattle.ic_link_ops.specs.RedBlackTree as tree
use Rattle.ic_rbtree.specs.Members as tree_members
use Rattle.ic_xor_linked_list.specs.Position.{PlaceAndNext, member_of, CachesNext}
use Rattle.ic_rbtree.specs.Tree.{root_of}
use Rattle.ic_any_collection.specs.declared.entry.Entry.{Entry}
use Rattle.ic_any_collection.specs.declared.kind.Kind.{Kind}
use Rattle.ic_any_collection.specs.declared.kind.Kind.TheVariants as kind
use Rattle.ic_any_collection.specs.Kinds.{carries}
pub use Rattle.ic_any_collection.specs.Kinds.{has_before, is_list, is_two_way_list, is_singly, is_xor, has_pointer, is_tree}
use Rattle.ic_any_collection.specs.Entries.{is_linked, neighbors, successor, node, HasNeighbors, other, kind_of}
use Rattle.ic_any_collection.specs.declared.any_collection.AnyCollection.{AnyCollection}
use Rattle.ic_any_collection.specs.declared.any_collection.AnyCollection.TheVariants.{Singly, Doubly, Xor, Tree}

-- the position is null or a member of s: s can be cut at a gap directly after the position
abbrev pub IsAt : List Place → Option Place → Type 0
IsAt s position = (gap : Cut) × (join gap ≡ s) × IsAfter gap position

-- the cursor of an XOR list is at null or on a member of s. If it is on a member, it also stores the place of the next member, or none if it is on
-- the last member
abbrev pub IsXorAt : List Place → Option PlaceAndNext → Type 0
IsXorAt s at = (gap : Cut) × (join gap ≡ s) × IsAfter gap (member_of at) × CachesNext at (first gap.back)

module _ {V : Type 0} where
  -- FOR EACH KIND OF COLLECTION, five definitions follow. Three say which kind it is, which member its cursor is on, and which sequence a table
  -- represents for it. The other two define the members that a walk finds, and whether the cursor is at a position of a sequence. `l` is the list or
  -- tree, and `at` is the position of its cursor. The cursor of an XOR list also stores the place of the next member
  abbrev pub kind_in : AnyCollection V → Kind
  kind_in (Singly l at) = kind.Singly
  kind_in (Doubly l at) = kind.Doubly
  kind_in (Xor l at) = kind.Xor
  kind_in (Tree l at) = kind.Tree

  abbrev pub cursor_in : AnyCollection V → Option Place
  cursor_in (Singly l at) = at
  cursor_in (Doubly l at) = at
  cursor_in (Xor l at) = member_of at
  cursor_in (Tree l at) = at

  abbrev pub RepresentsIn : Table Entry → AnyCollection V → List Place → Type 0
  RepresentsIn t (Singly l at) s = singly.Represents successor t l s
  RepresentsIn t (Doubly l at) s = doubly.Represents neighbors t l s
  RepresentsIn t (Xor l at) s = xor.Represents is_linked HasNeighbors t l s
  RepresentsIn t (Tree l at) s = tree.Represents node t (root_of l) s

  abbrev pub members_in : Table Entry → AnyCollection V → List Place
  members_in t (Singly l at) = singly.members successor t l
  members_in t (Doubly l at) = doubly.members neighbors t l
  members_in t (Xor l at) = xor.members other t l
  members_in t (Tree l at) = tree_members.members node t (root_of l)

  abbrev pub IsCursorIn : List Place → AnyCollection V → Type 0
  IsCursorIn s (Singly l at) = IsAt s at
  IsCursorIn s (Doubly l at) = IsAt s at
  IsCursorIn s (Xor l at) = IsXorAt s at
  IsCursorIn s (Tree l at) = IsAt s at

  -- THE TABLE t KEEPS s FOR THE COLLECTION m: t can serve the kind of m and represents s for m. The cursor of m is at null or on a member of s
  pub record Keeps (t : Table Entry) (m : AnyCollection V) (s : List Place) : Type 0 where
    pub carried : carries (kind_of t) (kind_in m) ≡ true
    pub shown : RepresentsIn t m s
    pub stands : IsCursorIn s m

  -- the table t keeps for the collection m the members that a walk through the table finds. Every call that has the table as an argument requires
  -- this
  abbrev pub Held : Table Entry → AnyCollection V → Type 0
  Held t m = Keeps t m (members_in t m)

  -- the collections m and m' have the same kind
  abbrev pub Alike : (m m' : AnyCollection V) → Type 0
  Alike m m' = kind_in m' ≡ kind_in m
