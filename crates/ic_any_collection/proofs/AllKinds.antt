-- THE LAWS OF ALL KINDS: what holds of a collection whatever its kind. The proof of each law has one line for each kind.
use Rattle.std.proofs.Common.{◌≡◌, true, None, List, refl, sym, subst}
use Rattle.ic_link_ops.specs.Prelude.{Place, IsAbsent, IsDistinct, IsDisjoint, Table, IsCovered, IsUnlinked, ChangesOnlyIn}
use Rattle.ic_link_ops.specs.XorLaws.{joins_one_other, joins_finds_other}
use Rattle.ic_any_collection.specs.Prelude.{no_members, root_of, Entry, AnyTable, table_in, covered_where_linked, is_linked, neighbors, successor, node, HasNeighbors, other, AnyCollection, Singly, Doubly, Xor, Tree, RepresentsIn, members_in, Keeps, Held}
use Rattle.ic_link_ops.specs.LinkedList as doubly
use Rattle.ic_link_ops.specs.SinglyLinkedList as singly
use Rattle.ic_link_ops.specs.XorLinkedList as xor
use Rattle.ic_link_ops.specs.RedBlackTree as tree
use Rattle.ic_link_ops.proofs.CollectionLaws.{IsKind}
use Rattle.ic_link_ops.proofs.SinglyLists as singly_laws
use Rattle.ic_link_ops.proofs.DoublyLists as doubly_laws
use Rattle.ic_link_ops.proofs.XorLists as xor_laws
use Rattle.ic_link_ops.proofs.RepresentedTrees as tree_laws
use Rattle.ic_rbtree.proofs.Members as tree_members

-- a table is lawful if only places that it covers are linked. The table of every field is lawful
abbrev pub IsLawful : Table Entry → Type 0
IsLawful t = (q : Place) → is_linked (t.entry q) ≡ true → IsCovered t q

pub lawful : {M : Type 0} (links : AnyTable M) → IsLawful (table_in links)
lawful links q h = covered_where_linked links q h

-- each kind of collection satisfies the laws of the record `IsKind`
pub singly_kind : IsKind (singly.Represents successor) is_linked (singly.list_from None)
singly_kind = singly_laws.singly_lists (λ e. refl)

pub doubly_kind : IsKind (doubly.Represents neighbors) is_linked no_members
doubly_kind = doubly_laws.doubly_lists (λ e. refl)

pub xor_kind : IsKind (xor.Represents is_linked HasNeighbors) is_linked no_members
xor_kind = xor_laws.xor_lists (λ e a b c j k. joins_one_other e.word a b c j k)

pub tree_kind : IsKind (tree.Represents node) is_linked None
tree_kind = tree_laws.red_black_trees (λ e. refl)

module _ {V : Type 0} where
  -- a table represents only one sequence for a collection, which is the sequence of members that a walk finds
  pub one_sequence : (t : Table Entry) → IsLawful t → (m : AnyCollection V) (s : List Place) → RepresentsIn t m s → members_in t m ≡ s
  one_sequence t law (Singly l at) s shown = singly_laws.members_represented t law l s shown
  one_sequence t law (Doubly l at) s shown = doubly_laws.members_represented t law l s shown
  one_sequence t law (Xor l at) s shown = xor_laws.members_represented other (λ e a b j. joins_finds_other e.word a b j) t law l s shown
  one_sequence t law (Tree l at) s shown = tree_members.members_represented t law (root_of l) s shown

  -- no place is twice in a sequence that a table represents
  pub distinct : (t : Table Entry) (m : AnyCollection V) (s : List Place) → RepresentsIn t m s → IsDistinct s
  distinct t (Singly l at) s shown = singly_kind.distinct t _ s shown
  distinct t (Doubly l at) s shown = doubly_kind.distinct t _ s shown
  distinct t (Xor l at) s shown = xor_kind.distinct t _ s shown
  distinct t (Tree l at) s shown = tree_kind.distinct t _ s shown

  -- if no entry of a member of s changes, the new table still represents s for the collection
  pub represented_frame : (old new : Table Entry) (m : AnyCollection V) (s touched : List Place) → RepresentsIn old m s → IsDisjoint s touched
      → ((q : Place) → IsAbsent q touched → new.entry q ≡ old.entry q) → RepresentsIn new m s
  represented_frame old new (Singly l at) s touched shown apart same = singly_kind.frame old new _ s touched shown apart same
  represented_frame old new (Doubly l at) s touched shown apart same = doubly_kind.frame old new _ s touched shown apart same
  represented_frame old new (Xor l at) s touched shown apart same = xor_kind.frame old new _ s touched shown apart same
  represented_frame old new (Tree l at) s touched shown apart same = tree_kind.frame old new _ s touched shown apart same

  -- an unlinked place p is not in a sequence that the table represents
  pub unlinked_absent : (t : Table Entry) (m : AnyCollection V) (s : List Place) {p : Place} → RepresentsIn t m s → IsUnlinked is_linked t p → IsAbsent p s
  unlinked_absent t (Singly l at) s {p} shown free = singly_kind.free t _ s p shown free
  unlinked_absent t (Doubly l at) s {p} shown free = doubly_kind.free t _ s p shown free
  unlinked_absent t (Xor l at) s {p} shown free = xor_kind.free t _ s p shown free
  unlinked_absent t (Tree l at) s {p} shown free = tree_kind.free t _ s p shown free

  -- IF NO ENTRY OF A MEMBER CHANGES, the new table keeps s for the collection (`Keeps`), as the old table did
  pub keeps_frame : {old new : Table Entry} (m : AnyCollection V) (s touched : List Place) → Keeps old m s → IsDisjoint s touched → ChangesOnlyIn old new touched → Keeps new m s
  keeps_frame {old} {new} m s touched kept apart frame =
      record { carried = rw frame.extent kept.carried; shown = represented_frame old new m s touched kept.shown apart frame.others; stands = kept.stands }

  -- if a table keeps a sequence s for a collection, s is the sequence of members that a walk finds
  pub held_of : {t : Table Entry} → IsLawful t → (m : AnyCollection V) (s : List Place) → Keeps t m s → Held t m
  held_of {t} law m s kept = subst (Keeps t m) (sym (one_sequence t law m s kept.shown)) kept
