-- WHERE A CURSOR IS: the gaps directly before and after its position, and the next place that the cursor of an XOR list stores. The later lemmas say
-- how the definitions of a kind are used for a collection of any kind. What a table represents for a list or tree, it also represents for the
-- collection made from this list or tree, and valid positions stay valid. Because of this each edit is proved once for all kinds.
use Rattle.std.proofs.Common.{◌≡◌, Option, None, List, refl, ◌∙◌, Some, IfSome, [], ◌∷◌, ◌++◌, drop, sym, ap, subst, append_assoc}
use Rattle.std.specs.Prelude.{⊤}
use Rattle.ic_link_ops.specs.Prelude.{Place, Table, ChangesOnlyIn, LinkStep, TraceIs, IsValidCursor, site, Cut, join, at_front, first, IsBefore, IsDistinct, Front}
use Rattle.ic_any_collection.specs.Prelude.{tree_table_in, is_tree_linked, Ends, IsValidAt, RBTree, root_of, member_of, CachesNext, AnyTable, node_of, table_in, is_linked, neighbors, successor, HasNeighbors, Unkeyed, AnyCollection, Singly, Doubly, Xor, Tree, IsCursorIn, RepresentsIn, cursor_in, Alike, PlaceAndNext, Entry, IsAt, IsXorAt, members_in, Held}
use Rattle.ic_link_ops.specs.LinkedList as doubly
use Rattle.ic_link_ops.specs.SinglyLinkedList as singly
use Rattle.ic_link_ops.specs.XorLinkedList as xor
use Rattle.ic_link_ops.specs.RedBlackTree as tree
use Rattle.ic_any_collection.specs.declared.any_table.AnyTable.TheVariants.{WithPrev}
use Rattle.ic_any_collection.specs.declared.table_with_prev.TableWithPrev.TheVariants as variant
use Rattle.ic_any_collection.specs.TablesWithPrev as with_prev
use Rattle.ic_link_ops.proofs.Prelude.{IsKind, one_sequence_is_represented, red_black_trees}
use Rattle.ic_any_collection.proofs.OwnTrees.{to_field, to_own, frame_in_field, trace_in_field}
use Rattle.ic_any_collection.proofs.AllKinds.{singly_kind, doubly_kind, xor_kind}
use Rattle.ic_link_ops.proofs.SequenceLemmas.{gap_after, gap_before, none_not, first_is, last_of_push, same_gap}

-- A CURSOR CAN BE AT NULL in every sequence. The cursor of an XOR list stores no next place there
pub at_null : {s : List Place} {position : Option Place} → position ≡ None → IsAt s position
at_null {s} null = (at_front s, refl, null)

pub xor_null : (s : List Place) {at : Option PlaceAndNext} → at ≡ None → IsXorAt s at
xor_null s null = rw null (at_front s, refl, refl, tt)

-- a cursor can be at a position that has a gap directly before it
pub at_before : (gap : Cut) {position : Option Place} → IsBefore gap position → IsAt (join gap) position
at_before gap {position} before = gap_after gap position before

-- a sequence can be cut at the gap directly before the position of a cursor
pub before_at : {s : List Place} {position : Option Place} → IsAt s position → (gap : Cut) × (join gap ≡ s) × IsBefore gap position
before_at {s} {position} at = let prev = gap_before at.0 position at.2 in (prev.0, prev.1 ∙ at.1, prev.2)

module _ {V : Type 0} where
  -- whatever the kind, the cursor is at a position of s
  pub stands_at : (s : List Place) (m : AnyCollection V) → IsCursorIn s m → IsAt s (cursor_in m)
  stands_at s (Singly l at) stands = stands
  stands_at s (Doubly l at) stands = stands
  stands_at s (Xor l at) stands = (stands.0, stands.1, stands.2)
  stands_at s (Tree l at) stands = stands

  -- the members of a collection that a table keeps can be cut at the gap after the cursor, and at the gap before the cursor
  pub gap_after_cursor : {t : Table Entry} (m : AnyCollection V) → Held t m → IsAt (members_in t m) (cursor_in m)
  gap_after_cursor {t} m held = stands_at (members_in t m) m held.stands

  pub gap_before_cursor : {t : Table Entry} (m : AnyCollection V) → Held t m → (gap : Cut) × (join gap ≡ members_in t m) × IsBefore gap (cursor_in m)
  gap_before_cursor m held = before_at (gap_after_cursor m held)

-- A LIST'S CURSOR IS VALID as the calls of the list require, if it is at a position of s. This lemma is about kinds whose cursor stores only its own
-- place
pub stands_plainly : {L E H : Type 0} {Represents : Table E → H → List Place → Type 0} {table : L → Table E} {links : L} {list : H} {at : Option Place} (s : List Place)
    → Represents (table links) list s → IsAt s at → IsValidAt Represents table (λ at. at) (λ at next. ⊤) links list at
stands_plainly {Represents = Represents} {table} {links} {list} s shown at =
    record { gap = at.0; shown = subst (Represents (table links) list) (sym at.1) shown; after = at.2; caches = λ q on. tt }

-- the cursor of an XOR list is valid as the calls of the list require. It also stores the place after its own
abbrev pub XorStands : {L : Type 0} → (L → Table Entry) → L → Ends → Option PlaceAndNext → Type 0
XorStands table links l at = IsValidAt (xor.Represents is_linked HasNeighbors) table member_of CachesNext links l at

pub knows : {L : Type 0} {table : L → Table Entry} {links : L} {l : Ends} {at : Option PlaceAndNext} (s : List Place)
    → xor.Represents is_linked HasNeighbors (table links) l s → IsXorAt s at → XorStands table links l at
knows {table = table} {links = links} {l = l'} s shown at =
    record { gap = at.0; shown = subst (xor.Represents is_linked HasNeighbors (table links) l') (sym at.1) shown; after = at.2; caches = λ q on. at.3 }

-- if a cursor that is on a member stores `next` as the next place, `CachesNext` holds of the cursor and `next`. For a cursor at null it always holds
caches_next : (at : Option PlaceAndNext) (next : Option Place) → ((q : Place) → member_of at ≡ Some q → CachesNext at next) → CachesNext at next
caches_next None next caches = tt
caches_next (Some at) next caches = caches at.place refl

pub known : {L : Type 0} {table : L → Table Entry} {links : L} {l : Ends} {at : Option PlaceAndNext} (s : List Place)
    → xor.Represents is_linked HasNeighbors (table links) l s → XorStands table links l at → IsXorAt s at
known {at = at'} s shown k = (k.gap, one_sequence_is_represented xor_kind k.shown shown, k.after, caches_next at' _ k.caches)

-- the next place that the cursor of an XOR list stores is the member after the member p that the cursor is on
pub next_known : {L : Type 0} {table : L → Table Entry} {links : L} {l : Ends} {at : Option PlaceAndNext} {p : Place} {next : Option Place} {s : List Place}
    → xor.Represents is_linked HasNeighbors (table links) l s → XorStands table links l at → member_of at ≡ Some p → IfSome at (λ a. next ≡ a.next)
    → (gap : Cut) → join gap ≡ s → IsBefore gap (Some p) → next ≡ first (drop 1 gap.back)
next_known {at = None} {p = p} shown k on is gap cut before = absurd (none_not p on)
next_known {table = table} {links = links} {l = l'} {at = Some a} {p = p} {s = s} shown k on is gap cut before =
    let at = known s shown k in
    let past : Cut = record { front = gap.front ++ p ∷ []; back = drop 1 gap.back } in
    let there : join past ≡ s = append_assoc gap.front (p ∷ []) (drop 1 gap.back) ∙ ap (λ b. gap.front ++ b) (sym (first_is gap.back before)) ∙ cut in
    let apart : IsDistinct (join at.0) = rw at.1 (xor_kind.distinct (table links) l' s shown) in
    let same = same_gap at.0 past apart (at.1 ∙ sym there) (sym at.2 ∙ on ∙ sym (last_of_push gap.front p)) in
    is ∙ at.3 ∙ ap first same.1

-- `own` is the table that the kind's own calls see, and `Trace` states the link steps of these calls. `field` is the field's table, which contains
-- the kind's table
pub record IsMade {V L M E H C P : Type 0} (made : C → P → AnyCollection V) (own : L → Table E) (Trace : L → L → List LinkStep → Type 0)
    (Represents : Table E → H → List Place → Type 0) (field : L → AnyTable M) (IsValid : L → C → P → Type 0) (head_of : C → H) (member : P → Option Place) : Type 0 where
  pub alike : (c c' : C) (at at' : P) → Alike (made c at) (made c' at')
  pub position : (c : C) (at : P) → cursor_in (made c at) ≡ member at
  pub shows : (links : L) (c : C) (at : P) (s : List Place) → Represents (own links) (head_of c) s → RepresentsIn (table_in (field links)) (made c at) s
  pub shown : (links : L) (c : C) (at : P) (s : List Place) → RepresentsIn (table_in (field links)) (made c at) s → Represents (own links) (head_of c) s
  pub frame : (a b : L) (s : List Place) → ChangesOnlyIn (own a) (own b) s → ChangesOnlyIn (table_in (field a)) (table_in (field b)) s
  pub traced : (a b : L) (steps : List LinkStep) → Trace a b steps → TraceIs is_linked (table_in (field a)) (table_in (field b)) steps
  pub stays : (c c' : C) (at : P) (s : List Place) → IsCursorIn s (made c at) → IsCursorIn s (made c' at)
  pub stands : (links : L) (c : C) (at : P) (s : List Place) → Represents (own links) (head_of c) s → IsValid links c at → IsCursorIn s (made c at)
  pub valid : (links : L) (c : C) (at : P) (s : List Place) → Represents (own links) (head_of c) s → IsCursorIn s (made c at) → IsValid links c at

-- the link steps between two states of a table, which is read as the table of a field
abbrev pub Steps : {L M : Type 0} → (L → AnyTable M) → L → L → List LinkStep → Type 0
Steps field old new steps = TraceIs is_linked (table_in (field old)) (table_in (field new)) steps

-- trees over their own table satisfy the laws of the record `IsKind`
pub own_trees : IsKind (tree.Represents node_of) is_tree_linked None
own_trees = red_black_trees (λ e. refl)

module _ {V M : Type 0} where
  pub singly_made : IsMade {V = V} {M = M} {H = Front} {C = Front} (λ l at. Singly l at) table_in (Steps (λ links. links)) (singly.Represents successor) (λ links. links)
      (IsValidAt (singly.Represents successor) table_in (λ at. at) (λ at next. ⊤)) (λ l. l) (λ at. at)
  singly_made = record {
    alike = λ l l' at at'. refl;
    position = λ l at. refl;
    shows = λ links l at s shown. shown;
    shown = λ links l at s shown. shown;
    frame = λ a b s frame. frame;
    traced = λ a b steps trace. trace;
    stays = λ l l' at s stands. stands;
    stands = λ links l at s shown v. (v.gap, one_sequence_is_represented singly_kind v.shown shown, v.after);
    valid = λ links l at s shown stands. stands_plainly s shown stands;
  }

  pub doubly_made : IsMade {V = V} {M = M} {H = Ends} {C = Ends} (λ l at. Doubly l at) with_prev.table_in (Steps (λ links. WithPrev links)) (doubly.Represents neighbors) (λ links. WithPrev links)
      (IsValidAt (doubly.Represents neighbors) with_prev.table_in (λ at. at) (λ at next. ⊤)) (λ l. l) (λ at. at)
  doubly_made = record {
    alike = λ l l' at at'. refl;
    position = λ l at. refl;
    shows = λ links l at s shown. shown;
    shown = λ links l at s shown. shown;
    frame = λ a b s frame. frame;
    traced = λ a b steps trace. trace;
    stays = λ l l' at s stands. stands;
    stands = λ links l at s shown v. (v.gap, one_sequence_is_represented doubly_kind v.shown shown, v.after);
    valid = λ links l at s shown stands. stands_plainly s shown stands;
  }

  pub xor_made : IsMade {V = V} {M = M} {H = Ends} {C = Ends} (λ l at. Xor l at) table_in (Steps (λ links. links)) (xor.Represents is_linked HasNeighbors) (λ links. links)
      (IsValidAt (xor.Represents is_linked HasNeighbors) table_in member_of CachesNext) (λ l. l) member_of
  xor_made = record {
    alike = λ l l' at at'. refl;
    position = λ l at. refl;
    shows = λ links l at s shown. shown;
    shown = λ links l at s shown. shown;
    frame = λ a b s frame. frame;
    traced = λ a b steps trace. trace;
    stays = λ l l' at s stands. stands;
    stands = λ links l at s shown v. known {table = table_in} {links = links} s shown v;
    valid = λ links l at s shown stands. knows s shown stands;
  }

  pub tree_made : IsMade {V = V} {M = M} {C = RBTree (Unkeyed V) (Option Place)} (λ l at. Tree l at) tree_table_in
      (λ a b steps. TraceIs is_tree_linked (tree_table_in a) (tree_table_in b) steps) (tree.Represents node_of) (λ links. WithPrev (variant.Tree links))
      (λ links l at. IsValidCursor (tree.Represents node_of) tree_table_in (site links (root_of l) at)) root_of (λ at. at)
  tree_made = record {
    alike = λ l l' at at'. refl;
    position = λ l at. refl;
    shows = λ links l at s shown. to_field shown;
    shown = λ links l at s shown. to_own shown;
    frame = λ a b s frame. frame_in_field frame;
    traced = λ a b steps trace. trace_in_field (tree_table_in a) (tree_table_in b) steps trace;
    stays = λ l l' at s stands. stands;
    stands = λ links l at s shown v. (v.gap, one_sequence_is_represented own_trees v.shown shown, v.after);
    valid = λ links l at s shown stands. record { gap = stands.0; shown = rw stands.1 shown; after = stands.2 };
  }
