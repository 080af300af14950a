-- Lemmas about the two kinds of heads: the table represents the members for the root, and if the head stores the ends, they are right.
use Rattle.std.proofs.Common.{◌≡◌, ℕ, Option, Some, None, List, [], sym, ap, ◌∙◌, arith}
use Rattle.ic_link_ops.specs.Prelude.{Place, Objects, Cut, join, insert, remove, replace, Table, site, IsValidCursor, HasMember, RepresentsPlaced, Inserts, Removes, Replaces, Splits}
use Rattle.ic_link_ops.specs.declared.side.Side.{Side}
use Rattle.ic_link_ops.specs.declared.side.Side.TheVariants.{Left, Right}
use Rattle.ic_link_ops.specs.RedBlackTree.{Node, Represents, RepresentsSome}
use Rattle.ic_rbtree.specs.Prelude.{HasRoom, end_on, IsInsertPos, RepresentsParts, Appends}
use Rattle.ic_rbtree.specs.Kept.{Kept, alone, ended, root_kept, RepresentsFor, RepresentsKept, TellsEnds, IsEmptied, IsBelow, EndIs, HasEnds, HasRoomFor}

module _ {E : Type 0} {n : E → Node} {v : Table E} where
  -- THE TABLE REPRESENTS THE MEMBERS FOR THE ROOT, if it represents them for the head
  pub shown : (k : Kept) {s : List Place} → RepresentsFor n v k s → Represents n v (root_kept k) s
  shown (alone root) h = h
  shown (ended e) h = h.shown

  -- if the table represents s for the root, and the ends that the head stores are right, the table represents s for the head
  pub shows : (k : Kept) {s : List Place} → Represents n v (root_kept k) s → TellsEnds k s → RepresentsFor n v k s
  shows (alone root) h t = h
  shows (ended e) h t = record { shown = h; front_is = t.0; back_is = t.1 }

  pub represented_some : (k : Kept) → (s : List Place) × RepresentsFor n v k s → RepresentsSome n v (root_kept k)
  represented_some k h = (h.0, shown k h.1)

  pub placed_root : {T : Type 0} {objects : Objects T} (k : Kept) → RepresentsPlaced (RepresentsFor n v k) objects → RepresentsPlaced (Represents n v (root_kept k)) objects
  placed_root k r = record { members = r.members; shown = shown k r.shown; placed = r.placed }

  pub member_root : {p : Place} (k : Kept) → HasMember (RepresentsFor n v k) p → HasMember (Represents n v (root_kept k)) p
  member_root k m = record { front = m.front; back = m.back; shown = shown k m.shown }

module _ {E : Type 0} (n : E → Node) (v : Table E) where
  pub printed : (k : Kept) (s : List Place) → RepresentsFor n v k s → TellsEnds k s
  printed (alone root) s h = tt
  printed (ended e) s h = (h.front_is, h.back_is)

  -- if the table represents a sequence for the head, the ends of the tree can be found, and they are the ends of this sequence
  pub has_ends : (k : Kept) (s : List Place) → RepresentsFor n v k s → HasEnds n v k
  has_ends (alone root) s h = (s, h)
  has_ends (ended e) s h = tt

  pub end_is : (d : Side) (k : Kept) (s : List Place) {end : Option Place} → EndIs n d v k end → RepresentsFor n v k s → end ≡ end_on d s
  end_is d (alone root) s is h = is s h
  end_is Left (ended e) s is h = is ∙ h.front_is
  end_is Right (ended e) s is h = is ∙ h.back_is

  -- an object at the end of the tree on side d is at the end of the represented sequence
  pub object_there : (d : Side) (k : Kept) (s : List Place) {end : Option Place} {p object : Place} → EndIs n d v k end → RepresentsFor n v k s → end ≡ Some p → object ≡ p → Some object ≡ end_on d s
  object_there d k s is h at same = ap (λ z. Some z) same ∙ (sym at ∙ end_is d k s is h)

  -- if the table represents the empty sequence, and the root is none, the head is that of an empty tree
  pub emptied : (k : Kept) → RepresentsFor n v k [] → root_kept k ≡ None → IsEmptied k
  emptied (alone root) h none = none
  emptied (ended e) h none =
      ap (λ o. record { root = o; front = e.front; back = e.back }) none
      ∙ ap (λ o. record { root = None; front = o; back = e.back }) h.front_is
      ∙ ap (λ o. record { root = None; front = None; back = o }) h.back_is

module _ {H E : Type 0} (kept : H → Kept) {n : E → Node} where
  -- A POSITION IS VALID for a cursor of the tree given by its root alone, if it is valid for the tree given by its head
  pub stands_root : {L : Type 0} {table : L → Table E} {links : L} {head : H} {at : Option Place} → IsValidCursor (RepresentsKept kept n) table (site links head at)
      → IsValidCursor (Represents n) table (site links (root_kept (kept head)) at)
  stands_root {head = head} x = record { gap = x.gap; shown = shown (kept head) x.shown; after = x.after }

  module _ {old w : Table E} (head : H) where
    -- AN EDIT of the tree given by its root is an edit of the tree given by its head, if the ends in the head are right after the edit
    pub inserts_kept : {gap : Cut} {p : Place} → Inserts (Represents n) old w (root_kept (kept head)) gap p → TellsEnds (kept head) (insert gap p) → Inserts (RepresentsKept kept n) old w head gap p
    inserts_kept x t = record { shows = shows (kept head) x.shows t; frame = x.frame }

    pub removes_kept : {gap : Cut} → Removes (Represents n) old w (root_kept (kept head)) gap → TellsEnds (kept head) (remove gap) → Removes (RepresentsKept kept n) old w head gap
    removes_kept x t = record { shows = shows (kept head) x.shows t; frame = x.frame }

    pub replaces_kept : {gap : Cut} {p : Place} → Replaces (Represents n) old w (root_kept (kept head)) gap p → TellsEnds (kept head) (replace gap p) → Replaces (RepresentsKept kept n) old w head gap p
    replaces_kept x t = record { shows = shows (kept head) x.shows t; frame = x.frame }

    pub appends_kept : {gap : Cut} → Appends (Represents n) old w (root_kept (kept head)) gap → TellsEnds (kept head) (join gap) → Appends (RepresentsKept kept n) old w head gap
    appends_kept x t = record { shows = shows (kept head) x.shows t; frame = x.frame }

  -- if two trees, given by their heads, share no member, then the trees given by their roots share no member
  pub parts_root : {v : Table E} {a b : H} {gap : Cut} → RepresentsParts (RepresentsKept kept n) v a b gap → RepresentsParts (Represents n) v (root_kept (kept a)) (root_kept (kept b)) gap
  parts_root {a = a} {b} x = record { front = shown (kept a) x.front; back = shown (kept b) x.back; distinct = x.distinct }

  pub splits_kept : {old w : Table E} (a b : H) {s t : List Place} → Splits (Represents n) old w (root_kept (kept a)) (root_kept (kept b)) s t → TellsEnds (kept a) s → TellsEnds (kept b) t
      → Splits (RepresentsKept kept n) old w a b s t
  splits_kept a b x ta tb = record { keeps = shows (kept a) x.keeps ta; hands_out = shows (kept b) x.hands_out tb; frame = x.frame }

-- the gap of an insert position on side d of a member is on this side of the member
pub insert_pos_below : {E : Type 0} (n : E → Node) (v : Table E) (parent : Option Place) (d : Side) (gap : Cut) → IsInsertPos n v parent d gap → IsBelow parent d gap
insert_pos_below n v None d gap h = h
insert_pos_below n v (Some q) d gap h = h.1

-- a probe that has made no comparison can count the comparisons of an insert without an overflow
pub room_new : (k : Kept) → HasRoomFor k 0
room_new (alone root) = omega arith
room_new (ended e) = omega arith

-- a probe that can count the comparisons of an insert can also count those of a descent
pub room_descent : (k : Kept) (count : ℕ) → HasRoomFor k count → HasRoom count
room_descent (alone root) count r = r
room_descent (ended e) count r = omega (arith, r)
