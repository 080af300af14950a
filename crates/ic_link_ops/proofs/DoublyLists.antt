-- This file proves facts about doubly linked lists: about their setters, their entries, and their walks.
use Rattle.std.proofs.Common.{◌≡◌, ◌≢◌, ◌≤◌, Option, Some, None, List, [], ◌∷◌, ◌++◌, length, Bool, true, refl, sym, ◌∙◌, ap}
use Rattle.ic_link_ops.specs.Base.{Place, index_of, first, IsDistinct, Table, IsCovered, IsLinked, ChangesOnly}
use Rattle.ic_link_ops.specs.Chains.{Ends, no_members}
use Rattle.ic_link_ops.specs.Turns.{TurnsAfter, TurnsBefore}
use Rattle.ic_link_ops.specs.LinkedList.{Neighbors, neighbors_at, IsBetween, Represents, next_of, members_between, members, IsWalk}
use Rattle.ic_link_ops.specs.DoublyEntries.{DoublyLinkOps, neighbors_of, is_linked, entries, linked_in_range, plain_table, PlainRepresents, members_of}
use Rattle.ic_link_ops.proofs.Turning.{turns_after, turns_before}
use Rattle.ic_link_ops.proofs.RepresentedLists.{represents_frame, represents_one, free_absent}
use Rattle.ic_link_ops.proofs.CollectionLaws.{IsKind}
use Rattle.ic_link_ops.proofs.Clearing.{Releases, releases_left_blind}
use Rattle.ic_link_ops.proofs.Walks.{walk_blind, walked_from_gap, stretch_walked, stretch_length, stretch_one, stretch_more, stretch_less, stretch_none, stretch_empty, stretch_empty_back, stretch_between, stretch_first, stretch_last}

-- Only covered places are linked: if an entry says that its place is linked, the table covers the place.
pub neighbors_covered : {L E : Type 0} {linked : E → Bool} (n : E → Neighbors) (table : L → Table E) → ((t : L) (q : Place) → IsLinked linked (table t) q → IsCovered (table t) q)
    → ((e : E) → (n e).linked ≡ linked e) → (t : L) (q : Place) → (n ((table t).entry q)).linked ≡ true → IsCovered (table t) q
neighbors_covered n table covered alike t q h = covered t q (sym (alike _) ∙ h)

module _ {E : Type 0} {n : E → Neighbors} where
  -- Each setter replaces one neighbor of the place p, whichever place this neighbor was, and changes no other entry.
  pub next_turns : {old new : Table E} {p : Place} {to : Option Place} (from : Option Place) → ChangesOnly old new p
      → neighbors_at n new p ≡ record (neighbors_at n old p) { next = to } → TurnsAfter (IsBetween n) old.entry new.entry (Some p) from to
  next_turns from frame set =
      turns_after frame (λ a h. record { linked = ap (λ x. x.linked) set ∙ h.linked; prev = ap (λ x. x.prev) set ∙ h.prev; next = ap (λ x. x.next) set })

  pub prev_turns : {old new : Table E} {p : Place} {to : Option Place} (from : Option Place) → ChangesOnly old new p
      → neighbors_at n new p ≡ record (neighbors_at n old p) { prev = to } → TurnsBefore (IsBetween n) old.entry new.entry (Some p) from to
  prev_turns from frame set =
      turns_before frame (λ b h. record { linked = ap (λ x. x.linked) set ∙ h.linked; prev = ap (λ x. x.prev) set; next = ap (λ x. x.next) set ∙ h.next })

  -- An entry and the place before determine the place after.
  pub between_one : (e : E) (a b c : Option Place) → IsBetween n e a b → IsBetween n e a c → b ≡ c
  between_one e a b c h k = sym h.next ∙ k.next

  -- If an entry says that its place is between two places, the table says that the place is linked.
  pub between_linked : {linked : E → Bool} → ((e : E) → (n e).linked ≡ linked e) → (e : E) (b a : Option Place) → IsBetween n e b a → linked e ≡ true
  between_linked alike e b a h = sym (alike e) ∙ h.linked

  -- A walk has at most as many members as the table covers places.
  pub walk_length : (t : Table E) → ((q : Place) → (n (t.entry q)).linked ≡ true → IsCovered t q)
      → (from to : Option Place) (w : List Place) → IsWalk n t.entry from to w → length w ≤ t.extent.places
  walk_length t covered from to w k = stretch_length t (λ q b a h. covered q h.linked) k.part

  -- If w is a walk from the place `from` to the place `to`, `members_between` lists w.
  pub walk_represented : (t : Table E) → ((q : Place) → (n (t.entry q)).linked ≡ true → IsCovered t q)
      → (from to : Option Place) (w : List Place) → IsWalk n t.entry from to w → members_between n t from to ≡ w
  walk_represented t covered from to w k =
      walk_blind (λ e. (n e).next) t.entry t.extent.places None k.before from to
      ∙ stretch_walked (next_of n) (λ e a b h. h.next) t (λ q b a h. covered q h.linked) k.part

  -- If both ends of a walk are the same place p, p is the only member of the walk.
  pub walk_last : (t : Place → E) (p : Place) (w : List Place) → IsWalk n t (Some p) (Some p) w → w ≡ p ∷ []
  walk_last t p w k = stretch_one k.part

  -- If the first member p of a walk is not its last member, the other members form a walk that begins with the place after p.
  pub walk_more : (t : Place → E) (p : Place) (to : Option Place) (w : List Place) → IsWalk n t (Some p) to w → to ≢ Some p
      → (r : List Place) × (w ≡ p ∷ r) × IsWalk n t ((n (t p)).next) to r
  walk_more t p to w k apart =
      let more = stretch_more (next_of n) (λ e a b h. h.next) k.part apart in
      (more.0, more.1, record { before = Some p; after = k.after; part = more.2 })

  -- If the last member p of a walk is not its first member, the other members form a walk that ends with the place before p.
  pub walk_less : (t : Place → E) (from : Option Place) (p : Place) (w : List Place) → IsWalk n t from (Some p) w → from ≢ Some p
      → (r : List Place) × (w ≡ r ++ p ∷ []) × IsWalk n t from ((n (t p)).prev) r
  walk_less t from p w k apart =
      let less = stretch_less (λ e after. (n e).prev) (λ e a b h. h.prev) k.part apart in
      (less.0, less.1, record { before = k.before; after = Some p; part = less.2 })

  -- The first member of a walk is linked, and so is its last member.
  pub walk_linked : (t : Place → E) (p : Place) (to : Option Place) (w : List Place) → IsWalk n t (Some p) to w → (n (t p)).linked ≡ true
  walk_linked t p to w k = (stretch_first k.part).linked

  pub walk_back_linked : (t : Place → E) (from : Option Place) (p : Place) (w : List Place) → IsWalk n t from (Some p) w → (n (t p)).linked ≡ true
  walk_back_linked t from p w k = (stretch_last k.part).linked

  -- A walk with no first member, or with no last member, has no members.
  pub walk_none : (t : Place → E) → IsWalk n t None None []
  walk_none t = record { before = None; after = None; part = stretch_none }

  pub walk_empty : (t : Place → E) (from to : Option Place) (w : List Place) → from ≡ None → IsWalk n t from to w → w ≡ []
  walk_empty t from to w e k = stretch_empty e k.part

  pub walk_empty_back : (t : Place → E) (from to : Option Place) (w : List Place) → to ≡ None → IsWalk n t from to w → w ≡ []
  walk_empty_back t from to w e k = stretch_empty_back e k.part

  -- The members of a list are a walk from its head to its tail.
  pub walk_of : (t : Table E) {list : Ends} {s : List Place} → Represents n t list s → IsWalk n t.entry list.head list.tail s
  walk_of t h = record { before = None; after = None; part = stretch_between h }

  -- The members of a list, read from the entries, are the sequence that the table represents for the list.
  pub members_represented : (t : Table E) → ((q : Place) → (n (t.entry q)).linked ≡ true → IsCovered t q)
      → (list : Ends) (s : List Place) → Represents n t list s → members n t list ≡ s
  members_represented t covered list s shown = walk_represented t covered list.head list.tail s (walk_of t shown)

  -- A represented sequence has at most as many members as the table covers places.
  pub represented_length : (t : Table E) → ((q : Place) → (n (t.entry q)).linked ≡ true → IsCovered t q)
      → (list : Ends) (s : List Place) → Represents n t list s → length s ≤ t.extent.places
  represented_length t covered list s shown = walk_length t covered list.head list.tail s (walk_of t shown)

  -- The members after a gap are those that `members_between` lists from the first member after the gap to the end of the list.
  pub members_after : (t : Table E) → ((q : Place) → (n (t.entry q)).linked ≡ true → IsCovered t q)
      → {list : Ends} (front back : List Place) {position : Option Place} → Represents n t list (front ++ back) → position ≡ first back
      → members_between n t position None ≡ back
  members_after t covered front back shown here =
      walked_from_gap {between = IsBetween n} (λ e. (n e).next) (λ e b a h. h.next) t (λ q b a h. covered q h.linked) front back shown.distinct shown.chain here

  -- While a list is cleared from the front, the members that are not yet unlinked are the members from `current` on.
  pub members_uncleared : {old new : Table E} {s : List Place} {current : Option Place} → ((q : Place) → (n (new.entry q)).linked ≡ true → IsCovered new q)
      → IsDistinct s → (k : Releases (IsBetween n) old new s current) → members_between n new current None ≡ k.rest
  members_uncleared covered d k = releases_left_blind (λ e. (n e).next) (λ e b a h. h.next) (λ q b a h. covered q h.linked) d k

-- The five facts of `IsKind` hold for doubly linked lists, if n and `linked` agree on whether the place of an entry is linked.
pub doubly_lists : {E : Type 0} {n : E → Neighbors} {linked : E → Bool} → ((e : E) → (n e).linked ≡ linked e) → IsKind (Represents n) linked no_members
doubly_lists {n = n} alike = record {
  frame = λ old new list s touched shown apart same. represents_frame touched shown apart same;
  free = λ t list s p shown off. free_absent (between_linked alike) shown off;
  distinct = λ t list s shown. shown.distinct;
  nothing = λ t. record { distinct = tt; chain = tt; head = refl; tail = refl };
  one = λ t list s u shown other. represents_one (between_one {n = n}) shown other;
}

-- The five facts of `IsKind` hold for doubly linked lists in a plain table.
pub plain_lists : IsKind (Represents neighbors_of) is_linked no_members
plain_lists = doubly_lists (λ e. refl)

module _ {A : Type 0} (links : DoublyLinkOps A) where
  -- If a place is linked in the plain table, the table covers the place.
  pub plain_covered : (p : Place) → IsLinked is_linked (plain_table links) p → IsCovered (plain_table links) p
  plain_covered p linked = linked_in_range (entries links) (index_of p) linked

  -- The members of a list in the plain table are the sequence that the table represents for the list.
  pub plain_members : {list : Ends} {s : List Place} → PlainRepresents links list s → members_of links list ≡ s
  plain_members {list} {s} shown = members_represented (plain_table links) plain_covered list s shown
