-- This file proves facts about singly linked lists: about their setter, their entries, and their walks.
use Rattle.std.proofs.Common.{◌≡◌, ◌≤◌, Option, Some, None, List, [], ◌∷◌, length, Bool, true, refl, sym, ◌∙◌, ap}
use Rattle.ic_link_ops.specs.Base.{Place, IsDistinct, Table, IsCovered, IsLinked, ChangesOnly}
use Rattle.ic_link_ops.specs.Turns.{TurnsAfter, TurnsBefore}
use Rattle.ic_link_ops.specs.SinglyLinkedList.{Front, list_from, Successor, successor_at, IsFollowed, Represents, next_of, members_from, members, IsWalk}
use Rattle.ic_link_ops.proofs.Turning.{turns_after}
use Rattle.ic_link_ops.proofs.SequenceLemmas.{some_same, none_not}
use Rattle.ic_link_ops.proofs.CollectionLaws.{IsKind}
use Rattle.ic_link_ops.proofs.Clearing.{Releases, releases_left_blind}
use Rattle.ic_link_ops.proofs.RepresentedLists.{free_absent, represents_frame, represents_one}
use Rattle.ic_link_ops.proofs.Walks.{walk_blind, stretch_through, stretch_length, stretch_empty, stretch_of, stretch_first}

-- Only covered places are linked: if an entry says that its place is linked, the table covers the place.
pub successors_covered : {L E : Type 0} {linked : E → Bool} (s : E → Successor) (table : L → Table E) → ((t : L) (q : Place) → IsLinked linked (table t) q → IsCovered (table t) q)
    → ((e : E) → (s e).linked ≡ linked e) → (t : L) (q : Place) → (s ((table t).entry q)).linked ≡ true → IsCovered (table t) q
successors_covered s table covered alike t q h = covered t q (sym (alike _) ∙ h)

module _ {E : Type 0} {s : E → Successor} where
  -- The setter replaces the place after p, whichever place this was, and changes no other entry.
  pub successor_turns : {old new : Table E} {p : Place} {to : Option Place} (from : Option Place) → ChangesOnly old new p
      → successor_at s new p ≡ record (successor_at s old p) { next = to } → TurnsAfter (IsFollowed s) old.entry new.entry (Some p) from to
  successor_turns from frame set =
      turns_after frame (λ a h. record { linked = ap (λ x. x.linked) set ∙ h.linked; next = ap (λ x. x.next) set })

  -- No entry of a singly linked list names the place before its own place. If the place before a member changes, no entry has to
  -- change.
  pub unwritten : {t : Place → E} {at from to : Option Place} → TurnsBefore (IsFollowed s) t t at from to
  unwritten = record { turned = λ q b e h. record { linked = h.linked; next = h.next }; others = λ q apart. refl }

  pub followed_one : (e : E) (a b c : Option Place) → IsFollowed s e a b → IsFollowed s e a c → b ≡ c
  followed_one e a b c h k = sym h.next ∙ k.next

  pub followed_linked : {linked : E → Bool} → ((e : E) → (s e).linked ≡ linked e) → (e : E) (b a : Option Place) → IsFollowed s e b a → linked e ≡ true
  followed_linked alike e b a h = sym (alike e) ∙ h.linked

  -- If w is a walk from the place `front` to the end of the list, `members_from` lists w.
  pub walk_represented : (t : Table E) → ((q : Place) → (s (t.entry q)).linked ≡ true → IsCovered t q)
      → (front : Option Place) (w : List Place) → IsWalk s t.entry front w → members_from s t front ≡ w
  walk_represented t covered front w k =
      walk_blind (λ e. (s e).next) t.entry t.extent.places None k.before front None
      ∙ stretch_through (next_of s) (λ e b a h. h.next) t (λ q b a h. covered q h.linked) k.part

  -- The first member p of a walk is linked, and the other members form a walk that begins with the place after p.
  pub walk_more : (t : Place → E) (p : Place) (w : List Place) → IsWalk s t (Some p) w → (r : List Place) × (w ≡ p ∷ r) × IsWalk s t ((s (t p)).next) r
  walk_more t p [] k = absurd (none_not p (sym k.part.starts))
  walk_more t p (x ∷ w) k =
      let e : p ≡ x = some_same k.part.starts in (
        w,
        ap (λ (q : Place). q ∷ w) (sym e),
        record {
          before = Some x;
          part = record { distinct = k.part.distinct.1; chain = k.part.chain.1; starts = rw e k.part.chain.0.next; ends = refl };
        },
      )

  pub walk_linked : (t : Place → E) (p : Place) (w : List Place) → IsWalk s t (Some p) w → (s (t p)).linked ≡ true
  walk_linked t p w k = (stretch_first k.part).linked

  pub walk_empty : (t : Place → E) (front : Option Place) (w : List Place) → front ≡ None → IsWalk s t front w → w ≡ []
  walk_empty t front w e k = stretch_empty e k.part

  -- The members of a list are a walk from its head, and the walk has at most as many members as the table covers places.
  pub walk_of : (t : Table E) {list : Front} {m : List Place} → Represents s t list m → IsWalk s t.entry list.head m
  walk_of t h = record { before = None; part = stretch_of h }

  pub members_represented : (t : Table E) → ((q : Place) → (s (t.entry q)).linked ≡ true → IsCovered t q)
      → (list : Front) (m : List Place) → Represents s t list m → members s t list ≡ m
  members_represented t covered list m shown = walk_represented t covered list.head m (walk_of t shown)

  pub represented_length : (t : Table E) → ((q : Place) → (s (t.entry q)).linked ≡ true → IsCovered t q)
      → (list : Front) (m : List Place) → Represents s t list m → length m ≤ t.extent.places
  represented_length t covered list m shown = stretch_length t (λ q b a h. covered q h.linked) (stretch_of shown)

  -- While a list is cleared from the front, the members that are not yet unlinked are the members from `current` on.
  pub members_uncleared : {old new : Table E} {m : List Place} {current : Option Place} → ((q : Place) → (s (new.entry q)).linked ≡ true → IsCovered new q)
      → IsDistinct m → (k : Releases (IsFollowed s) old new m current) → members_from s new current ≡ k.rest
  members_uncleared covered d k = releases_left_blind (λ e. (s e).next) (λ e b a h. h.next) (λ q b a h. covered q h.linked) d k

-- The five facts of `IsKind` hold for singly linked lists, if s and `linked` agree on whether the place of an entry is linked.
pub singly_lists : {E : Type 0} {s : E → Successor} {linked : E → Bool} → ((e : E) → (s e).linked ≡ linked e) → IsKind (Represents s) linked (list_from None)
singly_lists {s = s} alike = record {
  frame = λ old new list m touched shown apart same. represents_frame touched shown apart same;
  free = λ t list m p shown off. free_absent (followed_linked alike) shown off;
  distinct = λ t list m shown. shown.distinct;
  nothing = λ t. record { distinct = tt; chain = tt; head = refl; tail = refl };
  one = λ t list m r shown other. represents_one (followed_one {s = s}) shown other;
}
