-- This file proves facts about XOR linked lists: about their setter, their entries, and their walks.
use Rattle.std.proofs.Common.{◌≡◌, ◌≤◌, Option, Some, List, length, Bool, true, refl, ◌∙◌}
use Rattle.ic_link_ops.specs.Base.{Place, Table, IsCovered, ChangesOnly}
use Rattle.ic_link_ops.specs.Chains.{Ends, no_members, IsStretch}
use Rattle.ic_link_ops.specs.Walk.{walked}
use Rattle.ic_link_ops.specs.Turns.{TurnsAfter, TurnsBefore}
use Rattle.ic_link_ops.specs.XorLinkedList.{IsJoined, Represents, members}
use Rattle.ic_link_ops.proofs.Turning.{turns_after, turns_before}
use Rattle.ic_link_ops.proofs.CollectionLaws.{IsKind}
use Rattle.ic_link_ops.proofs.RepresentedLists.{represents_frame, represents_one, free_absent}
use Rattle.ic_link_ops.proofs.Walks.{stretch_of, stretch_between, stretch_length, stretch_walked}

module _ {E : Type 0} {linked : E → Bool} {joins : E → Option Place → Option Place → Type 0} where
  -- A replacement of one neighbor of p changes the place before p or the place after p, and changes no other entry.
  pub replaced_before : {old new : Table E} {p : Place} {from to : Option Place} → ChangesOnly old new p → linked (new.entry p) ≡ linked (old.entry p)
      → ((x : Option Place) → joins (old.entry p) from x → joins (new.entry p) to x) → TurnsBefore (IsJoined linked joins) old.entry new.entry (Some p) from to
  replaced_before frame kept turn = turns_before frame (λ b h. record { linked = kept ∙ h.linked; joined = turn b h.joined })

  pub replaced_after : ((e : E) (a b : Option Place) → joins e a b → joins e b a)
      → {old new : Table E} {p : Place} {from to : Option Place} → ChangesOnly old new p → linked (new.entry p) ≡ linked (old.entry p)
      → ((x : Option Place) → joins (old.entry p) from x → joins (new.entry p) to x) → TurnsAfter (IsJoined linked joins) old.entry new.entry (Some p) from to
  replaced_after symmetric {old} {new} {p} {from} {to} frame kept turn =
      turns_after frame (λ a h. record { linked = kept ∙ h.linked; joined = symmetric (new.entry p) to a (turn a (symmetric (old.entry p) a from h.joined)) })

  -- Each law of `joins` also holds for `IsJoined`, which also says that the place of the entry is linked.
  pub joined_symmetric : ((e : E) (a b : Option Place) → joins e a b → joins e b a)
      → (e : E) (a b : Option Place) → IsJoined linked joins e a b → IsJoined linked joins e b a
  joined_symmetric symmetric e a b h = record { linked = h.linked; joined = symmetric e a b h.joined }

  pub joined_one : ((e : E) (a b c : Option Place) → joins e a b → joins e a c → b ≡ c)
      → (e : E) (a b c : Option Place) → IsJoined linked joins e a b → IsJoined linked joins e a c → b ≡ c
  joined_one one e a b c h k = one e a b c h.joined k.joined

  pub joined_linked : (e : E) (b a : Option Place) → IsJoined linked joins e b a → linked e ≡ true
  joined_linked e b a h = h.linked

  -- A part of a chain has at most as many members as the table covers places.
  pub part_length : (t : Table E) → ((q : Place) → linked (t.entry q) ≡ true → IsCovered t q)
      → {before front back after : Option Place} {w : List Place} → IsStretch (IsJoined linked joins) t.entry before front back after w → length w ≤ t.extent.places
  part_length t covered k = stretch_length t (λ q b a h. covered q h.linked) k

  pub represented_length : (t : Table E) → ((q : Place) → linked (t.entry q) ≡ true → IsCovered t q)
      → {list : Ends} {s : List Place} → Represents linked joins t list s → length s ≤ t.extent.places
  represented_length t covered shown = part_length t covered (stretch_of shown)

  -- `law` says that `other` computes the neighbor other than the known one. A walk from either end uses the function `other` for
  -- its steps.
  module _ (other : E → Option Place → Option Place) (law : (e : E) (a b : Option Place) → joins e a b → other e a ≡ b) where
    pub joined_step : (e : E) (b a : Option Place) → IsJoined linked joins e b a → other e b ≡ a
    joined_step e b a h = law e b a h.joined

    pub joined_step_back : ((e : E) (a b : Option Place) → joins e a b → joins e b a) → (e : E) (b a : Option Place) → IsJoined linked joins e a b → other e b ≡ a
    joined_step_back symmetric e b a h = law e b a (symmetric e a b h.joined)

    -- A walk along the entries from one end to the other lists the part of a chain between the ends.
    pub part_walked : (t : Table E) → ((q : Place) → linked (t.entry q) ≡ true → IsCovered t q)
        → {before front back after : Option Place} {w : List Place} → IsStretch (IsJoined linked joins) t.entry before front back after w
        → walked other t before front back ≡ w
    part_walked t covered k = stretch_walked other joined_step t (λ q b a h. covered q h.linked) k

    -- The members of a list, read from the entries, are the sequence that the table represents for the list.
    pub members_represented : (t : Table E) → ((q : Place) → linked (t.entry q) ≡ true → IsCovered t q)
        → (list : Ends) (s : List Place) → Represents linked joins t list s → members other t list ≡ s
    members_represented t covered list s shown = part_walked t covered (stretch_between shown)

-- The five facts of `IsKind` hold for XOR lists. `one` is the law that one neighbor determines the other neighbor.
pub xor_lists : {E : Type 0} {linked : E → Bool} {joins : E → Option Place → Option Place → Type 0}
    → ((e : E) (a b c : Option Place) → joins e a b → joins e a c → b ≡ c) → IsKind (Represents linked joins) linked no_members
xor_lists one = record {
  frame = λ old new list s touched shown apart same. represents_frame touched shown apart same;
  free = λ t list s p shown off. free_absent joined_linked shown off;
  distinct = λ t list s shown. shown.distinct;
  nothing = λ t. record { distinct = tt; chain = tt; head = refl; tail = refl };
  one = λ t list s u shown other. represents_one (joined_one one) shown other;
}
