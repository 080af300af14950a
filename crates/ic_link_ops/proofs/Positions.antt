-- This file proves which gaps are beside a position in a collection, and that a position is valid after a call.
use Rattle.std.proofs.Common.{◌≡◌, ◌∙◌, sym, Result, Ok, Err, OnOk, OnErr, IfErr, Option, Some, None, List, [], ◌∷◌, ◌++◌, drop, append-nil, append_assoc}
use Rattle.ic_link_ops.specs.Base.{Place, Cut, join, splice, at_front, at_back, first, last, IsAfter, IsBefore, Table, CursorState, RepresentsAt, IsValidCursor, MovesOn, MovesBack, HasMember, IsSecondAfter, LinkStep, acquires}
use Rattle.ic_link_ops.specs.declared.errors.AlreadyLinked.{AlreadyLinked}
use Rattle.ic_link_ops.specs.Edits.{Inserts, Removes, Replaces, Splits}
use Rattle.ic_link_ops.specs.EditsAt.{InsertsBeside}
use Rattle.ic_link_ops.proofs.SequenceLemmas.{gap_after, gap_before, first_is}

module _ {L E H : Type 0} {Represents : Table E → H → List Place → Type 0} {table : L → Table E} where
  -- A position is valid if a gap of the represented sequence is before it.
  pub stands_by_gap : {at : CursorState L H} (gap : Cut) → RepresentsAt Represents table at (join gap) → IsBefore gap at.position → IsValidCursor Represents table at
  stands_by_gap {at = at'} gap shown before =
      let k = gap_after gap at'.position before in record { gap = k.0; shown = rw k.1 shown; after = k.2 }

  -- A position is valid if it is null and the table represents a sequence for the collection.
  pub stands_null : {at : CursorState L H} (s : List Place) → RepresentsAt Represents table at s → at.position ≡ None → IsValidCursor Represents table at
  stands_null s shown e = record { gap = at_front s; shown = shown; after = e }

  -- A position is valid if it is on the first member of the collection (`stands_first`) or on the last member (`stands_last`).
  pub stands_first : {at : CursorState L H} (s : List Place) → RepresentsAt Represents table at s → at.position ≡ first s → IsValidCursor Represents table at
  stands_first s shown e = stands_by_gap (at_front s) shown e

  pub stands_last : {at : CursorState L H} (s : List Place) → RepresentsAt Represents table at s → at.position ≡ last s → IsValidCursor Represents table at
  stands_last s shown e = record { gap = at_back s; shown = rw (append-nil s) shown; after = e }

  -- A position is valid if it is on a member of the represented sequence.
  pub stands_on : {at : CursorState L H} {p : Place} → HasMember (RepresentsAt Represents table at) p → at.position ≡ Some p → IsValidCursor Represents table at
  stands_on {p = p} member e = stands_by_gap (record { front = member.front; back = p ∷ member.back }) member.shown e

  -- A valid position has a gap before it.
  pub gap_there : {at : CursorState L H} → IsValidCursor Represents table at → (gap : Cut) × RepresentsAt Represents table at (join gap) × IsBefore gap at.position
  gap_there {at = at'} stands =
      let k = gap_before stands.gap at'.position stands.after in (k.0, rw (← k.1) at stands.shown, k.2)

  -- If a valid position is on a place, the place is a member of the represented sequence.
  pub member_there : {at : CursorState L H} {p : Place} → IsValidCursor Represents table at → at.position ≡ Some p → HasMember (RepresentsAt Represents table at) p
  member_there stands e =
      let k = gap_there stands in
      record { front = k.0.front; back = drop 1 k.0.back; shown = rw (first_is k.0.back (sym e ∙ k.2)) at k.1 }

  -- If the gap after the old position is the gap before the new position, the call has moved to the next member, and the new
  -- position is valid. `moves_back` proves the same for a move to the previous member.
  pub moves_on : {old : CursorState L H} {position : Option Place} → IsValidCursor Represents table old
      → ((gap : Cut) → RepresentsAt Represents table old (join gap) → IsAfter gap old.position → IsBefore gap position) → MovesOn Represents table old position
  moves_on stands leads = record { leads = leads; stands = stands_by_gap stands.gap stands.shown (leads stands.gap stands.shown stands.after) }

  pub moves_back : {old : CursorState L H} {position : Option Place} → IsValidCursor Represents table old
      → ((gap : Cut) → RepresentsAt Represents table old (join gap) → IsBefore gap old.position → IsAfter gap position) → MovesBack Represents table old position
  moves_back stands leads =
      let k = gap_there stands in
      record { leads = leads; stands = record { gap = k.0; shown = k.1; after = leads k.0 k.1 k.2 } }

  -- A position stays valid if the members t are inserted at the gap after it (`put_after`) or at the gap before it
  -- (`put_before`).
  pub put_after : {at : CursorState L H} (gap : Cut) (t : List Place) → RepresentsAt Represents table at (splice gap t) → IsAfter gap at.position → IsValidCursor Represents table at
  put_after gap t shown after = record { gap = record { front = gap.front; back = t ++ gap.back }; shown = shown; after = after }

  pub put_before : {at : CursorState L H} (gap : Cut) (t : List Place) → RepresentsAt Represents table at (splice gap t) → IsBefore gap at.position → IsValidCursor Represents table at
  put_before gap t shown before =
      stands_by_gap (record { front = gap.front ++ t; back = gap.back }) (rw (append_assoc gap.front t gap.back) shown) before

  -- If an edit was refused, and the entries, the head and the position are as before, the position is still valid.
  module _ {old new : CursorState L H} (stands : IsValidCursor Represents table old) where
    pub stands_still : table new.links ≡ table old.links → new.head ≡ old.head → new.position ≡ old.position → IsValidCursor Represents table new
    stands_still same head position = record { gap = stands.gap; shown = rw (same, head) stands.shown; after = position ∙ stands.after }

    -- If the member at the position was removed, and the new position is on the next member, the new position is valid.
    pub removed_stands : ((gap : Cut) → RepresentsAt Represents table old (join gap) → IsBefore gap old.position → Removes Represents (table old.links) (table new.links) new.head gap)
        → ((gap : Cut) → RepresentsAt Represents table old (join gap) → IsBefore gap old.position → IsSecondAfter gap new.position) → IsValidCursor Represents table new
    removed_stands removes moves =
        let k = gap_there stands in
        stands_by_gap (record { front = k.0.front; back = drop 1 k.0.back }) (removes k.0 k.1 k.2).shows (moves k.0 k.1 k.2)

    -- If the place p replaced the member at the position, and the new position is on p, the new position is valid.
    pub replaced_stands : {p : Place} → new.position ≡ Some p
        → ((gap : Cut) → RepresentsAt Represents table old (join gap) → IsBefore gap old.position → Replaces Represents (table old.links) (table new.links) new.head gap p)
        → IsValidCursor Represents table new
    replaced_stands position replaces =
        let k = gap_there stands in stands_on (record { front = k.0.front; back = drop 1 k.0.back; shown = (replaces k.0 k.1 k.2).shows }) position

    -- A position stays valid after the next member was removed (`next_removed_stands`) or was replaced (`next_replaced_stands`).
    pub next_removed_stands : new.position ≡ old.position
        → ((gap : Cut) → RepresentsAt Represents table old (join gap) → IsAfter gap old.position → Removes Represents (table old.links) (table new.links) new.head gap)
        → IsValidCursor Represents table new
    next_removed_stands position removes = record {
      gap = record { front = stands.gap.front; back = drop 1 stands.gap.back };
      shown = (removes stands.gap stands.shown stands.after).shows;
      after = position ∙ stands.after;
    }

    pub next_replaced_stands : {p : Place} → new.position ≡ old.position
        → ((gap : Cut) → RepresentsAt Represents table old (join gap) → IsAfter gap old.position → Replaces Represents (table old.links) (table new.links) new.head gap p)
        → IsValidCursor Represents table new
    next_replaced_stands {p} position replaces = record {
      gap = record { front = stands.gap.front; back = p ∷ drop 1 stands.gap.back };
      shown = (replaces stands.gap stands.shown stands.after).shows;
      after = position ∙ stands.after;
    }

    -- A position stays valid after a split at the gap after it (`split_after`) or at the gap before it (`split_before`).
    pub split_after : {handed : H} → ((gap : Cut) → RepresentsAt Represents table old (join gap) → IsAfter gap old.position
        → Splits Represents (table old.links) (table new.links) new.head handed gap.front gap.back) → new.position ≡ old.position → IsValidCursor Represents table new
    split_after splits position = record {
      gap = at_back stands.gap.front;
      shown = rw (append-nil stands.gap.front) (splits stands.gap stands.shown stands.after).keeps;
      after = position ∙ stands.after;
    }

    pub split_before : {handed : H} → ((gap : Cut) → RepresentsAt Represents table old (join gap) → IsBefore gap old.position
        → Splits Represents (table old.links) (table new.links) new.head handed gap.back gap.front) → new.position ≡ old.position → IsValidCursor Represents table new
    split_before splits position =
        let k = gap_there stands in stands_by_gap (at_front k.0.back) (splits k.0 k.1 k.2).keeps (position ∙ k.2)

  -- The position is valid after the insert of p, whether the insert was accepted or refused. `keeps` is the law that a refusal
  -- changes no entry.
  module _ {Refused : L → L → Place → Type 0} (keeps : (a b : L) (q : Place) → Refused a b q → table b ≡ table a) {old new : CursorState L H} (p : Place)
      (stands : IsValidCursor Represents table old) (position : new.position ≡ old.position) {T : Type 0} where
    either_way : (r : Result Unit (AlreadyLinked T)) {P : Type 0} → OnOk r P → (P → IsValidCursor Represents table new) → OnErr r (Refused old.links new.links p)
        → IfErr r (λ refused. (refused.0 ≡ p) × (new.head ≡ old.head)) → IsValidCursor Represents table new
    either_way (Ok x) put then refused unchanged = then put
    either_way (Err e) put then refused unchanged = stands_still stands (keeps _ _ _ refused) unchanged.1 position

    module _ {Trace : L → L → List LinkStep → Type 0} (r : Result Unit (AlreadyLinked T)) (acquired : OnOk r (Trace old.links new.links (acquires p ∷ [])))
        (refused : OnErr r (Refused old.links new.links p)) (unchanged : IfErr r (λ refused. (refused.0 ≡ p) × (new.head ≡ old.head))) where
      pub inserts_after : ((gap : Cut) → RepresentsAt Represents table old (join gap) → IsAfter gap old.position → OnOk r (Inserts Represents (table old.links) (table new.links) new.head gap p))
          → InsertsBeside Represents table Trace Refused IsAfter old p r new
      inserts_after inserted = record {
        inserted = inserted;
        acquired = acquired;
        refused = refused;
        unchanged = unchanged;
        position = position;
        stands = either_way r (inserted stands.gap stands.shown stands.after)
            (λ i. put_after stands.gap (p ∷ []) i.shows (position ∙ stands.after)) refused unchanged;
      }

      pub inserts_before : ((gap : Cut) → RepresentsAt Represents table old (join gap) → IsBefore gap old.position → OnOk r (Inserts Represents (table old.links) (table new.links) new.head gap p))
          → InsertsBeside Represents table Trace Refused IsBefore old p r new
      inserts_before inserted =
          let k = gap_there stands in record {
            inserted = inserted;
            acquired = acquired;
            refused = refused;
            unchanged = unchanged;
            position = position;
            stands = either_way r (inserted k.0 k.1 k.2) (λ i. put_before k.0 (p ∷ []) i.shows (position ∙ k.2)) refused unchanged;
          }
