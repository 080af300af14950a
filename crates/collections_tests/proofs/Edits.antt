-- Lemmas on edits by a cursor: each call of a test leaves what the next call requires. An insert does not change how many places the table covers. After a
-- split, the two parts share no member, so a splice can put them together again.
use Rattle.std.proofs.Common.{◌≡◌, Bool, Result, Ok, Err, List, [], ap}
use Rattle.ic_link_ops.specs.Prelude.{Place, IsAfter, IsBefore, Table, CursorState, IsValidCursor, LinkStep, InsertsBeside, SplicesBeside, SplitsAfter, SplitsBefore, WhereApart}
use Rattle.ic_link_ops.specs.declared.errors.AlreadyLinked.{AlreadyLinked}
use Rattle.ic_link_ops.specs.TwoLists.{AreApart}
use Rattle.ic_link_ops.proofs.Prelude.{IsKind, gap_there}
use Rattle.ic_link_ops.proofs.SequenceLemmas.{gap_before}
use Rattle.ic_link_ops.proofs.TwoLists.{split_after, split_before}

module _ {L E H : Type 0} {Represents : Table E → H → List Place → Type 0} {table : L → Table E} where
  -- an insert before the cursor, or after it, does not change how many places the table covers. `keeps` is the law that a refused insert does not change
  -- the table
  pub covered_before : {Trace : L → L → List LinkStep → Type 0} {Refused : L → L → Place → Type 0} {T : Type 0} {old new : CursorState L H} {p : Place}
      → (keeps : (a b : L) (q : Place) → Refused a b q → table b ≡ table a) → IsValidCursor Represents table old
      → (r : Result Unit (AlreadyLinked T)) → InsertsBeside Represents table Trace Refused IsBefore old p r new
      → (table new.links).extent.places ≡ (table old.links).extent.places
  covered_before keeps stands (Ok x) e = let k = gap_there stands in ap (λ x. x.places) (e.inserted k.0 k.1 k.2).frame.extent
  covered_before keeps stands (Err x) e = ap (λ t. t.extent.places) (keeps _ _ _ e.refused)

  pub covered_after : {Trace : L → L → List LinkStep → Type 0} {Refused : L → L → Place → Type 0} {T : Type 0} {old new : CursorState L H} {p : Place}
      → (keeps : (a b : L) (q : Place) → Refused a b q → table b ≡ table a) → IsValidCursor Represents table old
      → (r : Result Unit (AlreadyLinked T)) → InsertsBeside Represents table Trace Refused IsAfter old p r new
      → (table new.links).extent.places ≡ (table old.links).extent.places
  covered_after keeps stands (Ok x) e = ap (λ x. x.places) (e.inserted stands.gap stands.shown stands.after).frame.extent
  covered_after keeps stands (Err x) e = ap (λ t. t.extent.places) (keeps _ _ _ e.refused)

  -- a list shares no member with an empty list (`alone_there`). If a list is split after or before the cursor's position, then its two parts share no
  -- member
  module _ {linked : E → Bool} {empty : H} (kind : IsKind Represents linked empty) {old : CursorState L H} (stands : IsValidCursor Represents table old) where
    alone_there : AreApart Represents (table old.links) old.head empty old.position
    alone_there = record {
      gap = stands.gap;
      rest = [];
      shown = stands.shown;
      after = stands.after;
      other_represented = kind.nothing (table old.links);
      apart = tt;
    }

    pub parts_after : {Trace : L → L → List LinkStep → Type 0} {new : CursorState L H} {handed : H} → SplitsAfter Represents table Trace old handed new
        → AreApart Represents (table new.links) new.head handed new.position
    parts_after e = rw e.position (split_after kind alone_there e.split)

    pub parts_before : {Trace : L → L → List LinkStep → Type 0} {new : CursorState L H} {handed : H} → SplitsBefore Represents table Trace old handed new
        → AreApart Represents (table new.links) new.head handed new.position
    parts_before e = rw e.position (split_before kind alone_there e.split)

  -- the contract of a splice ensures `Holds` if the cursor's list and the spliced list `given` share no member. So if they share none, then `Holds` holds
  module _ {Trace : L → L → List LinkStep → Type 0} {at new : CursorState L H} {given : H} {Holds : Type 0} where
    pub where_after : SplicesBeside Represents table Trace IsAfter at given new → AreApart Represents (table at.links) at.head given at.position
        → WhereApart Represents table IsAfter at given (λ gap t. Holds) → Holds
    where_after splices parts put = put parts.gap parts.rest parts.shown parts.after parts.other_represented parts.apart

    pub where_before : SplicesBeside Represents table Trace IsBefore at given new → AreApart Represents (table at.links) at.head given at.position
        → WhereApart Represents table IsBefore at given (λ gap t. Holds) → Holds
    where_before splices parts put =
        let k = gap_before parts.gap at.position parts.after in put k.0 parts.rest (rw k.1 parts.shown) k.2 parts.other_represented (rw k.1 parts.apart)
