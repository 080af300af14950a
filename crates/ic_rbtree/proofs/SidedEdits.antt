-- Lemmas about an insert beside a position, for either side.
use Rattle.std.proofs.Common.{◌≡◌, List, [], ◌∷◌, Bool}
use Rattle.std.specs.Bool.{OnTrue, OnFalse}
use Rattle.ic_link_ops.specs.Prelude.{Place, Cut, join, Table, CursorState, RepresentsAt, IsValidCursor, LinkStep, acquires, Inserts, InsertsBeside}
use Rattle.ic_link_ops.specs.declared.side.Side.{Side}
use Rattle.ic_link_ops.specs.declared.side.Side.TheVariants.{Left, Right}
use Rattle.ic_link_ops.proofs.Positions.{gap_there}
use Rattle.ic_cursors.specs.Answers.{inserted}
use Rattle.ic_cursors.proofs.Placed.{put_after, put_before}
use Rattle.ic_rbtree.specs.Sides.{IsBeside}

module _ {L E H : Type 0} {Represents : Table E → H → List Place → Type 0} {table : L → Table E} where
  -- a valid position has a gap beside it on either side, and the table represents the sequence of this gap
  pub gap_beside : {at : CursorState L H} (d : Side) → IsValidCursor Represents table at → (gap : Cut) × RepresentsAt Represents table at (join gap) × IsBeside d gap at.position
  gap_beside Left stands = gap_there stands
  gap_beside Right stands = (stands.gap, stands.shown, stands.after)

  pub inserts_beside : (d : Side) {Refused : L → L → Place → Type 0} → ((a b : L) (q : Place) → Refused a b q → table b ≡ table a) → {old new : CursorState L H} (p : Place)
      → IsValidCursor Represents table old → new.position ≡ old.position → {T : Type 0} {Trace : L → L → List LinkStep → Type 0} (b : Bool)
      → OnTrue b (Trace old.links new.links (acquires p ∷ [])) → OnFalse b (Refused old.links new.links p) → OnFalse b (new.head ≡ old.head)
      → ((gap : Cut) → RepresentsAt Represents table old (join gap) → IsBeside d gap old.position → OnTrue b (Inserts Represents (table old.links) (table new.links) new.head gap p))
      → InsertsBeside Represents table Trace Refused (IsBeside d) old p (inserted {T = T} p b) new
  inserts_beside Left keeps p stands position b acquired refused unchanged puts = put_before keeps p stands position b acquired refused unchanged puts
  inserts_beside Right keeps p stands position b acquired refused unchanged puts = put_after keeps p stands position b acquired refused unchanged puts
