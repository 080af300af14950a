-- A frame says which entries an edit may change. This file proves that an edit keeps the covered places, and that two frames can
-- be joined.
use Rattle.std.proofs.Common.{◌∙◌, List}
use Rattle.ic_link_ops.specs.Base.{Place, IsAbsent, Table, IsCovered, ChangesOnlyIn}

-- A covered place is still covered after an edit, whichever entries the edit changed.
pub still_covered : {E : Type 0} {old new : Table E} {touched : List Place} (p : Place) → ChangesOnlyIn old new touched → IsCovered old p → IsCovered new p
still_covered p frame was = rw frame.extent was

-- The first edit changes only entries at members of s, and the second edit only entries at members of t. If each member of t is a
-- member of s, both edits together change only entries at members of s. `adds_none` says that each place absent from s is absent
-- from t.
pub frames_join : {E : Type 0} {a b c : Table E} {s t : List Place} → ChangesOnlyIn a b s → ChangesOnlyIn b c t → (adds_none : (q : Place) → IsAbsent q s → IsAbsent q t)
    → ChangesOnlyIn a c s
frames_join first second adds_none = record {
  extent = second.extent ∙ first.extent;
  others = λ q out. second.others q (adds_none q out) ∙ first.others q out;
}
