-- Lemmas that prove the contract of an edit at a position in both cases: the object's link was acquired, or it was refused.
use Rattle.std.proofs.Common.{◌≡◌, List, [], ◌∷◌, Bool, true, false, Result, Ok, Err, OnOk, OnErr, IfErr, Option, Some, refl, sym, subst}
use Rattle.std.specs.Bool.{OnTrue, OnFalse}
use Rattle.ic_link_ops.specs.Prelude.{Place, Cut, join, IsAfter, IsBefore, Table, CursorState, RepresentsAt, IsValidCursor, LinkStep, acquires, Inserts, InsertsBeside, ReplacesThere}
use Rattle.ic_link_ops.specs.declared.errors.AlreadyLinked.{AlreadyLinked}
use Rattle.ic_link_ops.proofs.Positions.{inserts_after, inserts_before}
use Rattle.ic_cursors.specs.Answers.{inserted, replaced}

-- AN INSERT BESIDE A POSITION meets its contract, if the facts before the last arrow hold. If the boolean `b` is true, they say that the object's link was
-- acquired, and into which gap the object was inserted. If `b` is false, they say that the link was refused
module _ {L E H : Type 0} (Represents : Table E → H → List Place → Type 0) (table : L → Table E) (Trace : L → L → List LinkStep → Type 0) (Refused : L → L → Place → Type 0)
    (old new : CursorState L H) (p : Place) (T : Type 0) (IsBeside : Cut → Option Place → Type 0) where
  abbrev pub Puts : Type 0
  Puts = (b : Bool) → OnTrue b (Trace old.links new.links (acquires p ∷ [])) → OnFalse b (Refused old.links new.links p) → OnFalse b (new.head ≡ old.head)
      → ((gap : Cut) → RepresentsAt Represents table old (join gap) → IsBeside gap old.position → OnTrue b (Inserts Represents (table old.links) (table new.links) new.head gap p))
      → InsertsBeside Represents table Trace {T = T} Refused IsBeside old p (inserted p b) new

  by_result : ((r : Result Unit (AlreadyLinked T)) → OnOk r (Trace old.links new.links (acquires p ∷ [])) → OnErr r (Refused old.links new.links p)
      → IfErr r (λ refused. (refused.0 ≡ p) × (new.head ≡ old.head))
      → ((gap : Cut) → RepresentsAt Represents table old (join gap) → IsBeside gap old.position → OnOk r (Inserts Represents (table old.links) (table new.links) new.head gap p))
      → InsertsBeside Represents table Trace Refused IsBeside old p r new) → Puts
  by_result says true acquired refused unchanged puts = says (Ok tt) acquired tt tt puts
  by_result says false acquired refused unchanged puts = says (Err (record { 0 = p })) tt refused (refl, unchanged) (λ _ _ _. tt)

-- `keeps`: the law that a refused link leaves all entries of the table as they were
module _ {L E H : Type 0} {Represents : Table E → H → List Place → Type 0} {table : L → Table E} {Trace : L → L → List LinkStep → Type 0} {Refused : L → L → Place → Type 0}
    (keeps : (a b : L) (q : Place) → Refused a b q → table b ≡ table a) {old new : CursorState L H} (p : Place) (stands : IsValidCursor Represents table old)
    (position : new.position ≡ old.position) {T : Type 0} where
  pub put_after : Puts Represents table Trace Refused old new p T IsAfter
  put_after = by_result Represents table Trace Refused old new p T IsAfter (inserts_after keeps p stands position)

  pub put_before : Puts Represents table Trace Refused old new p T IsBefore
  put_before = by_result Represents table Trace Refused old new p T IsBefore (inserts_before keeps p stands position)

module _ {L E H T : Type 0} {Represents : Table E → H → List Place → Type 0} {table : L → Table E} {Trace : L → L → List LinkStep → Type 0} {Refused : L → L → Place → Type 0}
    {old new : CursorState L H} {p out : Place} where
  pub put_there : old.position ≡ Some out → ReplacesThere Represents table Trace {T = T} Refused old p (Ok out) new
      → ReplacesThere Represents table Trace {T = T} Refused old p (replaced old.position p true) new
  put_there on e = subst (λ position. ReplacesThere Represents table Trace {T = T} Refused old p (replaced position p true) new) (sym on) e
