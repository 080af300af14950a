-- A caller proves with these lemmas which edit a call has made, from the clauses of the call's contract.
use Rattle.std.proofs.Common.{◌≡◌, true, Bool, Result, Ok, Err, OnOk, OnErr, Some, List, [], ◌∷◌, ◌++◌, drop, subst}
use Rattle.ic_link_ops.specs.Prelude.{Place, first, Table, IsUnlinked, ChangesOnlyIn, KeepsLinked, LinksAlso, Unlinks, HasMember}
use Rattle.ic_link_ops.proofs.Calling.{accepted}
use Rattle.ic_link_ops.proofs.SequenceLemmas.{first_is}
use Rattle.ic_container.specs.Edited.{HasJoined, HasLeft, HasMoved}

-- if P implies Q, and P holds if the call's result r is `Ok`, then Q holds if r is `Ok`. `refused_linked` is about a result that is an error
pub done : {X Y P Q : Type 0} (r : Result X Y) → (P → Q) → OnOk r P → OnOk r Q
done (Ok x) law h = law h
done (Err y) law h = h

pub refused_linked : {X Y P Q : Type 0} (r : Result X Y) → (P → Q) → OnErr r P → OnErr r (Q × P)
refused_linked (Ok x) law h = h
refused_linked (Err y) law h = (law h, h)

module _ {E H : Type 0} {Represents : Table E → H → List Place → Type 0} {linked : E → Bool} {old new : Table E} {head after : H} {p : Place} (s : List Place) (shown : Represents old head s) where
  -- A PUSH of a place that was not linked is an edit in which the place joins the collection. `refused`, `inserted`, `acquired` and `frame` are clauses of
  -- the call
  module _ {X Y : Type 0} (Same : Type 0) (r : Result X Y) (off : IsUnlinked linked old p) (refused : OnErr r ((linked (old.entry p) ≡ true) × Same)) where
    pub joined_front : ((s : List Place) → Represents old head s → OnOk r (Represents new after (p ∷ s))) → OnOk r (LinksAlso linked old new p)
        → ((s : List Place) → Represents old head s → ChangesOnlyIn old new (p ∷ s)) → HasJoined Represents linked old new head after [] p s
    joined_front inserted acquired frame = record { was = shown; is = accepted Same r off refused (inserted s shown); also = accepted Same r off refused acquired; frame = frame s shown }

  -- A POP is an edit in which the first member leaves the collection. `answer`, `removed`, `released` and `frame` are clauses of the call
  pub left_front : ((s : List Place) → Represents old head s → Some p ≡ first s) → ((s : List Place) → Represents old head s → Represents new after (drop 1 s)) → Unlinks linked old new p
      → ((s : List Place) → Represents old head s → ChangesOnlyIn old new s) → HasLeft Represents linked old new head after [] p (drop 1 s)
  left_front answer removed off frame =
      let begins = first_is s (answer s shown) in
      record { was = subst (Represents old head) begins shown; is = removed s shown; off = off; frame = subst (ChangesOnlyIn old new) begins (frame s shown) }

module _ {E H : Type 0} {Represents : Table E → H → List Place → Type 0} {linked : E → Bool} {old new : Table E} {head after : H} {p : Place} where
  -- A REMOVAL of any member is an edit in which this member leaves the collection. `removed`, `released` and `frame` are clauses of the call
  pub left : (at : HasMember (Represents old head) p) → ((front back : List Place) → Represents old head (front ++ p ∷ back) → Represents new after (front ++ back)) → Unlinks linked old new p
      → ((s : List Place) → Represents old head s → ChangesOnlyIn old new s) → HasLeft Represents linked old new head after at.front p at.back
  left at removed off frame = record { was = at.shown; is = removed at.front at.back at.shown; off = off; frame = frame (at.front ++ p ∷ at.back) at.shown }

  -- A MOVE is an edit in which a member gets another position and stays linked. `is`, `keeps` and `frame` are clauses of the call
  pub moved_linked : {before following : List Place} (at : HasMember (Represents old head) p) → at.front ++ at.back ≡ before ++ following → Represents new after (before ++ p ∷ following)
      → KeepsLinked linked old new → ((s : List Place) → Represents old head s → ChangesOnlyIn old new s) → HasMoved Represents linked old new head after at.front p at.back before following
  moved_linked at rest is keeps frame = record { was = at.shown; rest = rest; is = is; keeps = keeps; frame = frame (at.front ++ p ∷ at.back) at.shown }
