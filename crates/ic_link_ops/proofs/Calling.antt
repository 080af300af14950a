-- The facts in this file help callers of a list of any kind after a call.
use Rattle.std.proofs.Common.{◌≡◌, true, false, Bool, Option, List, length, subst, Result, Ok, Err, OnOk, OnErr, IfErr, sym, ap, ◌∙◌, ◌<◌, Some, None, IfSome, [], ◌∷◌}
use Rattle.std.proofs.lemmas.Iterator.{YieldsList}
use Rattle.std.proofs.lemmas.Iterator.Consumers.{YieldsList-from_shown, YieldsList-from_copied}
use Rattle.std.specs.declared.iter.Copied.{Copied}
use Rattle.std.specs.Iterator.Adapters.{copied_source}
use Rattle.std.proofs.iter.Yields.{copies}
use Rattle.ic_link_ops.specs.Base.{Place, index_of, IsMember, Extent, Table, IsCovered, IsLinked, CursorState, IsValidCursor, HasMember, LinkStep, releases, TraceIs}
use Rattle.ic_link_ops.specs.EditsAt.{RemovesThere}
use Rattle.ic_link_ops.proofs.Positions.{gap_there}
use Rattle.ic_link_ops.proofs.SequenceLemmas.{member_split}
use Rattle.ic_link_ops.specs.Chains.{ListHead, RepresentsChain}
use Rattle.ic_link_ops.specs.Walk.{GivesFirst}
use Rattle.ic_link_ops.proofs.RepresentedLists.{represents_kept}

-- A plain table, for example, refuses to link an object only if the object was linked (`was` is true). If the object was
-- unlinked, the call therefore returned `Ok`, and the statement P, which is about `Ok`, holds.
pub accepted : {A X P : Type 0} {was : Bool} (Same : Type 0) (r : Result A X) → was ≡ false → OnErr r ((was ≡ true) × Same) → OnOk r P → P
accepted Same (Ok a) off refused holds = holds
accepted Same (Err x) off refused holds = let never : false ≡ true = sym off ∙ refused.0 in absurd (cc)

-- A push is accepted or refused. The statement `Goal` holds if it follows from the clause about an accepted push, and also from
-- the clauses about a refused push.
pub either : {A X P Q S Goal : Type 0} (R : X → Type 0) (r : Result A X) → OnOk r P → OnErr r Q → IfErr r (λ e. R e × S) → (P → Goal) → (Q → S → Goal) → Goal
either R (Ok a) holds refused unchanged accepts refuses = accepts holds
either R (Err e) holds refused unchanged accepts refuses = refuses refused unchanged.1

-- After `cover`, accepted or refused, each list keeps its sequence, because no entry changed. The argument `stays` is the clause
-- `stays` of the contract of `cover`.
pub still_represented : {E W : Type 0} {between : E → Option Place → Option Place → Type 0} {kept : Option Place → W} {old new : Table E} {list : ListHead W} {s : List Place}
    → ((q : Place) → new.entry q ≡ old.entry q) → RepresentsChain between kept old list s → RepresentsChain between kept new list s
still_represented stays shown = represents_kept shown (λ q member. stays q)

-- In a `for` loop, or to `collect`, a walk lends the objects in the list `left walk`, in order. The argument `is` is the clause
-- `walks` of the contract of `iter`.
module _ {S T : Type 0} (left : S → List T) where
  pub walk_yields : {walk : S} {xs : List T} → left walk ≡ xs → YieldsList (GivesFirst left) (λ x. x.now) walk xs
  walk_yields {walk} is =
      subst (YieldsList (GivesFirst left) (λ x. x.now) walk) is
      (YieldsList-from_shown (GivesFirst left) (λ x. x.now) left (λ s t gives. ap length gives.0.0) (λ s x t gives. gives.0) walk)

  -- If the objects of a walk are copied one after the other, the copies are the objects in the list that the walk lends, in
  -- order.
  pub walk_copied : {walk : S} {copied : Copied S} {xs : List T} → copied_source copied ≡ walk → left walk ≡ xs
      → YieldsList (copies (GivesFirst left)) (λ x. x) copied xs
  walk_copied {walk} {copied} source is =
      let lent = walk_yields {walk = walk} is in YieldsList-from_copied {s = copied} (rw (← source) at lent)

-- If q is a member of a sequence s for which `shows` is true, `HasMember` holds for q.
pub has_member : (shows : List Place → Type 0) {q : Place} (s : List Place) → shows s → IsMember q s → HasMember shows q
has_member shows {q} s shown member =
    let m = member_split q s member in record { front = m.0; back = m.1; shown = subst shows m.2 shown }

-- A removed member is still covered by the table.
module _ {L E H : Type 0} {Represents : Table E → H → List Place → Type 0} {table : L → Table E} {Trace : L → L → List LinkStep → Type 0} (linked : E → Bool)
    (replays : (a b : L) (s : List LinkStep) → Trace a b s → TraceIs linked (table a) (table b) s) (law : (t : L) (p : Place) → IsLinked linked (table t) p → IsCovered (table t) p) where
  pub removed_covered : {old new : CursorState L H} (r : Option Place) → IsValidCursor Represents table old → RemovesThere Represents table Trace old r new → IfSome r (λ p. IsCovered (table new.links) p)
  removed_covered None stands h = tt
  removed_covered {old} {new} (Some p) stands h =
      let l = replays old.links new.links (releases p ∷ []) h.released in
      let k = gap_there stands in
      subst (λ (e : Extent). index_of p < e.places) (sym (h.removed k.0 k.1 k.2).frame.extent) (law old.links p l.was)
