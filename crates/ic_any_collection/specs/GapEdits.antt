-- What an edit at a gap changes, for any kind of collection and table. The definitions of the kind and of the table are parameters.
use Rattle.std.specs.Prelude.{◌≡◌, Bool, Option, OnSome, IfSome, IfNone, List, [], ◌∷◌}
use Rattle.std.specs.Bool.{OnTrue, OnFalse}
use Rattle.ic_link_ops.specs.Prelude.{Place, first, Table, site, LinkStep, releases, Removes, InsertsBeside}
use Rattle.ic_cursors.specs.Answers.{inserted}
use Rattle.ic_any_collection.specs.declared.gap.Gap.{Gap}
use Rattle.ic_any_collection.specs.Edits.{AtGap}
use Rattle.ic_any_collection.specs.Gaps.{is_after, beside, rests, IsGapAt, IsFrontOf, onward}

-- `Represents`, `IsValidAt`, `head_of` and `member` are definitions of the collection's kind. `table`, `Trace` and `Refused` are definitions of its
-- table
module _ {L E H C P : Type 0} (Represents : Table E → H → List Place → Type 0) (table : L → Table E) (Trace : L → L → List LinkStep → Type 0)
    (IsValidAt : L → C → P → Type 0) (head_of : C → H) (member : P → Option Place) where
  -- the place p is inserted beside the position from which the edit is made, and the cursor goes to its new position. If the table refuses the link
  -- of p, the cursor stays
  pub record InsertsInGap (T : Type 0) (Refused : L → L → Place → Type 0) (gap : Gap) (p : Place) (acquired : Bool)
      (links links' : L) (list list' : C) (at at' : P) : Type 0 where
    pub start : P
    pub there : P
    pub starts : member start ≡ rests gap (member at)
    pub made : InsertsBeside Represents table Trace {T = T} Refused (beside (is_after gap))
        (site links (head_of list) (member start)) p (inserted {T = T} p acquired) (site links' (head_of list') (member there))
    pub stands : IsValidAt links' list' there
    pub goes : OnTrue acquired (at' ≡ there)
    pub stays : OnFalse acquired (at' ≡ at)

  -- the member `out` that a removal at the gap takes is removed and unlinked. If there is no such member, the list's head and the table stay as they
  -- are
  pub record RemovesInGap (gap : Gap) (out : Option Place) (links links' : L) (list list' : C) (at at' : P) : Type 0 where
    pub taken : (s : List Place) → Represents (table links) (head_of list) s → AtGap s (IsGapAt gap (member at))
        → AtGap s (λ cut. IsFrontOf gap s (member at) cut × (out ≡ first cut.back)
        × OnSome out (Removes Represents (table links) (table links') (head_of list') cut) × (member at' ≡ onward gap (member at) cut))
    pub released : IfSome out (λ p. Trace links links' (releases p ∷ []))
    pub none : IfNone out ((head_of list' ≡ head_of list) × (links' ≡ links))
    pub stands : IsValidAt links' list' at'
