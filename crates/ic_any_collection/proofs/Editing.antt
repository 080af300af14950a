-- Edits of a collection, splits, splices, and moves of its cursor. Whatever the kind, what the collection's call ensures follows from the contract of
-- the kind's own call. The first lemmas are about removals: each removal by a kind's own call removes the member that the gap names.
use Rattle.std.proofs.Common.{◌≡◌, ◌∙◌, Bool, true, false, is_some, ap, Option, Some, None, List, [], ◌∷◌, ◌++◌, refl, sym, subst, append-nil, IfSome, IfNone, OnSome}
use Rattle.std.specs.Bool.{OnTrue, OnFalse}
use Rattle.ic_link_ops.specs.Prelude.{Place, Cut, join, splice, at_front, at_back, first, last, IsAfter, IsBefore, IsDisjoint, Table, IsLinked, site, LinkStep, acquires, releases, ChangesOnlyIn, MovesOn, MovesBack, remove, but_last, CursorState, Replaces, Removes}
use Rattle.ic_link_ops.specs.EditsAt.{ReplacesThere, ReplacesNext, SplicesBeside, SplitsBeside, WhereApart, RemovesThere, RemovesNext}
use Rattle.ic_cursors.specs.Answers.{replaced}
use Rattle.ic_any_collection.specs.Prelude.{Kind, Gap, Front, Back, Before, After, is_singly, can_insert, can_remove, can_replace, from, is_after, beside, rests, onward, onto, IsGapAt, IsFrontOf, InsertsInGap, RemovesInGap, Entry, is_linked, AnyTable, table_in, AnyCollection, IsCursorIn, cursor_in, members_in, Keeps, Held, AtGap, Moves, Leaves, Puts, Swaps, PutsAll, Parts, TakesIfAny, SwapsIfAny, IsUnchanged, IsValidAt}
use Rattle.ic_any_collection.specs.declared.kind.Kind.TheVariants as kind
use Rattle.ic_any_collection.proofs.Made.{IsMade, gap_after_cursor, gap_before_cursor}
use Rattle.ic_link_ops.proofs.SequenceLemmas.{none_not, nothing_last, split_last}

-- a singly linked list removes members only at a gap that is after a position. The removed member is the one after this gap, and the cursor is then
-- at this position
after_there : (gap : Gap) → can_remove gap kind.Singly ≡ true → (s : List Place) (cursor : Option Place) (cut : Cut) → IsGapAt gap cursor cut
    → IsAfter cut (rests gap cursor) × IsFrontOf gap s cursor cut × (rests gap cursor ≡ onward gap cursor cut)
after_there Front can s cursor cut h = (h, h, refl)
after_there Back can s cursor cut h = absurd (cc)
after_there Before can s cursor cut h = absurd (cc)
after_there After can s cursor cut h = (h, h, refl)

nothing : {L H : Type 0} (old new : CursorState L H) (out : Option Place) → IfNone out (new ≡ old) → IfNone out ((new.head ≡ old.head) × (new.links ≡ old.links))
nothing old new None same = (ap (λ at. at.head) same, ap (λ at. at.links) same)
nothing old new (Some p) same = tt

on_some : {X : Type 0} (out : Option Place) → X → OnSome out X
on_some None x = tt
on_some (Some p) x = x

module _ {L E H C P : Type 0} {Represents : Table E → H → List Place → Type 0} {table : L → Table E} {Trace : L → L → List LinkStep → Type 0}
    {IsValid : L → C → P → Type 0} {head_of : C → H} {member : P → Option Place} {links links' : L} {c c' : C} {at : P} {out : Option Place} where
  -- A REMOVAL of the member that the cursor is on is a removal at the gap `Before`
  pub removes_there : {at' : P} {gap : Gap} → gap ≡ Before → RemovesThere Represents table Trace (site links (head_of c) (member at)) out (site links' (head_of c') (member at'))
      → IsValid links' c' at' → RemovesInGap Represents table Trace IsValid head_of member gap out links links' c c' at at'
  removes_there is e valid = rw is (record {
    taken = λ s shown g. let here : Represents (table links) (head_of c) (join g.0) = rw g.1 shown in (g.0, g.1, (g.2, e.answer ∙ g.2, e.removed g.0 here g.2, e.moved g.0 here g.2));
    released = e.released;
    none = nothing _ _ out e.null;
    stands = valid;
  })

  -- a removal of the member after a position is a removal at the gap after this position, and the cursor is then at the position
  pub removes_after : (start : P) {there : P} (gap : Gap) → can_remove gap kind.Singly ≡ true → member start ≡ rests gap (member at)
      → RemovesNext Represents table Trace (site links (head_of c) (member start)) out (site links' (head_of c') (member there))
      → IsValid links' c' there → RemovesInGap Represents table Trace IsValid head_of member gap out links links' c c' at there
  removes_after start gap can starts e valid = record {
    taken = λ s shown g.
        let here : Represents (table links) (head_of c) (join g.0) = rw g.1 shown in
        let there = after_there gap can s (member at) g.0 g.2 in
        let after : IsAfter g.0 (member start) = rw starts there.0 in
        (g.0, g.1, (there.1, e.answer g.0 here after, e.removed g.0 here after, e.position ∙ starts ∙ there.2));
    released = e.released;
    none = nothing _ _ out e.nothing;
    stands = valid;
  }

-- A POSITION AT NULL is valid in every list that a table represents, whatever place it stores as the next one
pub stands_at_null : {L E H P : Type 0} {Represents : Table E → H → List Place → Type 0} {table : L → Table E} {member : P → Option Place} {CachesNext : P → Option Place → Type 0} {links : L} {list : H} {at : P}
    (s : List Place) → Represents (table links) list s → member at ≡ None → IsValidAt Represents table member CachesNext links list at
stands_at_null s shown null = record { gap = at_front s; shown = shown; after = null; caches = λ q is. absurd (none_not q (sym null ∙ is)) }

-- THE FIRST OR THE LAST MEMBER of a list is removed by a removal at the gap `Front` or `Back`, and the cursor is then at null
module _ {L E H P : Type 0} {Represents : Table E → H → List Place → Type 0} {table : L → Table E} {Trace : L → L → List LinkStep → Type 0}
    {IsValid : L → H → P → Type 0} {member : P → Option Place} {links links' : L} {list list' : H} {at at' : P} (out : Option Place)
    (released : IfSome out (λ p. Trace links links' (releases p ∷ []))) (empty : IfNone out ((list' ≡ list) × (links' ≡ links)))
    (frame : (s : List Place) → Represents (table links) list s → ChangesOnlyIn (table links) (table links') s) (null : member at' ≡ None) (valid : IsValid links' list' at') where
  pub pops_front : ((s : List Place) → Represents (table links) list s → out ≡ first s)
      → ((s : List Place) → Represents (table links) list s → Represents (table links') list' (remove (at_front s)))
      → RemovesInGap Represents table Trace IsValid (λ list. list) member Front out links links' list list' at at'
  pops_front answer removed = record {
    taken = λ s shown g. (at_front s, refl, (refl, answer s shown, on_some out (record { shows = removed s shown; frame = frame s shown }), null));
    released = released;
    none = empty;
    stands = valid;
  }

  pub pops_back : ((s : List Place) → Represents (table links) list s → out ≡ last s)
      → ((s : List Place) → Represents (table links) list s → Represents (table links') list' (but_last s))
      → RemovesInGap Represents table Trace IsValid (λ list. list) member Back out links links' list list' at at'
  pops_back answer removed = record { taken = λ s shown g. by s out (answer s shown) (removed s shown) (frame s shown); released = released; none = empty; stands = valid }
    where
      by : (s : List Place) (out : Option Place) → out ≡ last s → Represents (table links') list' (but_last s) → ChangesOnlyIn (table links) (table links') s
          → AtGap s (λ cut. (cut.front ≡ but_last s) × (out ≡ first cut.back) × OnSome out (Removes Represents (table links) (table links') list' cut) × (member at' ≡ None))
      by s None is shown frame = let nothing = nothing_last s is in (at_front s, refl, (sym (ap but_last nothing), ap first (sym nothing), tt, null))
      by s (Some p) is shown frame =
          let cut : Cut = record { front = but_last s; back = p ∷ [] } in
          let same = sym (split_last s (sym is)) in
          (cut, same, (refl, refl, record { shows = rw append-nil shown; frame = rw same frame }, null))

-- an insertion of p is refused if p is linked in the table of the field, and then the table is as before
abbrev pub Refused : {L M : Type 0} → (L → AnyTable M) → L → L → Place → Type 0
Refused field old new p = IsLinked is_linked (table_in (field old)) p × (new ≡ old)

-- the members of a collection that the table keeps can be cut at the gap that a call names
pub gap_there : {V : Type 0} {t : Table Entry} (gap : Gap) (m : AnyCollection V) → Held t m → AtGap (members_in t m) (IsGapAt gap (cursor_in m))
gap_there Front m held = (at_front _, refl, refl)
gap_there Back m held = (at_back _, append-nil _, refl)
gap_there Before m held = gap_before_cursor m held
gap_there After m held = gap_after_cursor m held

-- the gap that a call names is directly after or before the position from which the edit is made
pub gap_beside : (gap : Gap) (cursor : Option Place) (cut : Cut) → IsGapAt gap cursor cut → beside (is_after gap) cut (rests gap cursor)
gap_beside Front cursor cut h = h
gap_beside Back cursor cut h = h
gap_beside Before cursor cut h = h
gap_beside After cursor cut h = h

-- which gaps are possible: all kinds except singly linked lists replace only the member that the cursor is on, and singly linked lists only the
-- member after the cursor. A tree removes only the member that the cursor is on, and a singly linked list inserts only after a position
pub replaced_before : (gap : Gap) (k : Kind) → is_singly k ≡ false → can_replace gap k ≡ true → gap ≡ Before
replaced_before Before k both can = refl
replaced_before _ k both can = cc

pub replaced_after : (gap : Gap) → can_replace gap kind.Singly ≡ true → gap ≡ After
replaced_after After can = refl
replaced_after _ can = cc

pub removed_before : (gap : Gap) → can_remove gap kind.Tree ≡ true → gap ≡ Before
removed_before Before can = refl
removed_before _ can = cc

pub inserted_after : (gap : Gap) → can_insert gap kind.Singly ≡ true → is_after gap ≡ true
inserted_after Front can = refl
inserted_after After can = refl
inserted_after _ can = cc

-- a position that is not none is some place
some_there : (o : Option Place) → (o ≡ None → ⊥) → true ≡ is_some o
some_there None some = absurd (some refl)
some_there (Some p) some = refl

module _ {V L M E H C P : Type 0} {made : C → P → AnyCollection V} {own : L → Table E} {Trace : L → L → List LinkStep → Type 0}
    {Represents : Table E → H → List Place → Type 0} {field : L → AnyTable M} {IsValid : L → C → P → Type 0} {head_of : C → H} {member : P → Option Place} (kind_of : IsMade made own Trace Represents field IsValid head_of member) where
  abbrev table : L → Table Entry
  table links = table_in (field links)

  -- the members of the collection before the call
  abbrev members : L → C → P → List Place
  members links c at = members_in (table links) (made c at)

  shown_cut : (links : L) {c : C} {at : P} → Held (table links) (made c at) → (gap : Cut) → join gap ≡ members links c at → Represents (own links) (head_of c) (join gap)
  shown_cut links {c} {at} held gap same = rw same (kind_of.shown links c at (members links c at) held.shown)

  -- THE NEW TABLE KEEPS THE COLLECTION if it represents a sequence u for the collection's head, and the cursor's position is valid in it
  keeps : {t : Table Entry} {links : L} {c c' : C} {at at' : P} {s u : List Place} → Keeps t (made c at) s → (table links).extent ≡ t.extent
      → Represents (own links) (head_of c') u → IsValid links c' at' → Keeps (table links) (made c' at') u
  keeps {links = links} {c = c} {c' = c'} {at = at} {at' = at'} {u = u} held extent shown valid =
      record { carried = rw (extent, kind_of.alike c c' at at') held.carried; shown = kind_of.shows links c' at' u shown; stands = kind_of.stands links c' at' u shown valid }

  -- WHAT AN EDIT LEAVES: the new table keeps the sequence u for the collection, and the cursor is at `cursor`. Only entries of places in `touched` have
  -- changed
  leaves : {t : Table Entry} {links : L} {c c' : C} {at at' : P} {s u touched : List Place} {cursor : Option Place} → Keeps t (made c at) s → ChangesOnlyIn t (table links) touched
      → Represents (own links) (head_of c') u → IsValid links c' at' → member at' ≡ cursor → Leaves t (table links) (made c at) (made c' at') u cursor touched
  leaves {c = c} {c' = c'} {at = at} {at' = at'} held frame shown valid is =
      record { kept = keeps held frame.extent shown valid; alike = kind_of.alike c c' at at'; cursor_is = kind_of.position c' at' ∙ is; frame = frame }

  -- if neither the table nor the head of the collection changes, a call that sets a new valid position only moves the cursor there
  pub moves : {links : L} {c c' : C} {at at' : P} {cursor : Option Place} → Held (table links) (made c at) → head_of c' ≡ head_of c → IsValid links c' at' → member at' ≡ cursor
      → Moves (table links) (made c at) (made c' at') cursor
  moves {links} {c} {c'} {at} {at'} held same valid is =
      record { kept = keeps held refl (rw same (kind_of.shown links c at (members links c at) held.shown)) valid; alike = kind_of.alike c c' at at'; cursor_is = kind_of.position c' at' ∙ is }

  -- if the head of the collection and the position do not change, the collection and its cursor stay as they are
  stays : (links : L) {c c' : C} {at at' : P} → Held (table links) (made c at) → head_of c' ≡ head_of c → at' ≡ at → Moves (table links) (made c at) (made c' at') (cursor_in (made c at))
  stays links {c} {c'} {at} {at'} held same there = record {
    kept = record {
      carried = rw (kind_of.alike c c' at at') held.carried;
      shown = kind_of.shows links c' at' (members links c at) (rw same (kind_of.shown links c at (members links c at) held.shown));
      stands = rw there (kind_of.stays c c' at (members links c at) held.stands);
    };
    alike = kind_of.alike c c' at at';
    cursor_is = kind_of.position c' at' ∙ ap member there ∙ sym (kind_of.position c at);
  }

  -- WHAT THE KIND'S CALLS REQUIRE: the position of the cursor is valid if the table keeps the collection
  pub at_cursor : {links : L} {c : C} {at : P} → Held (table links) (made c at) → IsValid links c at
  at_cursor {links} {c} {at} held = kind_of.valid links c at (members links c at) (kind_of.shown links c at (members links c at) held.shown) held.stands

  -- the position from which an edit is made is valid if the table keeps the collection
  pub at_start : {links : L} {c : C} {at : P} (null : P) (gap : Gap) → Held (table links) (made c at) → ((s : List Place) → IsCursorIn s (made c null)) → IsValid links c (from gap null at)
  at_start {links} {c} {at} null Front held nulls = kind_of.valid links c null (members links c at) (kind_of.shown links c at (members links c at) held.shown) (nulls (members links c at))
  at_start {links} {c} {at} null Back held nulls = kind_of.valid links c null (members links c at) (kind_of.shown links c at (members links c at) held.shown) (nulls (members links c at))
  at_start null Before held nulls = at_cursor held
  at_start null After held nulls = at_cursor held

  -- the members of a collection that the table keeps can be cut at the gap that a call names. Here the position `at` gives the member that the cursor
  -- is on
  at_gap : (links : L) {c : C} {at : P} (gap : Gap) → Held (table links) (made c at) → AtGap (members links c at) (IsGapAt gap (member at))
  at_gap links {c} {at} gap held = subst (λ x. AtGap (members links c at) (IsGapAt gap x)) (kind_of.position c at) (gap_there gap (made c at) held)

  -- A MOVE FORWARD by the kind's own call puts the collection's cursor on the next member, or to null after the last member
  pub goes_on : {links : L} {c : C} {at at' : P} → MovesOn Represents own (site links (head_of c) (member at)) (member at') → IsValid links c at' → Held (table links) (made c at)
      → AtGap (members links c at) (λ gap. IsAfter gap (member at) × Moves (table links) (made c at) (made c at') (first gap.back))
  goes_on e valid held = let g = at_gap _ After held in (g.0, g.1, (g.2, moves held refl valid (e.leads g.0 (shown_cut _ held g.0 g.1) g.2)))

  -- a move back by the kind's own call puts the collection's cursor on the previous member, or to null before the first member
  pub goes_back : {links : L} {c : C} {at at' : P} → MovesBack Represents own (site links (head_of c) (member at)) (member at') → IsValid links c at' → Held (table links) (made c at)
      → AtGap (members links c at) (λ gap. IsBefore gap (member at) × Moves (table links) (made c at) (made c at') (last gap.front))
  goes_back e valid held = let g = at_gap _ Before held in (g.0, g.1, (g.2, moves held refl valid (e.leads g.0 (shown_cut _ held g.0 g.1) g.2)))

  -- AN INSERTION by the kind's own call inserts p into the collection, if the link of p was acquired. If not, p was linked already, and nothing has
  -- changed
  pub inserts : {T : Type 0} {gap : Gap} {p : Place} {acquired : Bool} {links links' : L} {c c' : C} {at at' : P} → InsertsInGap Represents own Trace IsValid head_of member T (Refused field) gap p acquired links links' c c' at at'
      → Held (table links) (made c at)
      → OnTrue acquired (AtGap (members links c at) (λ cut. IsGapAt gap (member at) cut × Puts (table links) (table links') (made c at) (made c' at') cut p (rests gap (member at))))
      × OnFalse acquired (IsLinked is_linked (table links) p × IsUnchanged (field links) (field links') (made c at) (made c' at'))
  inserts {gap = gap} {p = p} {acquired = true} {links = links} {links' = links'} {c = c} {c' = c'} {at = at} {at' = at'} e held =
      let g = at_gap _ gap held in
      let put = e.made.inserted g.0 (shown_cut _ held g.0 g.1) (rw e.starts (gap_beside gap (member at) g.0 g.2)) in
      let frame : ChangesOnlyIn (table links) (table links') (p ∷ members links c at) = rw (← g.1) (kind_of.frame links links' _ put.frame) in
      let stands : IsValid links' c' at' = subst (IsValid links' c') (sym e.goes) e.stands in
      let there : member at' ≡ rests gap (member at) = ap member e.goes ∙ e.made.position ∙ e.starts in
      ((g.0, g.1, (g.2, record { leaves = leaves held frame put.shows stands there; links = kind_of.traced links links' _ e.made.acquired })), tt)
  inserts {acquired = false} e held = (tt, (e.made.refused.0, (ap field e.made.refused.1, stays _ held e.made.unchanged.1 e.stays)))

  -- A REMOVAL by the kind's own call removes the member after the gap from the collection, if there is one
  pub removes : {gap : Gap} {out : Option Place} {links links' : L} {c c' : C} {at at' : P} → RemovesInGap Represents own Trace IsValid head_of member gap out links links' c c' at at' → Held (table links) (made c at)
      → AtGap (members links c at) (λ cut. IsFrontOf gap (members links c at) (member at) cut × (out ≡ first cut.back) × TakesIfAny (field links) (field links') (made c at) (made c' at') cut (onward gap (member at) cut) out)
  removes {gap} {out = None} {links} {links'} {c} {c'} {at} {at'} e held =
      let g = e.taken (members links c at) (kind_of.shown links c at (members links c at) held.shown) (at_gap _ gap held) in
      (g.0, g.1, (g.2.0, g.2.1, (ap field e.none.1, moves held e.none.0 (subst (λ l. IsValid l c' at') e.none.1 e.stands) g.2.3)))
  removes {gap} {out = Some p} {links} {links'} {c} {c'} {at} {at'} e held =
      let g = e.taken (members links c at) (kind_of.shown links c at (members links c at) held.shown) (at_gap _ gap held) in
      let frame : ChangesOnlyIn (table links) (table links') (members links c at) = rw (← g.1) (kind_of.frame links links' _ g.2.2.frame) in
      (g.0, g.1, (g.2.0, g.2.1, record { there = sym g.2.1; leaves = leaves held frame g.2.2.shows e.stands g.2.3; links = kind_of.traced links links' _ e.released }))

  -- `unchanged`: a replacement that is refused changes nothing. `swapped`: a replacement that is done puts p in the position of `out`
  unchanged : {links links' : L} {c c' : C} {at at' : P} → Held (table links) (made c at) → IsValid links' c' at' → links' ≡ links → head_of c' ≡ head_of c → member at' ≡ member at
      → IsUnchanged (field links) (field links') (made c at) (made c' at')
  unchanged {c = c} {c' = c'} {at = at} {at' = at'} held valid same head there = (ap field same, moves held head (subst (λ l. IsValid l c' at') same valid) (there ∙ sym (kind_of.position c at)))

  swapped : (links : L) {links' : L} {c c' : C} {at at' : P} {p : Place} → Held (table links) (made c at) → IsValid links' c' at' → (cut : Cut) → join cut ≡ members links c at
      → {out : Place} → first cut.back ≡ Some out → {cursor : Option Place} → member at' ≡ cursor
      → Replaces Represents (own links) (own links') (head_of c') cut p → Trace links links' (acquires p ∷ releases out ∷ [])
      → Swaps (table links) (table links') (made c at) (made c' at') cut p out cursor
  swapped links {links'} {c} {c'} {at} {at'} {p} held valid cut same there on put exchanged =
      let frame : ChangesOnlyIn (table links) (table links') (p ∷ members links c at) = rw (← same) (kind_of.frame links links' _ put.frame) in
      record { there = there; leaves = leaves held frame put.shows valid on; links = kind_of.traced links links' _ exchanged }

  -- A SPLIT BESIDE THE CURSOR, by the kind's own call, leaves one part in the collection, and returns the other part as a new collection
  pub parts : {IsBeside : Cut → Option Place → Type 0} {kept handed : Cut → List Place} {links links' : L} {c c' part : C} {at at' start : P} → Held (table links) (made c at) → IsValid links' c' at'
      → SplitsBeside Represents own Trace IsBeside kept handed (site links (head_of c) (member at)) (head_of part) (site links' (head_of c') (member at'))
      → cursor_in (made part start) ≡ None → ((s : List Place) → IsCursorIn s (made part start)) → AtGap (members links c at) (λ gap. IsBeside gap (member at))
      → AtGap (members links c at) (λ gap. IsBeside gap (member at) × Parts (table links) (table links') (made c at) (made c' at') (kept gap) (handed gap) (made part start))
  parts {IsBeside} {kept} {handed} {links} {links'} {c} {c'} {part} {at} {at'} {start} held valid e null nulls g =
      let splits = e.split g.0 (shown_cut _ held g.0 g.1) g.2 in
      let frame : ChangesOnlyIn (table links) (table links') (kept g.0 ++ handed g.0) = kind_of.frame links links' _ splits.frame in
      let same : member at' ≡ cursor_in (made c at) = e.position ∙ sym (kind_of.position c at) in
      let handed_out = keeps held frame.extent splits.hands_out (kind_of.valid links' part start (handed g.0) splits.hands_out (nulls (handed g.0))) in
      (g.0, g.1, (g.2, record { leaves = leaves held frame splits.keeps valid same; hands_out = handed_out; part_alike = kind_of.alike c part at start; null = null; links = kind_of.traced links links' _ e.trace_stays }))

  -- A SPLICE BESIDE THE CURSOR, by the kind's own call, inserts all members of the given list into the gap beside the cursor
  pub puts_all : {IsBeside : Cut → Option Place → Type 0} {links links' : L} {c c' given : C} {at at' start : P} → Held (table links) (made c at) → Held (table links) (made given start)
      → IsDisjoint (members links given start) (members links c at) → SplicesBeside Represents own Trace IsBeside (site links (head_of c) (member at)) (head_of given) (site links' (head_of c') (member at'))
      → WhereApart Represents own IsBeside (site links (head_of c) (member at)) (head_of given) (λ gap t. IsValid links' c' at') → AtGap (members links c at) (λ gap. IsBeside gap (member at))
      → AtGap (members links c at) (λ gap. IsBeside gap (member at) × PutsAll (table links) (table links') (made c at) (made c' at') gap (members links given start))
  puts_all {IsBeside} {links} {links'} {c} {c'} {given} {at} {at'} {start} held other apart e valid g =
      let was = shown_cut links held g.0 g.1 in
      let shown = kind_of.shown links given start (members links given start) other.shown in
      let away : IsDisjoint (members links given start) (join g.0) = rw g.1 apart in
      let splices = e.spliced g.0 (members links given start) was g.2 shown away in
      let frame : ChangesOnlyIn (table links) (table links') (splice g.0 (members links given start)) = kind_of.frame links links' _ splices.frame in
      let same : member at' ≡ cursor_in (made c at) = e.position ∙ sym (kind_of.position c at) in
      let stands = valid g.0 (members links given start) was g.2 shown away in
      (g.0, g.1, (g.2, record { leaves = leaves held frame splices.shows stands same; links = kind_of.traced links links' _ e.trace_stays }))

  -- A REPLACEMENT of the member that the cursor is on, by the kind's own call, replaces this member of the collection
  module _ {T : Type 0} {p : Place} {links links' : L} {c c' : C} {at at' : P} (held : Held (table links) (made c at)) (valid : IsValid links' c' at') where
    pub replaces : {gap : Gap} → gap ≡ Before → (out : Option Place) (acquired : Bool) → out ≡ member at
        → ReplacesThere Represents own Trace {T = T} (Refused field) (site links (head_of c) (member at)) p (replaced (member at) p acquired) (site links' (head_of c') (member at'))
        → AtGap (members links c at) (λ cut. IsFrontOf gap (members links c at) (member at) cut × (is_some out ≡ is_some (first cut.back))
        × SwapsIfAny (field links) (field links') (made c at) (made c' at') cut p (onto gap (member at) p) out acquired)
    replaces is out acquired same e =
        rw is (by out acquired (subst (λ o. ReplacesThere Represents own Trace {T = T} (Refused field) (site links (head_of c) (member at)) p (replaced o p acquired) (site links' (head_of c') (member at'))) (sym same) e))
      where
        g : AtGap (members links c at) (λ cut. IsBefore cut (member at))
        g = at_gap _ Before held

        by : (out : Option Place) (acquired : Bool)
            → ReplacesThere Represents own Trace {T = T} (Refused field) (site links (head_of c) (member at)) p (replaced out p acquired) (site links' (head_of c') (member at'))
            → AtGap (members links c at) (λ cut. IsBefore cut (member at) × (is_some out ≡ is_some (first cut.back))
            × SwapsIfAny (field links) (field links') (made c at) (made c' at') cut p (Some p) out acquired)
        by None acquired e = (g.0, g.1, (g.2, sym (ap is_some (sym g.2 ∙ e.refused.0)), unchanged held valid e.refused.1 e.unchanged.1 e.unchanged.2))
        by (Some out) false e =
            (g.0, g.1, (g.2, some_there (first g.0.back) (λ none. e.refused.0 (g.2 ∙ none)), (e.refused.1.0, unchanged held valid e.refused.1.1 e.unchanged.1 e.unchanged.2)))
        by (Some out) true e =
            let there = sym g.2 ∙ e.answer in
            (g.0, g.1, (g.2, sym (ap is_some there), swapped _ held valid g.0 g.1 there e.moved (e.replaced g.0 (shown_cut _ held g.0 g.1) g.2) e.exchanged))

    -- a replacement of the member after the cursor, by the kind's own call, replaces this member of the collection
    pub replaces_after : {gap : Gap} → gap ≡ After → (out : Option Place) (acquired : Bool)
        → ReplacesNext Represents own Trace {T = T} (Refused field) (site links (head_of c) (member at)) p (replaced out p acquired) (site links' (head_of c') (member at'))
        → AtGap (members links c at) (λ cut. IsFrontOf gap (members links c at) (member at) cut × (is_some out ≡ is_some (first cut.back))
        × SwapsIfAny (field links) (field links') (made c at) (made c' at') cut p (onto gap (member at) p) out acquired)
    replaces_after is out acquired e = rw is (by out acquired e) where
      g : AtGap (members links c at) (λ cut. IsAfter cut (member at))
      g = at_gap _ After held

      shown : Represents (own links) (head_of c) (join g.0)
      shown = shown_cut _ held g.0 g.1

      by : (out : Option Place) (acquired : Bool)
          → ReplacesNext Represents own Trace {T = T} (Refused field) (site links (head_of c) (member at)) p (replaced out p acquired) (site links' (head_of c') (member at'))
          → AtGap (members links c at) (λ cut. IsAfter cut (member at) × (is_some out ≡ is_some (first cut.back))
          × SwapsIfAny (field links) (field links') (made c at) (made c' at') cut p (member at) out acquired)
      by None acquired e = let why = e.refused g.0 shown g.2 in (g.0, g.1, (g.2, sym (ap is_some why.0), unchanged held valid why.1 e.unchanged.1 e.position))
      by (Some out) false e =
          let why = e.refused g.0 shown g.2 in (g.0, g.1, (g.2, some_there (first g.0.back) why.0, (why.1.0, unchanged held valid why.1.1 e.unchanged.1 e.position)))
      by (Some out) true e =
          let there = e.answer g.0 shown g.2 in (g.0, g.1, (g.2, sym (ap is_some there), swapped _ held valid g.0 g.1 there e.position (e.replaced g.0 shown g.2) e.exchanged))
