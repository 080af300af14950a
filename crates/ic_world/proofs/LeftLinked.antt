-- No call but `fast_clear` leaves a member linked.
use Rattle.std.proofs.Common.{◌≡◌, ◌≢◌, ℕ, ◌≤◌, inl, inr, Bool, true, false, not, ◌&&◌, ◌||◌, nat_eq, eq-eqb, ne_eqb, List, [], ◌∷◌, ◌++◌, length, get_or, set, reverse, drop, Option, Some, None, refl, sym, ap, ◌∙◌, subst, arith, nat_cmp, Ordering}
use Rattle.std.proofs.lemmas.Bool.{cases_eq}
use Rattle.std.proofs.lemmas.List.{get_or-set_same, get_or-set_other, get_or_past, get_or_append_left, get_or_push, length-append, length-set, set_past, reverse-reverse}
use Rattle.std.specs.Cmp.{nat_cmp_total, unsigned_tied}
use Rattle.std.specs.FinSet as set_of
use Rattle.std.specs.FinSet.{contains-insert, contains-remove, contains-empty}
use Rattle.ic_link_ops.specs.Prelude.{Place, index_of, Objects, Cut, join, splice, first, IsAbsent}
use Rattle.ic_link_ops.proofs.Prelude.{same_index, absent_left, absent_right, absent_both, absent_reverse, some_same}
use Rattle.ic_any_collection.specs.declared.kind.Kind.{Kind}
use Rattle.ic_any_collection.specs.declared.kind.Kind.TheVariants.{Singly}
use Rattle.ic_world.specs.declared.call.Refusal.{Refusal}
use Rattle.ic_world.specs.declared.call.Refusal.TheVariants.{AlreadyLinked, OutOfMemory}
use Rattle.ic_world.specs.declared.call.Command.TheVariants.{Open, ForceUnlink}
use Rattle.ic_world.specs.declared.calls.collection_call.Call.TheVariants as one
use Rattle.ic_world.specs.declared.calls.collection_call.Neighbor.TheVariants.{Next, Prev}
use Rattle.ic_world.specs.declared.taken_part.TakenPart.{TakenPart}
use Rattle.ic_world.specs.declared.taken_part.TakenPart.TheVariants.{All, After, Before}
use Rattle.ic_world.specs.declared.calls.seek.Seek.TheVariants.{Null, On, With}
use Rattle.ic_world.specs.declared.calls.bulk_edit.BulkEdit.TheVariants.{Clear, Reverse}
use Rattle.ic_world.specs.declared.calls.insertion.Insertion.TheVariants.{Insert, CursorInsert}
use Rattle.ic_world.specs.declared.calls.search.Search.TheVariants.{Find, LowerBound, UpperBound}
use Rattle.ic_world.specs.Prelude.{Family, LinkField, Sequence, collection, field_of, linked_of, objects_of, with_linked, with_collection, with_opened, Step, Accepts, refusal, StepOn, AcceptsOn, refusal_on}
use Rattle.ic_world.specs.Calls.{Call, State, Reply, opened, found, looked, entry, refused, is_linked_in, onward, put, swapped, without, unlinked, cleared, Replies}
use Rattle.ic_world.specs.Several.{with_members, state_in, with_state, sequence_of, StepBy, PartsOf, refusal_of_open, OpensWith, StepOut, refusal_of_part, SplicesAt, StepSplice, refusal_of_splice}
use Rattle.ic_world.specs.LeftLinked.{IsLeftLinked, NoneLeftLinked}
use Rattle.ic_world.proofs.Linked.{side}
use Rattle.ic_world.proofs.Readings.{some_within}
use Rattle.ic_world.proofs.CanSplice.{can_splice_of}

-- if p is in the set l with q added, and is not q, then p is in l. If p is in the set l without q, then p is in l, and is not q
module _ (l : set_of.FinSet nat_cmp) (q p : Place) where
  was_in : p ≢ q → set_of.contains (set_of.insert l (index_of q)) (index_of p) ≡ true → set_of.contains l (index_of p) ≡ true
  was_in d h =
      sym (contains-insert nat_cmp_total l (index_of q) (index_of p)
      ∙ ap (λ b. b || set_of.contains l (index_of p)) (unsigned_tied (index_of p) (index_of q) ∙ ne_eqb _ _ (λ e. d (same_index p q e)))) ∙ h

  still_in : set_of.contains (set_of.remove l (index_of q)) (index_of p) ≡ true → (p ≢ q) × (set_of.contains l (index_of p) ≡ true)
  still_in h = elim (cases_eq (index_of p) (index_of q)) [
    | inl e ↦ absurd (let out = is (eq-eqb _ _ e) in let both : false ≡ true = sym out ∙ h in cc)
    | inr d ↦ ((λ e. d (ap index_of e)), sym (is (ne_eqb _ _ d)) ∙ h)
  ]
    where
      is : {b : Bool} → nat_eq (index_of p) (index_of q) ≡ b → set_of.contains (set_of.remove l (index_of q)) (index_of p) ≡ (not b && set_of.contains l (index_of p))
      is e = contains-remove nat_cmp_total l (index_of q) (index_of p) ∙ ap (λ b. not b && set_of.contains l (index_of p)) (unsigned_tied (index_of p) (index_of q) ∙ e)

still_unlinked : (l : set_of.FinSet nat_cmp) (s : List Place) (p : Place) → set_of.contains (unlinked l s) (index_of p) ≡ true → IsAbsent p s × (set_of.contains l (index_of p) ≡ true)
still_unlinked l [] p h = (tt, h)
still_unlinked l (x ∷ s) p h =
    let here = still_in (unlinked l s) x p h in
    let rest = still_unlinked l s p here.1 in
    ((here.0, rest.0), rest.1)

-- the place p is linked in the field of the collection, but is not a member of the collection
abbrev IsBeside : Place → State → Type 0
IsBeside p s = (is_linked_in s p ≡ true) × IsAbsent p s.members

-- IF p IS LINKED BUT NO MEMBER of the collection after a call, p was linked but no member before the call, too. So the call left no member linked
module _ (p : Place) (s : State) where
  -- the members of the collection are cut at `gap`
  module _ (gap : Cut) (cut : join gap ≡ s.members) where
    absent_there : IsAbsent p gap.front → IsAbsent p gap.back → IsAbsent p s.members
    absent_there front back = subst (IsAbsent p) cut (absent_both p gap.front gap.back front back)

    beside_put : (q : Place) → IsBeside p (put s gap q None) → IsBeside p s
    beside_put q h =
        let back = absent_right p gap.front (q ∷ gap.back) h.1 in
        (was_in s.linked q p back.0 h.0, absent_there (absent_left p gap.front (q ∷ gap.back) h.1) back.1)

    absent_back : {q : Place} (back : List Place) → first back ≡ Some q → p ≢ q → IsAbsent p (drop 1 back) → IsAbsent p back
    absent_back [] e d out = tt
    absent_back (x ∷ back) e d out = ((λ same. d (same ∙ some_same e)), out)

    beside_without : (cursor o : Option Place) → first gap.back ≡ o → IsBeside p (without s gap cursor o) → IsBeside p s
    beside_without cursor None e h = h
    beside_without cursor (Some q) e h =
        let here = still_in s.linked q p h.0 in
        (here.1, absent_there (absent_left p gap.front (drop 1 gap.back) h.1) (absent_back gap.back e here.0 (absent_right p gap.front (drop 1 gap.back) h.1)))

    beside_swapped : (q out : Place) → first gap.back ≡ Some out → IsBeside p (swapped s gap q out None) → IsBeside p s
    beside_swapped q out e h =
        let here = still_in (set_of.insert s.linked (index_of q)) out p h.0 in
        let back = absent_right p gap.front (q ∷ drop 1 gap.back) h.1 in
        (was_in s.linked q p back.0 here.1, absent_there (absent_left p gap.front (q ∷ drop 1 gap.back) h.1) (absent_back gap.back e here.0 back.1))

  beside_cleared : IsBeside p (cleared s) → IsBeside p s
  beside_cleared h = let all = still_unlinked s.linked s.members p h.0 in (all.1, all.0)

  left_as : {t u : State} → t ≡ u → (IsBeside p u → IsBeside p s) → IsBeside p t → IsBeside p s
  left_as e back h = back (subst (IsBeside p) e h)

  module _ {V K : Type 0} (cmp : K → K → Ordering) (key_of : V → K) (objects : Objects V) (t : State) where
    was_beside : (call : Call K) (reply : Reply) → Replies cmp key_of objects call s reply t → IsBeside p t → IsBeside p s
    was_beside (one.Put at q) reply h = left_as h.1.2.1 (beside_put h.1.0 h.1.1 q)
    was_beside (one.Take at) reply h = left_as h.2.2 (beside_without h.0 h.1 (onward at s.cursor h.0) (first h.0.back) refl)
    was_beside (one.Swap at q) reply h = left_as h.2.4 (beside_swapped h.0 h.1 q h.2.1 h.2.2)
    was_beside (one.Move Next) reply h = left_as h.2.2 (λ k. k)
    was_beside (one.Move Prev) reply h = left_as h.2.2 (λ k. k)
    was_beside (one.Seek Null) reply h = left_as h.1 (λ k. k)
    was_beside (one.Seek (On q)) reply h = left_as h.1 (λ k. k)
    was_beside (one.Seek (With way q beside)) reply h = left_as h.1 (λ k. k)
    was_beside (one.BulkEdit Clear) reply h = left_as h.1 beside_cleared
    was_beside (one.BulkEdit Reverse) reply h = left_as h.1 (λ k. (k.0, subst (IsAbsent p) (reverse-reverse s.members) (absent_reverse p (reverse s.members) k.1)))
    was_beside (one.Search (Find key)) (found q n) h = left_as h.2 (λ k. k)
    was_beside (one.Search (LowerBound bound)) (found q n) h = left_as h.2 (λ k. k)
    was_beside (one.Search (UpperBound bound)) (found q n) h = left_as h.2 (λ k. k)
    was_beside (one.Insertion (Insert q)) (looked n) h = left_as h.0.2.1 (beside_put h.0.0 h.0.1 q)
    was_beside (one.Insertion (CursorInsert q)) (looked n) h = left_as h.0.2.1 (beside_put h.0.0 h.0.1 q)
    was_beside (one.Enter key q) (entry true r n) h = left_as h.2 (λ k. k)
    was_beside (one.Enter key q) (entry false r n) h = left_as h.3.2.1 (beside_put h.3.0 h.3.1 q)
    was_beside (one.Enter key q) (refused AlreadyLinked) h = left_as h.2 (λ k. k)
    was_beside _ _ h = absurd h

  -- a call divides the collection into a part that stays and a part that it gives away. If p is linked but a member of neither part, p was no member
  -- before the call
  beside_parts : (part : TakenPart) (t handed : State) → PartsOf part s t handed → IsAbsent p handed.members → IsBeside p t → IsBeside p s
  beside_parts All t handed h out = left_as h.0 (λ k. (k.0, subst (λ (x : State). IsAbsent p x.members) h.1 out))
  beside_parts After t handed h out = left_as h.2.1 (λ k. (k.0, absent_there h.0 h.1 k.1 (subst (λ (x : State). IsAbsent p x.members) h.2.2 out)))
  beside_parts Before t handed h out = left_as h.2.1 (λ k. (k.0, absent_there h.0 h.1 (subst (λ (x : State). IsAbsent p x.members) h.2.2 out) k.1))

module _ {A V : Type 0} (w : Family A V) (f : ℕ) (p : Place) where
  -- if the set of the linked places of the field f is replaced by l, each place that is then linked in f is in l
  linked_now : (l : set_of.FinSet nat_cmp) → set_of.contains (linked_of (with_linked w f l) f) (index_of p) ≡ true → set_of.contains l (index_of p) ≡ true
  linked_now l h = elim (side (length w.fields) f) [
    | inl past ↦ absurd (let no = ap (λ (fs : List LinkField). set_of.contains (field_of (record w { fields = fs }) f).linked (index_of p)) (set_past w.fields f _ past) ∙ ap (λ (x : LinkField). set_of.contains x.linked (index_of p)) (get_or_past w.fields f _ past) ∙ contains-empty nat_cmp (index_of p) in let both : false ≡ true = sym no ∙ h in cc)
    | inr in_bounds ↦ sym (ap (λ (x : LinkField). set_of.contains x.linked (index_of p)) (get_or-set_same w.fields f _ _ in_bounds)) ∙ h
  ]

  relinked : (g : ℕ) (l : set_of.FinSet nat_cmp) → (f ≡ g → set_of.contains l (index_of p) ≡ true → set_of.contains (linked_of w g) (index_of p) ≡ true)
      → IsLeftLinked (with_linked w g l) f p → IsLeftLinked w f p
  relinked g l back h = (
    elim (cases_eq f g) [
      | inl same ↦
          let now = linked_now l (subst (λ x. set_of.contains (linked_of (with_linked w x l) f) (index_of p) ≡ true) (sym same) h.0) in
          subst (λ x. set_of.contains (linked_of w x) (index_of p) ≡ true) (sym same) (back same now)
      | inr other ↦ sym (ap (λ (x : LinkField). set_of.contains x.linked (index_of p)) (get_or-set_other w.fields g f _ _ other)) ∙ h.0
    ],
    h.1,
  )

  -- let p be no member of the collection c. If p is left linked after o replaces this collection, p was left linked before
  replaced : (c : ℕ) (o : Option Sequence) → ((s : Sequence) → collection w c ≡ Some s → s.field ≡ f → IsAbsent p s.members)
      → IsLeftLinked (with_collection w c o) f p → IsLeftLinked w f p
  replaced c o back h = (
    h.0,
    λ d s is field. elim (cases_eq d c) [
      | inl same ↦ back s (subst (λ x. collection w x ≡ Some s) same is) field
      | inr other ↦ h.1 d s (get_or-set_other w.collections c d o None other ∙ is) field
    ],
  )

  replaced_is : (c : ℕ) (o : Option Sequence) {s : Sequence} → collection w c ≡ Some s → collection (with_collection w c o) c ≡ o
  replaced_is c o is = get_or-set_same w.collections c o None (some_within w.collections c is)

module _ {A V : Type 0} (w : Family A V) (f : ℕ) (p : Place) where
  -- let the collection c get the state t, in which p is linked but no member only if it was so before. If p is then left linked, p was left linked
  -- before
  restated : (c : ℕ) (s : Sequence) → collection w c ≡ Some s → (t : State) → (s.field ≡ f → IsBeside p t → IsBeside p (state_in w s))
      → IsLeftLinked (with_state w c s.field t) f p → IsLeftLinked w f p
  restated c s is t back h = elim (cases_eq f s.field) [
    | inl same ↦
        let linked = linked_now mid f p t.linked (subst (λ g. set_of.contains (linked_of (with_linked mid g t.linked) f) (index_of p) ≡ true) (sym same) h.0) in
        let beside = back (sym same) (linked, h.1 c (sequence_of s.field t) (replaced_is w f p c (Some (sequence_of s.field t)) is) (sym same)) in
        replaced w f p c (Some (sequence_of s.field t)) (λ r is_r field. subst (λ (x : Sequence). IsAbsent p x.members) (some_same (sym is ∙ is_r)) beside.1)
        (relinked mid f p s.field t.linked (λ e k. beside.0) h)
    | inr other ↦
        replaced w f p c (Some (sequence_of s.field t)) (λ r is_r field. absurd (other (sym field ∙ ap (λ (x : Sequence). x.field) (some_same (sym is_r ∙ is)))))
        (relinked mid f p s.field t.linked (λ e. absurd (other e)) h)
  ]
    where
      mid : Family A V
      mid = with_collection w c (Some (sequence_of s.field t))

  -- if p is left linked after one more collection x is opened, p was left linked before, and is no member of x if x is in the field f
  not_opened : (x : Sequence) → IsLeftLinked (with_opened w x) f p → IsLeftLinked w f p × (x.field ≡ f → IsAbsent p x.members)
  not_opened x h = (
    (h.0, λ d s is field. h.1 d s (get_or_append_left w.collections (Some x ∷ []) None d (some_within w.collections d is) ∙ is) field),
    λ field. h.1 (length w.collections) x (get_or_push w.collections (Some x) None (length w.collections) refl) field,
  )

-- A CALL LEAVES NO MEMBER LINKED: if no place was left linked before the call, none is after it
module _ {A V : Type 0} {left : List Bool} {old : Family A V} (none : NoneLeftLinked left old) {new : Family A V} where
  none_as : {w : Family A V} → new ≡ w → ((f : ℕ) (p : Place) → IsLeftLinked w f p → IsLeftLinked old f p) → NoneLeftLinked left new
  none_as same back = record { none = λ f p kept h. none.none f p kept (back f p (subst (λ w. IsLeftLinked w f p) same h)) }

  -- a call that gives a part of a collection away leaves no member linked
  pub none_out : (c : ℕ) (part : TakenPart) (reply : Reply) → StepOut old c part reply new → NoneLeftLinked left new
  none_out c part reply step = by (refusal_of_part old c part) reply step
    where
      by : (o : Option Refusal) (reply : Reply) → StepBy o (OpensWith old c part) old reply new → NoneLeftLinked left new
      by (Some r) reply h = none_as h.1 (λ f p k. k)
      by None (opened d) h = none_as h.6 (λ f p k.
          let apart = not_opened (with_state old c h.1.field h.2) f p (sequence_of h.1.field h.3) k in
          restated old f p c h.1 h.4 h.2 (λ e. beside_parts p (state_in old h.1) part h.2 h.3 h.5 (apart.1 e)) apart.0)
      by None (refused OutOfMemory) h = none_as h (λ f p k. k)
      by None _ h = absurd h

  -- a splice leaves no member linked
  pub none_spliced : (Beside : Cut → Option Place → Type 0) (has : Kind → Bool) (c d : ℕ) (reply : Reply) → StepSplice Beside has old c d reply new → NoneLeftLinked left new
  none_spliced Beside has c d reply step = by (refusal_of_splice old has c d) refl step
    where
      by : (o : Option Refusal) → refusal_of_splice old has c d ≡ o → StepBy o (SplicesAt Beside old c d) old reply new → NoneLeftLinked left new
      by (Some r) e h = none_as h.1 (λ f p k. k)
      by None e h =
          let s = h.1 in
          let t = h.5 in
          let can = can_splice_of old has c d s t h.3 h.6 e in
          let gap = h.2 in
          let given = with_members t [] None in
          let to = with_members s (splice gap t.members) s.cursor in
          let mid = with_collection old d (Some given) in
          let is_s : collection mid c ≡ Some s = get_or-set_other old.collections d c (Some given) None can.2 ∙ h.3 in
          none_as h.8 (λ f p k.
          let out : s.field ≡ f → IsAbsent p (splice gap t.members) = k.1 c to (replaced_is mid f p c (Some to) is_s) in
          replaced old f p d (Some given) (λ r is_r field.
          let same = some_same (sym h.6 ∙ is_r) in
          let rest = absent_right p gap.front (t.members ++ gap.back) (out (can.3 ∙ ap (λ (x : Sequence). x.field) same ∙ field)) in
          subst (λ (x : Sequence). IsAbsent p x.members) same (absent_left p t.members gap.back rest))
          (replaced mid f p c (Some to) (λ r is_r field.
          let same = some_same (sym is_s ∙ is_r) in
          let all = out (ap (λ (x : Sequence). x.field) same ∙ field) in
          let rest = absent_right p t.members gap.back (absent_right p gap.front (t.members ++ gap.back) all) in
          subst (λ (x : Sequence). IsAbsent p x.members) same (subst (IsAbsent p) h.4 (absent_both p gap.front gap.back (absent_left p gap.front (t.members ++ gap.back) all) rest))) k))

  -- `cmp` is the order of the keys, and `key_of` computes the key of a value
  module _ {K : Type 0} (cmp : K → K → Ordering) (key_of : A → V → K) where
    -- a call of one collection leaves no member linked
    pub none_on : (c : ℕ) (call : Call K) (reply : Reply) → StepOn cmp key_of old c call reply new → NoneLeftLinked left new
    none_on c call reply step = by (refusal_on old c call) step
      where
        by : (o : Option Refusal) → StepBy o (AcceptsOn cmp key_of old c call) old reply new → NoneLeftLinked left new
        by (Some r) h = none_as h.1 (λ f p k. k)
        by None h = none_as h.4 (λ f p. restated old f p c h.0 h.2 h.1 (λ e. was_beside p (state_in old h.0) cmp (key_of old.adapter) (objects_of old) h.1 call reply h.3))

    -- a call that opens a collection leaves no member linked
    pub none_opened : (f : ℕ) (k : Kind) (reply : Reply) → Step cmp key_of old (Open f k) reply new → NoneLeftLinked left new
    none_opened f k reply step = by (refusal_of_open old f k) reply step
      where
        by : (o : Option Refusal) (reply : Reply) → StepBy o (Accepts cmp key_of old (Open f k)) old reply new → NoneLeftLinked left new
        by (Some r) reply h = none_as h.1 (λ g p k. k)
        by None (opened c) h = none_as h.1 (λ g p k. (not_opened old g p _ k).0)
        by None (refused OutOfMemory) h = none_as h (λ g p k. k)
        by None _ h = absurd h

    -- a call that unlinks an object by force leaves no member linked
    pub none_freed : (f : ℕ) (q : Place) (reply : Reply) → Step cmp key_of old (ForceUnlink f q) reply new → NoneLeftLinked left new
    none_freed f q reply step = by (refusal {K = K} old (ForceUnlink f q)) step
      where
        by : (o : Option Refusal) → StepBy o (Accepts cmp key_of old (ForceUnlink f q)) old reply new → NoneLeftLinked left new
        by (Some r) h = none_as h.1 (λ g p k. k)
        by None h = none_as h.1 (λ g p. relinked old g p f _ (λ e k. (still_in _ q p k).1))

-- `fast_clear` leaves members linked, but it sets the mark of the field. So no field without the mark has places that are left linked
pub none_cleared : {A V : Type 0} {left : List Bool} {old : Family A V} → NoneLeftLinked left old → (c : ℕ) (s : Sequence) → collection old c ≡ Some s
    → NoneLeftLinked (set left s.field true) (with_collection old c (Some (with_members s [] None)))
none_cleared {left = left} {old = old} before c s is = record {
  none = λ f p kept h. elim (cases_eq f s.field) [
    | inl same ↦ absurd (elim (side (length left) f) [
      | inl past ↦ let no = get_or_past (set left s.field true) f true (let n = length-set left s.field true in omega (arith, n, past)) in let both : true ≡ false = sym no ∙ kept in cc
      | inr in_bounds ↦
          let no : get_or (set left s.field true) f true ≡ true = ap (λ g. get_or (set left g true) f true) (sym same) ∙ get_or-set_same left f true true in_bounds in
          let both : true ≡ false = sym no ∙ kept in cc
    ])
    | inr other ↦ before.none f p (sym (get_or-set_other left s.field f true true other) ∙ kept) (replaced old f p c (Some (with_members s [] None)) (λ r is_r field.
        absurd (other (sym field ∙ ap (λ (x : Sequence). x.field) (some_same (sym is_r ∙ is))))) h)
  ];
}

-- a call that disposes of a collection with no member leaves no member linked
pub none_dropped : {A V : Type 0} {left : List Bool} {old : Family A V} → NoneLeftLinked left old → (c : ℕ) (s : Sequence) → collection old c ≡ Some s → s.members ≡ []
    → NoneLeftLinked left (with_collection old c None)
none_dropped {old = old} before c s is empty = record {
  none = λ f p kept h. before.none f p kept (replaced old f p c None (λ r is_r field.
      subst (λ (x : Sequence). IsAbsent p x.members) (some_same (sym is ∙ is_r)) (subst (IsAbsent p) (sym empty) tt)) h);
}

-- a call that makes a field leaves no member linked, because no place is linked in the new field
pub none_added : {A V : Type 0} {left : List Bool} {old : Family A V} → NoneLeftLinked left old → length left ≡ length old.fields → (kind : Kind)
    → NoneLeftLinked (left ++ false ∷ []) (record old { fields = old.fields ++ record { kind = kind; linked = set_of.empty } ∷ [] })
none_added {left = left} {old = old} before count kind = record {
  none = λ f p kept h. elim (side (length old.fields) f) [
    | inl past ↦ absurd (let both : false ≡ true = sym (unlinked_there f p past) ∙ h.0 in cc)
    | inr in_bounds ↦ before.none f p (sym (get_or_append_left left (false ∷ []) true f (omega (arith, in_bounds, count))) ∙ kept)
        (sym (ap (λ (x : LinkField). set_of.contains x.linked (index_of p)) (get_or_append_left old.fields (new ∷ []) _ f in_bounds)) ∙ h.0, h.1)
  ];
}
  where
    new : LinkField
    new = record { kind = kind; linked = set_of.empty }

    unlinked_there : (f : ℕ) (p : Place) → length old.fields ≤ f → set_of.contains (get_or (old.fields ++ new ∷ []) f (record { kind = Singly; linked = set_of.empty })).linked (index_of p) ≡ false
    unlinked_there f p past = elim (cases_eq f (length old.fields)) [
      | inl last ↦ ap (λ (x : LinkField). set_of.contains x.linked (index_of p)) (get_or_push old.fields new _ f (sym last)) ∙ contains-empty nat_cmp (index_of p)
      | inr beyond ↦ ap (λ (x : LinkField). set_of.contains x.linked (index_of p)) (get_or_past (old.fields ++ new ∷ []) f _ (let n = length-append old.fields (new ∷ []) in omega (arith, n, past, beyond))) ∙ contains-empty nat_cmp (index_of p)
    ]
