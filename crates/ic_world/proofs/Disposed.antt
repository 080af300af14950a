-- A collection is disposed of: its members are removed first, and then its number names no collection.
use Rattle.std.proofs.Common.{◌≡◌, ℕ, inl, inr, Bool, List, length, set, Option, Some, None, refl, sym, ap, ◌∙◌, arith, Ordering}
use Rattle.std.proofs.lemmas.Bool.{cases_eq}
use Rattle.std.proofs.lemmas.List.{get_or-set_same, get_or-set_other, get_or_past, length-set, map-set, set-set}
use Rattle.ic_link_ops.specs.Prelude.{Objects, Table}
use Rattle.ic_any_collection.specs.declared.entry.Entry.{Entry}
use Rattle.ic_world.specs.declared.collection.Collection.{Collection}
use Rattle.ic_world.specs.declared.call.Refusal.{Refusal}
use Rattle.ic_world.specs.declared.call.Command.TheVariants.{Dispose}
use Rattle.ic_world.specs.declared.calls.collection_call.Call.TheVariants as one
use Rattle.ic_world.specs.declared.calls.bulk_edit.BulkEdit.TheVariants.{Clear}
use Rattle.ic_world.specs.Prelude.{Family, Sequence, collection, linked_of, with_collection, with_linked, State, Reply, done, refused, cleared, unlinked, NoneLeftLinked, represented_as, at, family_of, IsWhole, Step, StepOn, AcceptsOn, refusal_on, StepBy, asks_collection, state_in, with_state, sequence_of}
use Rattle.ic_world.proofs.Linked.{side}
use Rattle.ic_world.proofs.Steps.{step_accepted}
use Rattle.ic_world.proofs.LeftLinked.{none_dropped}
use Rattle.ic_world.proofs.Readings.{some_within}

module _ {V : Type 0} where
  at_dropped : (cs : List (Option (Collection V))) (c d : ℕ) (l : Collection V) → at (set cs c None) d ≡ Some l → at cs d ≡ Some l
  at_dropped cs c d l is = elim (cases_eq d c) [
    | inl same ↦ elim (side (length cs) c) [
      | inl past ↦ absurd (let no = get_or_past (set cs c None) d None (let n = length-set cs c None in omega (arith, n, past, same)) in let both : None ≡ Some l = sym no ∙ is in cc)
      | inr in_bounds ↦ absurd (let no : at (set cs c None) d ≡ None = ap (at (set cs c None)) same ∙ get_or-set_same cs c None None in_bounds in let both : None ≡ Some l = sym no ∙ is in cc)
    ]
    | inr other ↦ sym (get_or-set_other cs c d None None other) ∙ is
  ]

  -- THE INVARIANT still holds if the collection with the number c is removed
  pub dropped_whole : {objects : Objects V} {room : ℕ} {ts : List (Table Entry)} {cs : List (Option (Collection V))} → IsWhole objects room ts cs → (c : ℕ) → IsWhole objects room ts (set cs c None)
  dropped_whole {cs = cs} whole c = record {
    in_bounds = whole.in_bounds;
    covered = whole.covered;
    placed = whole.placed;
    in_field = λ d l is. whole.in_field d l (at_dropped cs c d l is);
    held = λ d l is. whole.held d l (at_dropped cs c d l is);
    apart = λ a b x y n is_x is_y same. whole.apart a b x y n (at_dropped cs c a x is_x) (at_dropped cs c b y is_y) same;
  }

  pub dropped_family : {A : Type 0} (adapter : A) (objects : Objects V) (ts : List (Table Entry)) (cs : List (Option (Collection V))) (c : ℕ)
      → family_of adapter objects ts (set cs c None) ≡ with_collection (family_of adapter objects ts cs) c None
  dropped_family adapter objects ts cs c =
      let collections = map-set (represented_as ts) cs c None in
      λ i. record (family_of adapter objects ts cs) { collections = collections i }

-- if no refusal applies to a step, the step is accepted: the statement `accepts` holds of its reply and of the new family
taken_step : {A V : Type 0} (refusal : Option Refusal) (accepts : Reply → Family A V → Type 0) (old : Family A V) (reply : Reply) (new : Family A V) → refusal ≡ None → StepBy refusal accepts old reply new → accepts reply new
taken_step None accepts old reply new e h = h
taken_step (Some r) accepts old reply new e h = absurd cc

-- `cmp` is the order of the keys, and `key_of` computes the key of a value
module _ {A V K : Type 0} (cmp : K → K → Ordering) (key_of : A → V → K) (old mid : Family A V) (c : ℕ) where
  -- THE STEP OF A DISPOSAL follows from the step of `clear`. Both calls are refused in the same cases
  pub dispose_refused : (r : Refusal) → StepOn cmp key_of old c (one.BulkEdit Clear) (refused r) mid → Step cmp key_of old (Dispose c) (refused r) mid
  dispose_refused r step = by (collection old c) refl step
    where
      by : (o : Option Sequence) → collection old c ≡ o → StepOn cmp key_of old c (one.BulkEdit Clear) (refused r) mid → Step cmp key_of old (Dispose c) (refused r) mid
      by None e h = rw e (rw e at h)
      by (Some s) e h =
          let a = taken_step (refusal_on {K = K} old c (one.BulkEdit Clear)) (AcceptsOn {K = K} cmp key_of old c (one.BulkEdit Clear)) old (refused r) mid (ap (λ o. asks_collection o (λ _. None)) e) h in
          absurd (let no = a.3.0 in cc)

  accepted : (s : Sequence) → collection old c ≡ Some s → StepOn cmp key_of old c (one.BulkEdit Clear) done mid → AcceptsOn cmp key_of old c (one.BulkEdit Clear) done mid
  accepted s e h = taken_step (refusal_on {K = K} old c (one.BulkEdit Clear)) (AcceptsOn {K = K} cmp key_of old c (one.BulkEdit Clear)) old done mid (ap (λ o. asks_collection o (λ _. None)) e) h

  cleared_there : StepOn cmp key_of old c (one.BulkEdit Clear) done mid → AcceptsOn cmp key_of old c (one.BulkEdit Clear) done mid
  cleared_there step = by (collection old c) refl step
    where
      by : (o : Option Sequence) → collection old c ≡ o → StepOn cmp key_of old c (one.BulkEdit Clear) done mid → AcceptsOn cmp key_of old c (one.BulkEdit Clear) done mid
      by None e h = absurd (let no = (rw e at h).0 in cc)
      by (Some s) e h = accepted s e h

  pub disposed : StepOn cmp key_of old c (one.BulkEdit Clear) done mid → Step cmp key_of old (Dispose c) done (with_collection mid c None)
  disposed step =
      let a = cleared_there step in
      let s = a.0 in
      let last : with_collection (with_state old c s.field (cleared (state_in old s))) c None ≡ with_linked (with_collection old c None) s.field (unlinked (linked_of old s.field) s.members) =
      λ i. record (with_linked (with_collection old c None) s.field (unlinked (linked_of old s.field) s.members)) { collections = set-set old.collections c (Some (sequence_of s.field (cleared (state_in old s)))) None i } in
      step_accepted cmp key_of old (Dispose c) done (with_collection mid c None) (ap (λ o. asks_collection o (λ _. None)) a.2)
      (s, a.2, refl, ap (λ w. with_collection w c None) (a.4 ∙ ap (with_state old c s.field) a.3.1) ∙ last)

  -- a disposal leaves no place linked, because the collection has no member after `clear`
  pub none_disposed : {left : List Bool} → StepOn cmp key_of old c (one.BulkEdit Clear) done mid → NoneLeftLinked left mid → NoneLeftLinked left (with_collection mid c None)
  none_disposed step none =
      let a = cleared_there step in
      let is : collection mid c ≡ Some (sequence_of a.0.field a.1) = ap (λ (w : Family A V). collection w c) a.4 ∙ get_or-set_same old.collections c (Some (sequence_of a.0.field a.1)) None (some_within old.collections c a.2) in
      none_dropped none c (sequence_of a.0.field a.1) is (ap (λ (t : State). t.members) a.3.1)
