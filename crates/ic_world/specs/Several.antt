-- THE CALLS OF SEVERAL COLLECTIONS: a collection is opened, gives a part of its members to a new collection, or is spliced into another collection.
use Rattle.std.specs.Prelude.{◌≡◌, ℕ, Bool, true, not, List, [], length, Option, Some, None, MatchOption, nat_eq}
use Rattle.ic_link_ops.specs.Prelude.{Place, Cut, join, splice, IsAfter, IsBefore}
use Rattle.ic_any_collection.specs.declared.kind.Kind.{Kind}
use Rattle.ic_any_collection.specs.Kinds.{carries}
use Rattle.ic_any_collection.specs.AnyCollection.{is_list, is_two_way_list}
use Rattle.ic_world.specs.declared.call.Refusal.{Refusal}
use Rattle.ic_world.specs.declared.call.Refusal.TheVariants.{NoSuchField, NoSuchCollection, WrongKind, SameCollection, OtherField, OutOfMemory}
use Rattle.ic_world.specs.declared.taken_part.TakenPart.{TakenPart}
use Rattle.ic_world.specs.declared.taken_part.TakenPart.TheVariants.{All, After, Before}
use Rattle.ic_world.specs.Calls.{State, Reply, done, opened, refused, having, AtGap, asks}
use Rattle.ic_world.specs.Family.{Family, Sequence, same_kind, collection, field_of, linked_of, has_field, with_linked, with_collection, with_opened}

-- a call is refused with `NoSuchCollection` if the collection does not exist. If it exists, `rest` is the result of the remaining tests, which read
-- the collection
abbrev pub asks_collection : Option Sequence → (Sequence → Option Refusal) → Option Refusal
asks_collection None rest = Some NoSuchCollection
asks_collection (Some s) rest = rest s

-- `sequence_of` is the collection of the field f with the state t. `with_members` is the collection s with the given members and cursor in place of
-- its own
abbrev pub sequence_of : ℕ → State → Sequence
sequence_of f t = record { field = f; kind = t.kind; members = t.members; cursor = t.cursor }

abbrev pub with_members : Sequence → List Place → Option Place → Sequence
with_members s members cursor = record s { members = members; cursor = cursor }

-- A PART is all members of a collection, or the members on one side of its cursor. `has_part` says which kinds can give a part away, and `PartsOf`
-- which members stay and which go
abbrev pub has_part : TakenPart → Kind → Bool
has_part All k = true
has_part After k = is_list k
has_part Before k = is_two_way_list k

abbrev pub PartsOf : TakenPart → (old new handed : State) → Type 0
PartsOf All old new handed = (new ≡ having old [] None) × (handed ≡ having old old.members None)
PartsOf After old new handed = AtGap old (λ gap. IsAfter gap old.cursor × (new ≡ having old gap.front old.cursor) × (handed ≡ having old gap.back None))
PartsOf Before old new handed = AtGap old (λ gap. IsBefore gap old.cursor × (new ≡ having old gap.back old.cursor) × (handed ≡ having old gap.front None))

module _ {A V : Type 0} where
  -- A CALL OF ONE COLLECTION reads and changes only the state of that collection in the world. `state_in` reads this state, and `with_state` writes
  -- it
  abbrev pub state_in : Family A V → Sequence → State
  state_in w s = record { kind = s.kind; members = s.members; cursor = s.cursor; linked = linked_of w s.field }

  abbrev pub with_state : Family A V → ℕ → ℕ → State → Family A V
  with_state w c f t = with_linked (with_collection w c (Some (sequence_of f t))) f t.linked

  -- A STEP of a call: if there is a refusal, the reply is the refusal and nothing changes. If there is none, `accepts` states the reply and the
  -- change
  abbrev pub StepBy : Option Refusal → (Reply → Family A V → Type 0) → Family A V → Reply → Family A V → Type 0
  StepBy refusal accepts old reply new = MatchOption refusal (accepts reply new) (λ r. (reply ≡ refused r) × (new ≡ old))

  -- the first refusal of `open`: the field does not exist, or its table cannot serve collections of the kind
  abbrev pub refusal_of_open : Family A V → ℕ → Kind → Option Refusal
  refusal_of_open w f k = asks (has_field w f) NoSuchField (asks (carries (field_of w f).kind k) WrongKind None)

  -- A PART of the collection c becomes a new collection of the same field. `refusal_of_part` is the first refusal, and `OpensWith` is what an
  -- accepted call does
  abbrev pub refusal_of_part : Family A V → ℕ → TakenPart → Option Refusal
  refusal_of_part w c part = asks_collection (collection w c) (λ s. asks (has_part part s.kind) WrongKind None)

  abbrev pub OpensWith : Family A V → ℕ → TakenPart → Reply → Family A V → Type 0
  OpensWith old c part (opened d) new = (d ≡ length old.collections) × (s : Sequence) × (t handed : State) × (collection old c ≡ Some s)
      × PartsOf part (state_in old s) t handed × (new ≡ with_opened (with_state old c s.field t) (sequence_of s.field handed))
  OpensWith old c part (refused OutOfMemory) new = new ≡ old
  OpensWith old c part _ new = ⊥

  -- A SPLICE moves all members of the collection d into the collection c. `refusal_of_splice` is the first refusal, and `has` says which kinds have
  -- the splice. `SplicesAt` says what an accepted splice does, and `IsBeside` says at which side of the cursor
  abbrev pub refusal_of_splice : Family A V → (Kind → Bool) → (c d : ℕ) → Option Refusal
  refusal_of_splice w has c d = asks_collection (collection w c) (λ s. asks_collection (collection w d) (λ t.
      asks (has s.kind) WrongKind (asks (same_kind s.kind t.kind) WrongKind (asks (not (nat_eq c d)) SameCollection
      (asks (nat_eq s.field t.field) OtherField None)))))

  abbrev pub SplicesAt : (Cut → Option Place → Type 0) → Family A V → (c d : ℕ) → Reply → Family A V → Type 0
  SplicesAt IsBeside old c d reply new = (reply ≡ done) × (s : Sequence) × (gap : Cut) × (collection old c ≡ Some s) × (join gap ≡ s.members)
      × (t : Sequence) × (collection old d ≡ Some t) × IsBeside gap s.cursor
      × (new ≡ with_collection (with_collection old d (Some (with_members t [] None))) c (Some (with_members s (splice gap t.members) s.cursor)))

  -- `StepOut` is the step of a call that gives a part away, and `StepSplice` is the step of a splice
  abbrev pub StepOut : Family A V → ℕ → TakenPart → Reply → Family A V → Type 0
  StepOut old c part reply new = StepBy (refusal_of_part old c part) (OpensWith old c part) old reply new

  abbrev pub StepSplice : (Cut → Option Place → Type 0) → (Kind → Bool) → Family A V → (c d : ℕ) → Reply → Family A V → Type 0
  StepSplice IsBeside has old c d reply new = StepBy (refusal_of_splice old has c d) (SplicesAt IsBeside old c d) old reply new
