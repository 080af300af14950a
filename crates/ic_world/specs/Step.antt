-- ONE CALL OF A WORLD is a step from one family to another, and a list of calls is a run of steps.
use Rattle.std.specs.Prelude.{◌≡◌, ◌<◌, ◌^◌, ℕ, not, reverse, List, [], ◌∷◌, ◌++◌, length, Option, Some, None}
use Rattle.std.specs.List.{list_all}
use Rattle.std.specs.declared.cmp.Ordering.{Ordering}
use Rattle.std.specs.FinSet as set
use Rattle.std.specs.FinMap as map
use Rattle.ic_link_ops.specs.Prelude.{index_of, IsAfter, IsBefore}
use Rattle.ic_rbtree.specs.declared.keys.key_adapter.Bound.{Bound}
use Rattle.ic_rbtree.specs.Ranges.{runs_up, IsRange}
use Rattle.ic_any_collection.specs.AnyCollection.{has_before, is_list, is_two_way_list, is_tree}
use Rattle.ic_world.specs.Looks.{WithinBound}
use Rattle.ic_world.specs.declared.call.Refusal.{Refusal}
use Rattle.ic_world.specs.declared.call.Refusal.TheVariants.{NoSuchField, NoSuchObject, WrongKind, IsMember, StillLinked, TooManyObjects, OutOfMemory}
use Rattle.ic_world.specs.declared.call.Command.{Command}
use Rattle.ic_world.specs.declared.call.Command.TheVariants as call
use Rattle.ic_world.specs.declared.calls.collection_call.Call.{Call}
use Rattle.ic_world.specs.declared.taken_part.TakenPart.TheVariants.{All, After, Before}
use Rattle.ic_world.specs.Family.{Family, Sequence, collection, linked_of, has_field, is_placed, is_linked_somewhere, is_member_in, objects_of, with_linked, with_collection, with_opened}
use Rattle.ic_world.specs.Calls.{State, Reply, done, object, field, opened, items, linked, range, refused, object_or_nothing, asks, unlinked, bound_at, names, refusal_of, Replies}
use Rattle.ic_world.specs.Several.{asks_collection, with_members, state_in, with_state, StepBy, refusal_of_open, refusal_of_part, OpensWith, refusal_of_splice, SplicesAt}

module _ {A V K : Type 0} where
  abbrev pub refusal_on : Family A V → ℕ → Call K → Option Refusal
  refusal_on w c call = asks_collection (collection w c) (λ s. asks (list_all (is_placed w) (names call)) NoSuchObject (refusal_of call (state_in w s)))

  -- THE FIRST REFUSAL that applies to a call, in the order of the refusals' numbers, or none if no refusal applies
  abbrev pub refusal : Family A V → Command V K → Option Refusal
  refusal w (call.On c one) = refusal_on w c one
  refusal w (call.AddField k) = None
  refusal w (call.Open f k) = refusal_of_open w f k
  refusal w (call.Place v) = None
  refusal w (call.RemoveObject p) = asks (is_placed w p) NoSuchObject (asks (not (is_linked_somewhere w p)) StillLinked None)
  refusal w (call.SetValue p v) = asks (is_placed w p) NoSuchObject None
  refusal w (call.Dispose c) = asks_collection (collection w c) (λ s. None)
  refusal w (call.FastClear c) = asks_collection (collection w c) (λ s. None)
  refusal w (call.Take c) = refusal_of_part w c All
  refusal w (call.SplitAfter c) = refusal_of_part w c After
  refusal w (call.SplitBefore c) = refusal_of_part w c Before
  refusal w (call.Current c) = asks_collection (collection w c) (λ s. None)
  refusal w (call.Show c) = asks_collection (collection w c) (λ s. None)
  refusal w (call.ShowBack c) = asks_collection (collection w c) (λ s. asks (has_before s.kind) WrongKind None)
  refusal w (call.SpliceAfter c d) = refusal_of_splice w is_list c d
  refusal w (call.SpliceBefore c d) = refusal_of_splice w is_two_way_list c d
  refusal w (call.Range c min max) = asks_collection (collection w c) (λ s. asks (is_tree s.kind) WrongKind None)
  refusal w (call.IsLinked f p) = asks (has_field w f) NoSuchField (asks (is_placed w p) NoSuchObject None)
  refusal w (call.ForceUnlink f p) = asks (has_field w f) NoSuchField (asks (is_placed w p) NoSuchObject (asks (not (is_member_in w f p)) IsMember None))

module _ {A V K : Type 0} (cmp : K → K → Ordering) (key_of : A → V → K) where
  abbrev pub AcceptsOn : Family A V → ℕ → Call K → Reply → Family A V → Type 0
  AcceptsOn old c call reply new = (s : Sequence) × (t : State) × (collection old c ≡ Some s)
      × Replies cmp (key_of old.adapter) (objects_of old) call (state_in old s) reply t × (new ≡ with_state old c s.field t)

  -- the reply of `range` has the members between two bounds in their order, and the number of looks (key comparisons) of the search for each bound
  abbrev pub RangeReplies : Family A V → Bound K → Bound K → Sequence → Reply → Type 0
  RangeReplies w min max s (range places first second) =
      IsRange (bound_at cmp (key_of w.adapter) (objects_of w) min) (bound_at cmp (key_of w.adapter) (objects_of w) max)
      (runs_up cmp (key_of w.adapter) (objects_of w)) s.members places × WithinBound min first s.members × WithinBound max second s.members
  RangeReplies w min max s (refused OutOfMemory) = Unit {0}
  RangeReplies w min max s _ = ⊥

  -- WHAT AN ACCEPTED CALL returns and changes. The calls that allocate may return `OutOfMemory`, and then nothing changes
  abbrev pub Accepts : Family A V → Command V K → Reply → Family A V → Type 0
  Accepts old (call.On c one) reply new = AcceptsOn old c one reply new
  Accepts old (call.AddField k) (field f) new =
      (f ≡ length old.fields) × (new ≡ record old { fields = old.fields ++ record { kind = k; linked = set.empty } ∷ [] })
  Accepts old (call.AddField k) (refused OutOfMemory) new = new ≡ old
  Accepts old (call.AddField k) _ new = ⊥
  Accepts old (call.Open f k) (opened c) new =
      (c ≡ length old.collections) × (new ≡ with_opened old (record { field = f; kind = k; members = []; cursor = None }))
  Accepts old (call.Open f k) (refused OutOfMemory) new = new ≡ old
  Accepts old (call.Open f k) _ new = ⊥
  Accepts old (call.Place v) (object p) new =
      (map.get old.objects (index_of p) ≡ None) × (index_of p < 2 ^ 32) × (new ≡ record old { objects = map.insert old.objects (index_of p) v })
  Accepts old (call.Place v) (refused TooManyObjects) new = new ≡ old
  Accepts old (call.Place v) (refused OutOfMemory) new = new ≡ old
  Accepts old (call.Place v) _ new = ⊥
  Accepts old (call.RemoveObject p) reply new = (reply ≡ done) × (new ≡ record old { objects = map.remove old.objects (index_of p) })
  Accepts old (call.SetValue p v) reply new = (reply ≡ done) × (new ≡ record old { objects = map.insert old.objects (index_of p) v })
  Accepts old (call.Dispose c) reply new = (s : Sequence) × (collection old c ≡ Some s) × (reply ≡ done)
      × (new ≡ with_linked (with_collection old c None) s.field (unlinked (linked_of old s.field) s.members))
  Accepts old (call.FastClear c) reply new = (s : Sequence) × (collection old c ≡ Some s) × (reply ≡ done) × (new ≡ with_collection old c (Some (with_members s [] None)))
  Accepts old (call.Take c) reply new = OpensWith old c All reply new
  Accepts old (call.SplitAfter c) reply new = OpensWith old c After reply new
  Accepts old (call.SplitBefore c) reply new = OpensWith old c Before reply new
  Accepts old (call.Current c) reply new = (s : Sequence) × (collection old c ≡ Some s) × (reply ≡ object_or_nothing s.cursor) × (new ≡ old)
  Accepts old (call.Show c) (items places) new = (s : Sequence) × (collection old c ≡ Some s) × (places ≡ s.members) × (new ≡ old)
  Accepts old (call.Show c) (refused OutOfMemory) new = new ≡ old
  Accepts old (call.Show c) _ new = ⊥
  Accepts old (call.ShowBack c) (items places) new = (s : Sequence) × (collection old c ≡ Some s) × (places ≡ reverse s.members) × (new ≡ old)
  Accepts old (call.ShowBack c) (refused OutOfMemory) new = new ≡ old
  Accepts old (call.ShowBack c) _ new = ⊥
  Accepts old (call.SpliceAfter c d) reply new = SplicesAt IsAfter old c d reply new
  Accepts old (call.SpliceBefore c d) reply new = SplicesAt IsBefore old c d reply new
  Accepts old (call.Range c min max) reply new = (s : Sequence) × (collection old c ≡ Some s) × RangeReplies old min max s reply × (new ≡ old)
  Accepts old (call.IsLinked f p) reply new = (reply ≡ linked (set.contains (linked_of old f) (index_of p))) × (new ≡ old)
  Accepts old (call.ForceUnlink f p) reply new = (reply ≡ done) × (new ≡ with_linked old f (set.remove (linked_of old f) (index_of p)))

  -- A STEP: the call `command` may return this reply and lead from the family `old` to the family `new`
  abbrev pub Step : Family A V → Command V K → Reply → Family A V → Type 0
  Step old command reply new = StepBy (refusal old command) (Accepts old command) old reply new

  -- a call of the collection c may return this reply and lead from the family `old` to the family `new`
  abbrev pub StepOn : Family A V → ℕ → Call K → Reply → Family A V → Type 0
  StepOn old c call reply new = StepBy (refusal_on old c call) (AcceptsOn old c call) old reply new

  -- A RUN of a list of calls leads from one family to another. Each call is a step from the family to which the call before led, and the replies are
  -- in the order of the calls
  abbrev pub Runs : Family A V → List (Command V K) → List Reply → Family A V → Type 0
  Runs old [] [] new = new ≡ old
  Runs old (call ∷ calls) (reply ∷ replies) new = (mid : Family A V) × Step old call reply mid × Runs mid calls replies new
  Runs old _ _ new = ⊥
