-- MEMBERS WITH EQUAL KEYS ARE IN THE ORDER OF THEIR INSERTION, whatever objects were inserted by their keys or removed before.
use Rattle.std.specs.Prelude.{◌≡◌, ◌≢◌, ◌↔◌, ◌⊎◌, ℕ, true, false, not, nat_eq, cond, List, [], ◌∷◌, ◌++◌, Some}
use Rattle.std.specs.List.{filter}
use Rattle.std.specs.declared.cmp.Ordering.{Ordering}
use Rattle.ic_link_ops.specs.Prelude.{Place, IsAbsent}
use Rattle.ic_world.specs.declared.call.Command.{Command}
use Rattle.ic_world.specs.declared.call.Command.TheVariants as call
use Rattle.ic_world.specs.declared.calls.collection_call.Call.TheVariants as one
use Rattle.ic_world.specs.declared.calls.bulk_edit.BulkEdit.TheVariants.{Clear, Reverse}
use Rattle.ic_world.specs.declared.calls.insertion.Insertion.TheVariants.{Insert, CursorInsert}
use Rattle.ic_world.specs.Prelude.{Family, Sequence, same_place, collection, Reply, done, object, opened, looked, entry, Step}
use Rattle.ic_world_laws.specs.Sorted.{IsSortedIn, WhileSorted, IsSortedAfter, has_key}

module _ {A V K : Type 0} (cmp : K → K → Ordering) (key_of : A → V → K) (w : Family A V) where
  -- s IS `insertion_order`, STABLY SORTED: s is sorted and has the same members as `insertion_order`, and members with equal keys are in the same
  -- order in both
  abbrev pub IsInOrderOf : List Place → List Place → Type 0
  IsInOrderOf insertion_order s = IsSortedIn cmp key_of w s
      × ((p : Place) → IsAbsent p s ↔ IsAbsent p insertion_order)
      × ((key : K) → filter (has_key cmp key_of w key) s ≡ filter (has_key cmp key_of w key) insertion_order)

  -- COLLECTION c HAS THE INSERTION ORDER `insertion_order`, a list of the objects that were inserted and not removed, in the order of their
  -- insertion. The members of c are this list, stably sorted
  abbrev pub KeepsInsertionOrder : ℕ → List Place → Type 0
  KeepsInsertionOrder c insertion_order = (s : Sequence) × (collection w c ≡ Some s) × IsInOrderOf insertion_order s.members

-- the sequence s without the place p
abbrev pub without : Place → List Place → List Place
without p s = filter (λ q. not (same_place q p)) s

-- the insertion order of the collection c after p was inserted into the collection d. If d is c, p is last in the order. If not, the order is as
-- before
abbrev pub put_last : (c d : ℕ) → Place → List Place → List Place
put_last c d p insertion_order = cond (nat_eq d c) (insertion_order ++ p ∷ []) insertion_order

-- the insertion order of the collection c after p was removed from the collection d. If d is c, the order is without p. If not, it is as before
abbrev pub taken_out : (c d : ℕ) → Place → List Place → List Place
taken_out c d p insertion_order = cond (nat_eq d c) (without p insertion_order) insertion_order

-- the insertion order of the collection c after all members were removed from the collection d. If d is c, the order is empty. If not, it is as
-- before
abbrev pub emptied : (c d : ℕ) → List Place → List Place
emptied c d insertion_order = cond (nat_eq d c) [] insertion_order

module _ {V K : Type 0} (c : ℕ) where
  -- THE INSERTION ORDER OF COLLECTION c AFTER A CALL: an object that the call inserted by its key is last. An object that the call removed is not in
  -- the order. All other calls leave the order as it was
  abbrev pub insertion_order_after : Command V K → Reply → List Place → List Place
  insertion_order_after (call.On d (one.Insertion (Insert p))) (looked n) insertion_order = put_last c d p insertion_order
  insertion_order_after (call.On d (one.Insertion (CursorInsert p))) (looked n) insertion_order = put_last c d p insertion_order
  insertion_order_after (call.On d (one.Enter key p)) (entry false q looks) insertion_order = put_last c d p insertion_order
  insertion_order_after (call.On d (one.Take at)) (object p) insertion_order = taken_out c d p insertion_order
  insertion_order_after (call.On d (one.BulkEdit Clear)) done insertion_order = emptied c d insertion_order
  insertion_order_after (call.FastClear d) done insertion_order = emptied c d insertion_order
  insertion_order_after (call.Take d) (opened e) insertion_order = emptied c d insertion_order
  insertion_order_after _ _ insertion_order = insertion_order

  -- THE INSERTION ORDER OF COLLECTION c AFTER A LIST OF CALLS, computed from their replies one call after the other
  abbrev pub insertion_order_over : List (Command V K) → List Reply → List Place → List Place
  insertion_order_over (command ∷ commands) (reply ∷ replies) insertion_order = insertion_order_over commands replies (insertion_order_after command reply insertion_order)
  insertion_order_over _ _ insertion_order = insertion_order

module _ {A V K : Type 0} (cmp : K → K → Ordering) (key_of : A → V → K) where
  -- A CALL IS ORDERLY for collection c if it leaves the order of the members to their keys. It inserts no object into c by position, or by a key that
  -- is not the object's own. It does not reverse, splice, split or dispose of c, and it gives no member of c another key
  abbrev pub IsOrderly : Family A V → (c : ℕ) → List Place → Command V K → Type 0
  IsOrderly w c insertion_order (call.On d (one.Put at p)) = d ≢ c
  IsOrderly w c insertion_order (call.On d (one.Swap at p)) = d ≢ c
  IsOrderly w c insertion_order (call.On d (one.Enter key p)) = d ≡ c → has_key cmp key_of w key p ≡ true
  IsOrderly w c insertion_order (call.On d (one.BulkEdit Reverse)) = d ≢ c
  IsOrderly w c insertion_order (call.SplitAfter d) = d ≢ c
  IsOrderly w c insertion_order (call.SplitBefore d) = d ≢ c
  IsOrderly w c insertion_order (call.SpliceAfter d e) = (d ≢ c) × (e ≢ c)
  IsOrderly w c insertion_order (call.SpliceBefore d e) = (d ≢ c) × (e ≢ c)
  IsOrderly w c insertion_order (call.Dispose d) = d ≢ c
  IsOrderly w c insertion_order (call.SetValue p value) = IsAbsent p insertion_order ⊎ (has_key cmp key_of w (key_of w.adapter value) p ≡ true)
  IsOrderly w c insertion_order _ = Unit

  -- ALL CALLS OF A LIST ARE ORDERLY for collection c: the first call is orderly, and in whatever family it leads to, the remaining calls are orderly
  abbrev pub AreOrderly : Family A V → (c : ℕ) → List (Command V K) → List Reply → List Place → Type 0
  AreOrderly w c (command ∷ commands) (reply ∷ replies) insertion_order = IsOrderly w c insertion_order command
      × ((next : Family A V) → Step cmp key_of w command reply next → AreOrderly next c commands replies (insertion_order_after c command reply insertion_order))
  AreOrderly w c _ _ insertion_order = Unit {0}

  -- EACH COLLECTION STAYS SORTED if it was sorted before the call, and the call is orderly for it
  abbrev pub StaysSorted : Family A V → Command V K → Family A V → Type 0
  StaysSorted old command new = (c : ℕ) → WhileSorted cmp key_of old c (λ s. IsOrderly old c s command → IsSortedAfter cmp key_of c new)

  -- AN ORDERLY CALL KEEPS THE INSERTION ORDER of a collection: if the collection had an insertion order before the call, it then has the order that
  -- `insertion_order_after` computes
  abbrev pub KeepsOrder : Family A V → Command V K → Reply → Family A V → Type 0
  KeepsOrder old command reply new = (c : ℕ) (insertion_order : List Place) → KeepsInsertionOrder cmp key_of old c insertion_order → IsOrderly old c insertion_order command
      → KeepsInsertionOrder cmp key_of new c (insertion_order_after c command reply insertion_order)

  -- A NEW COLLECTION has an empty insertion order if `open` made it. If `take` made it, it has the insertion order of the collection whose members
  -- were taken
  abbrev pub StartsInOrder : Family A V → Command V K → Reply → Family A V → Type 0
  StartsInOrder old (call.Open f kind) (opened d) new = KeepsInsertionOrder cmp key_of new d []
  StartsInOrder old (call.Take c) (opened d) new = (insertion_order : List Place) → KeepsInsertionOrder cmp key_of old c insertion_order → KeepsInsertionOrder cmp key_of new d insertion_order
  StartsInOrder old _ _ new = Unit

  -- A LIST OF CALLS THAT ARE ORDERLY for a collection keeps its members with equal keys in the order of their insertion
  abbrev pub RunKeepsInsertionOrder : Family A V → List (Command V K) → List Reply → Family A V → Type 0
  RunKeepsInsertionOrder old commands replies new = (c : ℕ) (insertion_order : List Place) → KeepsInsertionOrder cmp key_of old c insertion_order → AreOrderly old c commands replies insertion_order
      → KeepsInsertionOrder cmp key_of new c (insertion_order_over c commands replies insertion_order)
