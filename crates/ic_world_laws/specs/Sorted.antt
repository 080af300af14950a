-- What keyed calls return if their tree is sorted: the first, the last or all of the members whose keys meet a condition.
use Rattle.std.specs.Prelude.{◌≡◌, ℕ, true, false, not, ◌&&◌, Bool, List, ◌∷◌, ◌++◌, map, Some, None}
use Rattle.std.specs.List.{filter}
use Rattle.std.specs.declared.cmp.Ordering.{Ordering}
use Rattle.ic_link_ops.specs.Prelude.{Place, first, last, values_at}
use Rattle.ic_rbtree.specs.declared.keys.key_adapter.Bound.{Bound}
use Rattle.ic_rbtree.specs.Prelude.{IsSorted, equal_at, less_at, meets_lower, meets_upper}
use Rattle.ic_world.specs.declared.call.Command.{Command}
use Rattle.ic_world.specs.declared.call.Command.TheVariants as call
use Rattle.ic_world.specs.declared.calls.collection_call.Call.TheVariants as one
use Rattle.ic_world.specs.declared.calls.search.Search.TheVariants.{Find, LowerBound, UpperBound}
use Rattle.ic_world.specs.declared.calls.insertion.Insertion.TheVariants.{Insert, CursorInsert}
use Rattle.ic_world.specs.Family.{Family, Sequence, collection, objects_of}
use Rattle.ic_world.specs.Calls.{key_at, bound_at, own_at, Reply, found, looked, range, entry}

module _ {A V K : Type 0} (cmp : K → K → Ordering) (key_of : A → V → K) (w : Family A V) where
  -- SORTED: the keys never decrease from one member to the next
  abbrev pub IsSortedIn : List Place → Type 0
  IsSortedIn s = IsSorted cmp (map (key_of w.adapter) (values_at (objects_of w) s))

  -- if the members of collection c are sorted by their keys, `Holds` is true of them
  abbrev pub WhileSorted : ℕ → (List Place → Type 0) → Type 0
  WhileSorted c Holds = (s : Sequence) → collection w c ≡ Some s → IsSortedIn s.members → Holds s.members

  -- whether the member at a place has the key `key`
  abbrev pub has_key : K → Place → Bool
  has_key key = equal_at (key_at cmp (key_of w.adapter) (objects_of w) key)

  -- whether the key of the member at a place is greater than `key`
  abbrev pub has_greater : K → Place → Bool
  has_greater key = less_at (key_at cmp (key_of w.adapter) (objects_of w) key)

  -- whether the key of the member at a place is within the lower bound `bound`
  abbrev pub is_from : Bound K → Place → Bool
  is_from bound = meets_lower (bound_at cmp (key_of w.adapter) (objects_of w) bound)

  -- whether the key of the member at a place is within the upper bound `bound`
  abbrev pub is_until : Bound K → Place → Bool
  is_until bound = meets_upper (bound_at cmp (key_of w.adapter) (objects_of w) bound)

  -- whether the key of the member at a place is greater than the key of the object at p
  abbrev pub is_greater : Place → Place → Bool
  is_greater p = less_at (own_at cmp (key_of w.adapter) (objects_of w) p)

  -- A SEARCH FOR A KEY finds the first member with the key. If `entry` replies that its object was inserted, no member had the key
  abbrev pub FindsFirst : Command V K → Reply → Type 0
  FindsFirst (call.On c (one.Search (Find key))) (found p looks) = WhileSorted c (λ s. p ≡ first (filter (has_key key) s))
  FindsFirst (call.On c (one.Enter key object)) (entry true p looks) = WhileSorted c (λ s. Some p ≡ first (filter (has_key key) s))
  FindsFirst (call.On c (one.Enter key object)) (entry false p looks) = WhileSorted c (λ s. None ≡ first (filter (has_key key) s))
  FindsFirst _ _ = Unit

  -- A SEARCH FOR A LOWER BOUND finds the first member within the bound, and a search for an upper bound finds the last member within it
  abbrev pub FindsEnd : Command V K → Reply → Type 0
  FindsEnd (call.On c (one.Search (LowerBound bound))) (found p looks) = WhileSorted c (λ s. p ≡ first (filter (is_from bound) s))
  FindsEnd (call.On c (one.Search (UpperBound bound))) (found p looks) = WhileSorted c (λ s. p ≡ last (filter (is_until bound) s))
  FindsEnd _ _ = Unit

  -- A RANGE returns all members whose keys are within both bounds, in their order
  abbrev pub IsWithinBoth : Command V K → Reply → Type 0
  IsWithinBoth (call.Range c min max) (range places first_looks second_looks) = WhileSorted c (λ s. places ≡ filter (λ q. is_from min q && is_until max q) s)
  IsWithinBoth _ _ = Unit

  -- IN THE FAMILY `new` COLLECTION c HAS first the members of s for which `greater` is false, then p, and then the members of s for which `greater`
  -- is true
  abbrev pub PutsAfter : (Place → Bool) → ℕ → Place → Family A V → List Place → Type 0
  PutsAfter greater c p new s = (t : Sequence) × (collection new c ≡ Some t) × (t.members ≡ filter (λ q. not (greater q)) s ++ p ∷ filter greater s)

  -- AN INSERT adds its object after all members whose keys are not greater than the object's own. A vacant `entry` adds its object after all members
  -- whose keys are not greater than the searched key
  abbrev pub GoesAfter : Command V K → Reply → Family A V → Type 0
  GoesAfter (call.On c (one.Insertion (Insert p))) (looked looks) new = WhileSorted c (PutsAfter (is_greater p) c p new)
  GoesAfter (call.On c (one.Insertion (CursorInsert p))) (looked looks) new = WhileSorted c (PutsAfter (is_greater p) c p new)
  GoesAfter (call.On c (one.Enter key p)) (entry false q looks) new = WhileSorted c (PutsAfter (has_greater key) c p new)
  GoesAfter _ _ new = Unit

module _ {A V K : Type 0} (cmp : K → K → Ordering) (key_of : A → V → K) where
  -- the members of collection c are sorted after the call
  abbrev pub IsSortedAfter : ℕ → Family A V → Type 0
  IsSortedAfter c new = (t : Sequence) → collection new c ≡ Some t → IsSortedIn cmp key_of new t.members
