-- What users can rely on in every call of a world, whatever calls were made before it.
use Rattle.std.specs.Prelude.{◌≡◌, ◌↔◌, ℕ, true, List, Option, Some, None, IfSome}
use Rattle.std.specs.FinSet as set
use Rattle.ic_link_ops.specs.Prelude.{Place, index_of}
use Rattle.ic_world.specs.Looks.{WithinComparisonBound, WithinBound}
use Rattle.ic_world.specs.declared.call.Refusal.TheVariants.{AlreadyLinked}
use Rattle.ic_world.specs.declared.call.Command.{Command}
use Rattle.ic_world.specs.declared.call.Command.TheVariants as call
use Rattle.ic_world.specs.declared.calls.collection_call.Call.TheVariants as one
use Rattle.ic_world.specs.declared.calls.search.Search.TheVariants.{LowerBound, UpperBound}
use Rattle.ic_world.specs.declared.calls.insertion.Insertion.TheVariants.{Insert, CursorInsert}
use Rattle.ic_world.specs.Prelude.{Family, Sequence, collection, linked_of, Reply, found, looked, range, entry, refused}

module _ {V K : Type 0} where
  -- the number of the collection into which a call inserts an object, and the place of this object. The result is none if the call inserts nothing
  abbrev pub inserts : Command V K → Option (ℕ × Place)
  inserts (call.On c (one.Put at p)) = Some (c, p)
  inserts (call.On c (one.Swap at p)) = Some (c, p)
  inserts (call.On c (one.Insertion (Insert p))) = Some (c, p)
  inserts (call.On c (one.Insertion (CursorInsert p))) = Some (c, p)
  inserts (call.On c (one.Enter key p)) = Some (c, p)
  inserts _ = None

  -- the number of the tree that a call searches by keys, or none if the call searches no tree
  abbrev pub descends : Command V K → Option ℕ
  descends (call.On c (one.Search search)) = Some c
  descends (call.On c (one.Insertion insertion)) = Some c
  descends (call.On c (one.Enter key p)) = Some c
  descends (call.Range c min max) = Some c
  descends _ = None

-- A REPLY IS WELL NAMED if no refusal except `AlreadyLinked` applied to the call: the reply is this refusal, or it is no refusal. The only exception
-- is the reply of an `entry` that found a member with its key. It is not well named, because the call inserts nothing
abbrev pub IsWellNamed : Reply → Type 0
IsWellNamed (refused AlreadyLinked) = Unit
IsWellNamed (refused _) = ⊥
IsWellNamed (entry true p looks) = ⊥
IsWellNamed _ = Unit

-- the reply of a call has at most the number of looks (key comparisons) that one search may make in a tree with the members s. A search for
-- `Unbounded` may make none. A range makes a search for each bound, and its reply has the looks for the lower bound first
module _ {V K : Type 0} (s : List Place) where
  abbrev pub WithinBoundFor : Command V K → Reply → Type 0
  WithinBoundFor (call.On c (one.Search (LowerBound bound))) (found p looks) = WithinBound bound looks s
  WithinBoundFor (call.On c (one.Search (UpperBound bound))) (found p looks) = WithinBound bound looks s
  WithinBoundFor (call.Range c min max) (range places first_looks second_looks) = WithinBound min first_looks s × WithinBound max second_looks s
  WithinBoundFor _ (found p looks) = WithinComparisonBound looks s
  WithinBoundFor _ (looked looks) = WithinComparisonBound looks s
  WithinBoundFor _ (entry occupied p looks) = WithinComparisonBound looks s
  WithinBoundFor _ _ = Unit

module _ {A V : Type 0} where
  -- AN INSERT WHOSE REPLY IS WELL NAMED IS REFUSED EXACTLY IF its object is linked in the field of the collection
  abbrev pub IsRefusedExactlyIfLinked : Family A V → Option (ℕ × Place) → Reply → Type 0
  IsRefusedExactlyIfLinked w None reply = Unit
  IsRefusedExactlyIfLinked w (Some (c, p)) reply = (s : Sequence) → collection w c ≡ Some s → IsWellNamed reply
      → (reply ≡ refused AlreadyLinked) ↔ (set.contains (linked_of w s.field) (index_of p) ≡ true)

  -- LOOKS ARE FEW: a search of a tree that had n members before the call makes v looks, with 2^v at most (n + 1)^2. A search for a key makes at least
  -- one look if the tree had a member, and a search for `Unbounded` makes no look
  abbrev pub KeepsComparisonBound : {K : Type 0} → Family A V → Command V K → Reply → Type 0
  KeepsComparisonBound w command reply = IfSome (descends command) (λ c. (s : Sequence) → collection w c ≡ Some s → WithinBoundFor s.members command reply)
