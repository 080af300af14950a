-- If a tree is sorted, each keyed call returns the first, the last or all of the members that a filter by keys leaves.
use Rattle.std.proofs.Common.{◌≡◌, ℕ, true, false, ◌&&◌, List, [], ◌∷◌, length, get_or, set, Option, Some, None, inl, inr, refl, sym, ap, ◌∙◌, subst, Ordering}
use Rattle.std.proofs.lemmas.Bool.{cases_lt, and_parts}
use Rattle.std.proofs.lemmas.List.{get_or-set_same, get_or_past}
use Rattle.std.specs.Cmp.{IsTotalOrder}
use Rattle.std.specs.List.{filter, list_all}
use Rattle.ic_link_ops.specs.Prelude.{Place, object_at, Cut, join, insert, first, last}
use Rattle.ic_rbtree.specs.Borders.{IsBorder, IsSortedFor, less_at}
use Rattle.ic_rbtree.proofs.KeyLaws.{value_there}
use Rattle.ic_rbtree.proofs.SortedAnswers.{put_after, for_key, found_first, vacant_finds, lower_first, upper_last, range_filter}
use Rattle.ic_rbtree.proofs.SortedValues.{own_order_is}
use Rattle.ic_world.specs.declared.call.Command.{Command}
use Rattle.ic_world.specs.declared.call.Command.TheVariants as call
use Rattle.ic_world.specs.declared.calls.insertion.Insertion.{Insertion}
use Rattle.ic_world.specs.declared.calls.insertion.Insertion.TheVariants as insertions
use Rattle.ic_world.specs.declared.calls.search.Search.TheVariants as searches
use Rattle.ic_world.specs.declared.calls.collection_call.Call.TheVariants.{Search as search, Insertion as insertion, Enter as enter}
use Rattle.ic_world.specs.Apart.{AreApart, AreAllPlaced}
use Rattle.ic_world.specs.Prelude.{Family, Sequence, collection, objects_of, is_placed, Step, StepOn, state_in, with_state, sequence_of}
use Rattle.ic_world.specs.Calls.{Reply, found, looked, range, entry, State, key_at, own_at, names, InsertionReplies, Replies}
use Rattle.ic_world_laws.specs.Sorted.{IsSortedIn, has_key, has_greater, is_greater, is_from, is_until, FindsFirst, FindsEnd, IsWithinBoth, PutsAfter, GoesAfter}
use Rattle.ic_world_laws.proofs.StepLaws.{of_reply, of_range}

-- if there was an item at the index i, and it was set to y, then a read at i returns y
set_there : {X : Type 0} (xs : List (Option X)) (i : ℕ) {x : X} (y : X) → get_or xs i None ≡ Some x → get_or (set xs i (Some y)) i None ≡ Some y
set_there xs i y is = elim (cases_lt i (length xs)) [
  | inl inside ↦ get_or-set_same xs i (Some y) None inside
  | inr past ↦ let none = sym (get_or_past xs i None past) ∙ is in absurd cc
]

-- if a reply is of one sort, for example the reply of a search, the statement P holds of what the reply contains. Nothing is said of other replies
abbrev IfFound : (Option Place → Type 0) → Reply → Type 0
IfFound P (found p n) = P p
IfFound P _ = Unit

abbrev IfOccupied : (Place → Type 0) → Reply → Type 0
IfOccupied P (entry true p n) = P p
IfOccupied P _ = Unit

abbrev IfVacant : Type 0 → Reply → Type 0
IfVacant P (entry false p n) = P
IfVacant P _ = Unit

abbrev IfRange : (List Place → Type 0) → Reply → Type 0
IfRange P (range places n m) = P places
IfRange P _ = Unit

module _ {A V K : Type 0} {cmp : K → K → Ordering} (total : IsTotalOrder cmp) (key_of : A → V → K) (old : Family A V) (placed : AreAllPlaced old) where
  -- THE FIRST MEMBER WITH A KEY is found by `find` and by `entry`, if the tree is sorted
  pub finds_first : (command : Command V K) (new : Family A V) (reply : Reply) → Step cmp key_of old command reply new → FindsFirst cmp key_of old command reply
  finds_first (call.On c (search (searches.Find key))) new (found p n) step = λ s is sorted.
      of_reply cmp key_of c (search (searches.Find key)) (IfFound (λ p. p ≡ first (filter (has_key cmp key_of old key) s.members))) old new (found p n) step s is (λ r. tt)
      (λ there t replies left. found_first total key_of old.adapter (objects_of old) (placed c s is) sorted key replies.0)
  finds_first (call.On c (enter key object)) new (entry true p n) step = λ s is sorted.
      of_reply cmp key_of c (enter key object) (IfOccupied (λ p. Some p ≡ first (filter (has_key cmp key_of old key) s.members))) old new (entry true p n) step s is (λ r. tt)
      (λ there t replies left. found_first total key_of old.adapter (objects_of old) (placed c s is) sorted key replies.0)
  finds_first (call.On c (enter key object)) new (entry false p n) step = λ s is sorted.
      of_reply cmp key_of c (enter key object) (IfVacant (None ≡ first (filter (has_key cmp key_of old key) s.members))) old new (entry false p n) step s is (λ r. tt)
      (λ there t replies left. let at = replies.3 in
      found_first total key_of old.adapter (objects_of old) (placed c s is) sorted key (vacant_finds at.0 at.1 at.2.0.0 at.2.0.1))
  finds_first _ new _ step = tt

  -- THE FIRST MEMBER within a lower bound is found, and the last member within an upper bound, if the tree is sorted
  pub finds_end : (command : Command V K) (new : Family A V) (reply : Reply) → Step cmp key_of old command reply new → FindsEnd cmp key_of old command reply
  finds_end (call.On c (search (searches.LowerBound bound))) new (found p n) step = λ s is sorted.
      of_reply cmp key_of c (search (searches.LowerBound bound)) (IfFound (λ p. p ≡ first (filter (is_from cmp key_of old bound) s.members))) old new (found p n) step s is (λ r. tt)
      (λ there t replies left. lower_first total key_of old.adapter (objects_of old) (placed c s is) sorted bound replies.0)
  finds_end (call.On c (search (searches.UpperBound bound))) new (found p n) step = λ s is sorted.
      of_reply cmp key_of c (search (searches.UpperBound bound)) (IfFound (λ p. p ≡ last (filter (is_until cmp key_of old bound) s.members))) old new (found p n) step s is (λ r. tt)
      (λ there t replies left. upper_last total key_of old.adapter (objects_of old) (placed c s is) sorted bound replies.0)
  finds_end _ new _ step = tt

  -- A RANGE has all members within both bounds, if the tree is sorted
  pub is_within_both : AreApart old → (command : Command V K) (new : Family A V) (reply : Reply) → Step cmp key_of old command reply new → IsWithinBoth cmp key_of old command reply
  is_within_both apart (call.Range c min max) new (range places n m) step = λ s is sorted.
      of_range cmp key_of c min max (IfRange (λ places. places ≡ filter (λ q. is_from cmp key_of old min q && is_until cmp key_of old max q) s.members)) old new (range places n m) step s is (λ r. tt)
      (λ replies. range_filter total key_of old.adapter (objects_of old) (placed c s is) sorted min max (apart.0 c s is) replies.0)
  is_within_both apart _ new _ step = tt

  -- an object that is inserted at the border of a key comes after all members whose keys are not greater than this key
  there_is : (c : ℕ) (s : Sequence) → collection old c ≡ Some s → (new : Family A V) (t : State) → new ≡ with_state old c s.field t → collection new c ≡ Some (sequence_of s.field t)
  there_is c s is new t left = subst (λ w. collection w c ≡ Some (sequence_of s.field t)) (sym left) (set_there old.collections c (sequence_of s.field t) is)

  after : (c : ℕ) (p : Place) (s : Sequence) → collection old c ≡ Some s → (new : Family A V) (t : State) → new ≡ with_state old c s.field t
      → (at : Place → Ordering) → IsSortedFor at s.members → (gap : Cut) → join gap ≡ s.members → IsBorder (less_at at) gap → t.members ≡ insert gap p → PutsAfter cmp key_of old (less_at at) c p new s.members
  after c p s is new t left at sorted gap cut border members = (sequence_of s.field t, there_is c s is new t left, members ∙ put_after sorted gap cut border p)

  -- AN OBJECT THAT IS INSERTED IN ORDER comes after all members whose keys are not greater than its own
  module _ (c : ℕ) (p : Place) (s : Sequence) (is : collection old c ≡ Some s) (sorted : IsSortedIn cmp key_of old s.members) (there : is_placed old p ≡ true)
      (new : Family A V) (t : State) (cursor : Option Place) (left : new ≡ with_state old c s.field t)
      (n : ℕ) (puts : InsertionReplies cmp (key_of old.adapter) (objects_of old) p cursor (state_in old s) (looked n) t) where
    own : (v : V) × (object_at (objects_of old) p ≡ Some v)
    own = value_there total (key_of old.adapter) (objects_of old) (object_at (objects_of old) p) there

    own_is : own_at cmp (key_of old.adapter) (objects_of old) p ≡ key_at cmp (key_of old.adapter) (objects_of old) (key_of old.adapter own.0)
    own_is = own_order_is cmp (key_of old.adapter) (objects_of old) p own.1

    members_are : t.members ≡ insert puts.0.0 p
    members_are = ap (λ (x : State). x.members) puts.0.2.1

    puts_after : PutsAfter cmp key_of old (is_greater cmp key_of old p) c p new s.members
    puts_after = after c p s is new t left (own_at cmp (key_of old.adapter) (objects_of old) p)
        (subst (λ at. IsSortedFor at s.members) (sym own_is) (for_key total key_of old.adapter (objects_of old) (placed c s is) sorted (key_of old.adapter own.0))) puts.0.0 puts.0.1 puts.0.2.0 members_are

  abbrev IsInOrder : ℕ → Place → Family A V → Sequence → Reply → Type 0
  IsInOrder c p new s (looked n) = PutsAfter cmp key_of old (is_greater cmp key_of old p) c p new s.members
  IsInOrder c p new s _ = Unit

  -- `insert` and `cursor_insert` both insert the object in order. They differ only in where they leave the cursor
  inserts : (c : ℕ) (p : Place) (call : Insertion) (cursor : State → Option Place) → names {K = K} (insertion call) ≡ p ∷ []
      → ((s t : State) (n : ℕ) → Replies cmp (key_of old.adapter) (objects_of old) (insertion call) s (looked n) t → InsertionReplies cmp (key_of old.adapter) (objects_of old) p (cursor s) s (looked n) t)
      → (new : Family A V) (n : ℕ) → StepOn cmp key_of old c (insertion call) (looked n) new → (s : Sequence) → collection old c ≡ Some s → IsSortedIn cmp key_of old s.members → IsInOrder c p new s (looked n)
  inserts c p call cursor named puts new n step s is sorted = of_reply cmp key_of c (insertion call) (IsInOrder c p new s) old new (looked n) step s is (λ r. tt) (λ there t replies left.
      let placed_p = (and_parts (is_placed old p) true (subst (λ ps. list_all (is_placed old) ps ≡ true) named there)).0 in
      let put = puts (state_in old s) t n replies in
      puts_after c p s is sorted placed_p new t (cursor (state_in old s)) left n put)

  put_by_key : (c : ℕ) (p : Place) (new : Family A V) (n : ℕ) → StepOn cmp key_of old c (insertion (insertions.Insert p)) (looked n) new
      → (s : Sequence) → collection old c ≡ Some s → IsSortedIn cmp key_of old s.members → IsInOrder c p new s (looked n)
  put_by_key c p = inserts c p (insertions.Insert p) (λ s. Some p) refl (λ s t n h. h)

  put_by_cursor : (c : ℕ) (p : Place) (new : Family A V) (n : ℕ) → StepOn cmp key_of old c (insertion (insertions.CursorInsert p)) (looked n) new
      → (s : Sequence) → collection old c ≡ Some s → IsSortedIn cmp key_of old s.members → IsInOrder c p new s (looked n)
  put_by_cursor c p = inserts c p (insertions.CursorInsert p) (λ s. s.cursor) refl (λ s t n h. h)

  pub goes_after : (command : Command V K) (new : Family A V) (reply : Reply) → Step cmp key_of old command reply new → GoesAfter cmp key_of old command reply new
  goes_after (call.On c (insertion (insertions.Insert p))) new (looked n) step = λ s is sorted. put_by_key c p new n step s is sorted
  goes_after (call.On c (insertion (insertions.CursorInsert p))) new (looked n) step = λ s is sorted. put_by_cursor c p new n step s is sorted
  goes_after (call.On c (enter key p)) new (entry false q n) step = λ s is sorted.
      of_reply cmp key_of c (enter key p) (IfVacant (PutsAfter cmp key_of old (has_greater cmp key_of old key) c p new s.members)) old new (entry false q n) step s is (λ r. tt)
      (λ there t replies left. let at = replies.3 in
      after c p s is new t left (key_at cmp (key_of old.adapter) (objects_of old) key) (for_key total key_of old.adapter (objects_of old) (placed c s is) sorted key) at.0 at.1 at.2.0.1
      (ap (λ (x : State). x.members) at.2.1))
  goes_after _ new _ step = tt
