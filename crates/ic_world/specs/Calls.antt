-- THE CALLS OF ONE COLLECTION: which kinds have a call, which refusal comes first, and what an accepted call returns and changes.
use Rattle.std.specs.Prelude.{◌≡◌, ℕ, Bool, true, false, not, is_some, reverse, List, [], ◌∷◌, Option, Some, None, drop}
use Rattle.std.specs.declared.cmp.Ordering.{Ordering}
use Rattle.std.specs.Ordering.{nat_cmp}
use Rattle.std.specs.FinSet as set
use Rattle.ic_link_ops.specs.Prelude.{Place, index_of, Objects, Cut, join, insert, remove, replace, first, last, but_last, IsAfter, IsBefore}
use Rattle.ic_any_collection.specs.declared.kind.Kind.{Kind}
use Rattle.ic_rbtree.specs.declared.keys.key_adapter.Bound.{Bound}
use Rattle.ic_rbtree.specs.Prelude.{Finds, IsBorder, IsLowerBorder, IsUpperBorder, less_at, compared, compared_within, order_of, own_order}
use Rattle.ic_any_collection.specs.AnyCollection.{has_before, is_xor, is_tree, has_pointer}
use Rattle.ic_any_collection.specs.declared.gap.Gap.{Gap}
use Rattle.ic_any_collection.specs.declared.gap.Gap.TheVariants.{Front, Back, Before, After}
use Rattle.ic_any_collection.specs.Gaps as gaps
pub use Rattle.ic_any_collection.specs.Gaps.{IsGapAt, rests, onward, onto}
use Rattle.ic_any_collection.specs.Keyed.{IsVacantFor}
use Rattle.ic_world.specs.Looks.{WithinComparisonBound, WithinBound}
use Rattle.ic_world.specs.declared.call.Refusal.{Refusal}
use Rattle.ic_world.specs.declared.call.Refusal.TheVariants.{WrongKind, NothingThere, NotAMember, NotANeighbour, AlreadyLinked}
pub use Rattle.ic_world.specs.declared.calls.collection_call.Call.{Call}
use Rattle.ic_world.specs.declared.calls.collection_call.Call.TheVariants as one
use Rattle.ic_world.specs.declared.calls.collection_call.Neighbor.{Neighbor}
use Rattle.ic_world.specs.declared.calls.collection_call.Neighbor.TheVariants.{Next, Prev}
use Rattle.ic_world.specs.declared.calls.seek.Seek.{Seek}
use Rattle.ic_world.specs.declared.calls.seek.Seek.TheVariants.{Null, On, With}
use Rattle.ic_world.specs.declared.calls.bulk_edit.BulkEdit.TheVariants.{Clear, Reverse}
use Rattle.ic_world.specs.declared.calls.search.Search.TheVariants.{Find, LowerBound, UpperBound}
use Rattle.ic_world.specs.declared.calls.insertion.Insertion.TheVariants.{Insert, CursorInsert}
use Rattle.ic_world.specs.Family.{same_position, is_among, before_or, after_of, next_of}

-- A COLLECTION AS ITS CALLS SEE IT: its kind, its members in order, the member that its cursor is on, and the linked places of its field
pub record State : Type 0 where
  pub kind : Kind
  pub members : List Place
  pub cursor : Option Place
  pub linked : set.FinSet nat_cmp

-- A REPLY is what a call returns, as contracts describe it. If the call returns several places, the reply has them as a sequence
pub data Reply : Type 0 where
  done : Reply
  nothing : Reply
  object : Place → Reply
  field : ℕ → Reply
  opened : ℕ → Reply
  items : List Place → Reply
  linked : Bool → Reply
  found : Option Place → ℕ → Reply
  looked : ℕ → Reply
  range : List Place → ℕ → ℕ → Reply
  entry : Bool → Place → ℕ → Reply
  refused : Refusal → Reply

-- one test of a call, whose result is the first argument. If the test fails, `asks` is the refusal r, and otherwise `rest`, the result of the
-- remaining tests
abbrev pub asks : {R : Type 0} → Bool → R → Option R → Option R
asks true r rest = rest
asks false r rest = Some r

-- the reply of a call that returns an object, or `nothing` if there is none
abbrev pub object_or_nothing : Option Place → Reply
object_or_nothing None = nothing
object_or_nothing (Some p) = object p

-- whether the place p is linked in the field of the collection s
abbrev pub is_linked_in : State → Place → Bool
is_linked_in s p = set.contains s.linked (index_of p)

-- five functions change the state of a collection, and each sets the cursor. `moved` changes nothing else, and `having` also sets the members. `put`
-- inserts p into the gap. `taken` removes p, the member after the gap. `swapped` replaces `out`, the member after the gap, by p
abbrev pub moved : State → Option Place → State
moved s cursor = record s { cursor = cursor }

abbrev pub having : State → List Place → Option Place → State
having s members cursor = record s { members = members; cursor = cursor }

abbrev pub put : State → Cut → Place → Option Place → State
put s gap p cursor = record { kind = s.kind; members = insert gap p; cursor = cursor; linked = set.insert s.linked (index_of p) }

abbrev pub taken : State → Cut → Place → Option Place → State
taken s gap p cursor = record { kind = s.kind; members = remove gap; cursor = cursor; linked = set.remove s.linked (index_of p) }

abbrev pub swapped : State → Cut → Place → Place → Option Place → State
swapped s gap p out cursor =
    record { kind = s.kind; members = replace gap p; cursor = cursor; linked = set.remove (set.insert s.linked (index_of p)) (index_of out) }

-- `unlinked` removes the members of a sequence from a set of linked places. `cleared` removes and unlinks all members of a collection, and puts its
-- cursor to null
abbrev pub unlinked : set.FinSet nat_cmp → List Place → set.FinSet nat_cmp
unlinked l [] = l
unlinked l (p ∷ s) = set.remove (unlinked l s) (index_of p)

abbrev pub cleared : State → State
cleared s = record { kind = s.kind; members = []; cursor = None; linked = unlinked s.linked s.members }

-- the statement `Rest` holds of some gap of the members of the collection s
abbrev pub AtGap : State → (Cut → Type 0) → Type 0
AtGap s Rest = (gap : Cut) × (join gap ≡ s.members) × Rest gap

-- a list of the one place that a call names, or the empty list if it names none
abbrev pub named_if : Option Place → List Place
named_if None = []
named_if (Some p) = p ∷ []

module _ {K : Type 0} where
  -- WHICH KINDS HAVE A CALL: whether collections of the kind k have the call. A collection of a kind without the call refuses it with `WrongKind`
  abbrev pub has_call : Call K → Kind → Bool
  has_call (one.Put at p) k = gaps.can_insert at k
  has_call (one.Take at) k = gaps.can_remove at k
  has_call (one.Swap at p) k = gaps.can_replace at k
  has_call (one.Move Next) k = true
  has_call (one.Move Prev) k = has_before k
  has_call (one.Seek Null) k = true
  has_call (one.Seek (On p)) k = has_pointer k
  has_call (one.Seek _) k = is_xor k
  has_call (one.BulkEdit Reverse) k = is_xor k
  has_call (one.BulkEdit _) k = true
  has_call (one.Search _) k = is_tree k
  has_call (one.Insertion _) k = is_tree k
  has_call (one.Enter key p) k = is_tree k

  -- the places of the objects that a call has as arguments
  abbrev pub names : Call K → List Place
  names (one.Put at p) = p ∷ []
  names (one.Swap at p) = p ∷ []
  names (one.Seek (On p)) = p ∷ []
  names (one.Seek (With way p beside)) = p ∷ named_if beside
  names (one.Insertion (Insert p)) = p ∷ []
  names (one.Insertion (CursorInsert p)) = p ∷ []
  names (one.Enter key p) = p ∷ []
  names _ = []

-- `gap` is directly before the member that a removal at `at` takes. For example, a removal at the back takes the last member
abbrev pub IsFrontOf : Gap → State → Cut → Type 0
IsFrontOf at s gap = gaps.IsFrontOf at s.members s.cursor gap

-- the member that a removal or a replacement at the gap takes: the first, the last, the one that the cursor is on, or the one after the cursor
abbrev pub member_at : Gap → State → Option Place
member_at Front s = first s.members
member_at Back s = last s.members
member_at Before s = s.cursor
member_at After s = next_of s.members s.cursor

-- the member after p or before p, by the direction, or none if p is at that end of the sequence
abbrev pub beside_of : Neighbor → List Place → Place → Option Place
beside_of Next s p = after_of s p
beside_of Prev s p = before_or None s p

abbrev pub asks_unlinked : State → Place → Option Refusal
asks_unlinked s p = asks (not (is_linked_in s p)) AlreadyLinked None

abbrev pub asks_member : State → Place → Option Refusal → Option Refusal
asks_member s p rest = asks (is_among p s.members) NotAMember rest

abbrev pub refusal_of_seek : Seek → State → Option Refusal
refusal_of_seek (On p) s = asks_member s p None
refusal_of_seek (With way p beside) s = asks_member s p (asks (same_position beside (beside_of way s.members p)) NotANeighbour None)
refusal_of_seek _ s = None

-- THE FIRST REFUSAL of a call whose collection and objects exist. `refusal_of` first tests whether the collection's kind has the call, and
-- `own_refusal` makes only the tests after this one
module _ {K : Type 0} where
  abbrev pub own_refusal : Call K → State → Option Refusal
  own_refusal (one.Put at p) s = asks_unlinked s p
  own_refusal (one.Swap at p) s = asks (is_some (member_at at s)) NothingThere (asks_unlinked s p)
  own_refusal (one.Seek call) s = refusal_of_seek call s
  own_refusal (one.Insertion (Insert p)) s = asks_unlinked s p
  own_refusal (one.Insertion (CursorInsert p)) s = asks_unlinked s p
  own_refusal _ s = None

  abbrev pub refusal_of : Call K → State → Option Refusal
  refusal_of call s = asks (has_call call s.kind) WrongKind (own_refusal call s)

-- AN ACCEPTED INSERTION at `at` inserts the object p into the gap, and its reply is `done`. The following definitions say what the other accepted
-- calls return and change
abbrev pub PutReplies : Gap → Place → State → Reply → State → Type 0
PutReplies at p s reply t = (reply ≡ done) × AtGap s (λ gap. IsGapAt at s.cursor gap × (t ≡ put s gap p (rests at s.cursor)))

-- A REMOVAL takes the member after the gap and returns it, or returns `nothing` if there is none. A cursor that was on the member goes on to the next
-- member
abbrev pub without : State → Cut → Option Place → Option Place → State
without s gap cursor None = moved s cursor
without s gap cursor (Some p) = taken s gap p cursor

abbrev pub TakeReplies : Gap → State → Reply → State → Type 0
TakeReplies at s reply t = AtGap s (λ gap. IsFrontOf at s gap × (reply ≡ object_or_nothing (first gap.back)) × (t ≡ without s gap (onward at s.cursor gap) (first gap.back)))

-- A REPLACEMENT puts p in the position of the member after the gap, and returns that member. A cursor that was on the member is then on p
abbrev pub SwapReplies : Gap → Place → State → Reply → State → Type 0
SwapReplies at p s reply t = AtGap s (λ gap. IsFrontOf at s gap × (out : Place) × (first gap.back ≡ Some out) × (reply ≡ object out) × (t ≡ swapped s gap p out (onto at s.cursor p)))

-- A MOVE puts the cursor on the next or the previous member, and returns that member. If there is none, the cursor goes to null
abbrev pub MoveReplies : Neighbor → State → Reply → State → Type 0
MoveReplies Next s reply t = AtGap s (λ gap. IsAfter gap s.cursor × (reply ≡ object_or_nothing (first gap.back)) × (t ≡ moved s (first gap.back)))
MoveReplies Prev s reply t = AtGap s (λ gap. IsBefore gap s.cursor × (reply ≡ object_or_nothing (last gap.front)) × (t ≡ moved s (last gap.front)))

-- A SEARCH returns the found member or none, and the number of keys that it compared. It puts the cursor on the member, or to null
abbrev pub SearchReplies : (Option Place → Type 0) → (ℕ → Type 0) → State → Reply → State → Type 0
SearchReplies IsFound WithinBoundFor s (found position looks) t = IsFound position × WithinBoundFor looks × (t ≡ moved s position)
SearchReplies IsFound WithinBoundFor s _ t = ⊥

-- `cmp` is the order of the keys, `key_of` is the key of a value, and `objects` are the values by place
module _ {V K : Type 0} (cmp : K → K → Ordering) (key_of : V → K) (objects : Objects V) where
  -- three functions compare a key with the key of the object at each place. `key_at` compares a given key, `bound_at` the key of a bound, and
  -- `own_at` the key of the object at p
  abbrev pub key_at : K → Place → Ordering
  key_at key = compared (order_of cmp key_of key) objects

  abbrev pub bound_at : Bound K → Bound (Place → Ordering)
  bound_at bound = compared_within (order_of cmp key_of) objects bound

  abbrev pub own_at : Place → Place → Ordering
  own_at p = compared (own_order cmp key_of objects p) objects

  -- AN OBJECT IS INSERTED BY ITS KEY, after members with the same key. The call returns how many keys it compared, and its cursor is then at `cursor`
  abbrev pub InsertionReplies : Place → Option Place → State → Reply → State → Type 0
  InsertionReplies p cursor s (looked looks) t = AtGap s (λ gap. IsBorder (less_at (own_at p)) gap × (t ≡ put s gap p cursor)) × WithinComparisonBound looks s.members
  InsertionReplies p cursor s _ t = ⊥

  -- AN ENTRY is occupied by a member with the key, or vacant. If it is vacant and the object p is unlinked, p is inserted into the gap where the key
  -- belongs. If it is vacant and p is linked, the call is refused
  abbrev pub EntryReplies : K → Place → State → Reply → State → Type 0
  EntryReplies key p s (entry true q looks) t = Finds (key_at key) s.members (Some q) × WithinComparisonBound looks s.members × (t ≡ moved s (Some q))
  EntryReplies key p s (entry false q looks) t =
      (q ≡ p) × (is_linked_in s p ≡ false) × WithinComparisonBound looks s.members × AtGap s (λ gap. IsVacantFor (key_at key) gap × (t ≡ put s gap p (Some p)))
  EntryReplies key p s (refused AlreadyLinked) t = (is_linked_in s p ≡ true) × AtGap s (IsVacantFor (key_at key)) × (t ≡ s)
  EntryReplies key p s _ t = ⊥

  abbrev pub Replies : Call K → State → Reply → State → Type 0
  Replies (one.Put at p) s reply t = PutReplies at p s reply t
  Replies (one.Take at) s reply t = TakeReplies at s reply t
  Replies (one.Swap at p) s reply t = SwapReplies at p s reply t
  Replies (one.Move way) s reply t = MoveReplies way s reply t
  Replies (one.Seek Null) s reply t = (reply ≡ done) × (t ≡ moved s None)
  Replies (one.Seek (On p)) s reply t = (reply ≡ done) × (t ≡ moved s (Some p))
  Replies (one.Seek (With way p beside)) s reply t = (reply ≡ done) × (t ≡ moved s (Some p))
  Replies (one.BulkEdit Clear) s reply t = (reply ≡ done) × (t ≡ cleared s)
  Replies (one.BulkEdit Reverse) s reply t = (reply ≡ done) × (t ≡ having s (reverse s.members) None)
  Replies (one.Search (Find key)) s reply t = SearchReplies (Finds (key_at key) s.members) (λ n. WithinComparisonBound n s.members) s reply t
  Replies (one.Search (LowerBound bound)) s reply t = SearchReplies (IsLowerBorder (bound_at bound) s.members) (λ n. WithinBound bound n s.members) s reply t
  Replies (one.Search (UpperBound bound)) s reply t = SearchReplies (IsUpperBorder (bound_at bound) s.members) (λ n. WithinBound bound n s.members) s reply t
  Replies (one.Insertion (Insert p)) s reply t = InsertionReplies p (Some p) s reply t
  Replies (one.Insertion (CursorInsert p)) s reply t = InsertionReplies p s.cursor s reply t
  Replies (one.Enter key p) s reply t = EntryReplies key p s reply t
