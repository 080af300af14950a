-- A call can search a tree by keys, which are in an array with one key for each place.
use Rattle.std.specs.Prelude.{◌≡◌, ℕ, Bool, true, false, Option, Some, None, List, [], ◌∷◌, length, cond, nat_lt, slice_index}
use Rattle.std.specs.Ordering.{nat_cmp, is_eq, is_le, is_ge}
use Rattle.std.specs.declared.cmp.Ordering.{Ordering}
use Rattle.ic_link_ops.specs.Prelude.{Place, index_of, at_indexes, Cut, first, last, Table, IsLinked}
use Rattle.ic_link_ops.specs.Frames.{child_on}
use Rattle.ic_link_ops.specs.declared.side.Side.{Side}
use Rattle.ic_link_ops.specs.declared.side.Side.TheVariants.{Left, Right}
use Rattle.ic_rbtree.specs.Prelude.{Finds, IsLowerBorder, IsUpperBorder, compared, goes_left, side_of, IsInsertPos}
use Rattle.ic_rbtree.specs.Ordered as ordered
use Rattle.ic_rbtree.specs.declared.keys.key_adapter.Bound.TheVariants.{Included}
use Rattle.ic_raw.specs.declared.status.TheConstants.{OK, OUT_OF_RANGE}
use Rattle.ic_raw.specs.declared.words.RawThree.{RawThree}
use Rattle.ic_raw.specs.declared.words.RawRoot.{RawRoot}
use Rattle.ic_raw.specs.declared.search.InsertPos.{InsertPos}
use Rattle.ic_raw.specs.declared.search.Target.{Target}
use Rattle.ic_raw.specs.declared.search.Target.TheVariants.{Equal, AtLeast, AtMost}
use Rattle.ic_raw.specs.Answers.{IsAccepted}
use Rattle.ic_raw.specs.declared.nodes.Seen.{Seen}
use Rattle.ic_raw.specs.Seen.{seen, seen_node}
use Rattle.ic_raw.specs.Words.{HasNumber, is_linked_three}
use Rattle.ic_raw.specs.Tree.{Represents, RepresentsTree, FreeIn, root_in, table_of}

-- `against key keys p` is the result of the comparison of `key` with the key of the place p: `Less` if `key` is less
abbrev pub against : ℕ → List ℕ → Place → Ordering
against key keys = compared (nat_cmp key) (at_indexes keys)

-- THE FAULT OF KEYS: the fault is `OUT_OF_RANGE` if there are fewer keys than places, or else `OK`
abbrev pub keys_fault : (keys : List ℕ) → (places : ℕ) → ℕ
keys_fault keys places = cond (nat_lt (length keys) places) OUT_OF_RANGE OK

-- `key_of keys p` is the key at the index of the place p
abbrev pub key_of : List ℕ → Place → ℕ
key_of keys p = slice_index keys (index_of p)

-- THE WAY OF A SEARCH is the `InsertPos` to which the search has come. `at_root` is the way at the start, which has passed no member. `past way p
-- left` is the way that has also passed the member p, on the left side of p if `left` is true, and else on its right side
abbrev pub at_root : InsertPos
at_root = record { parent = None; side = Left; front = None; back = None }

abbrev pub past : InsertPos → Place → Bool → InsertPos
past way p true = record { parent = Some p; side = Left; front = way.front; back = Some p }
past way p false = record { parent = Some p; side = Right; front = Some p; back = way.back }

-- THE WAY DOWN ENDS in the gap `gap`: the last place on the way has no child on the side to which the search goes, as an edit reads the words
pub record EndsIn (t : Table RawThree) (gap : Cut) (way : InsertPos) : Type 0 where
  pub insert_pos : IsInsertPos seen_node (seen t) way.parent way.side gap
  pub front_is : way.front ≡ last gap.front
  pub back_is : way.back ≡ first gap.back

-- THE SEARCH HAS GONE to the right at the member before the gap, and to the left at the member after the gap. `left` says at which places it should
-- go to the left
pub record HasTurned (left : Place → Bool) (way : InsertPos) : Type 0 where
  pub front : (q : Place) → way.front ≡ Some q → left q ≡ false
  pub back : (q : Place) → way.back ≡ Some q → left q ≡ true

-- a search leads from the place `from` down to `to`, past the places of the list. At a place for which `left` is true it goes to the left child, and
-- otherwise to the right child. `to` is none if this child is missing
abbrev pub LeadsDown : Table Seen → (Place → Bool) → Option Place → List Place → Option Place → Type 0
LeadsDown t left from [] to = from ≡ to
LeadsDown t left from (x ∷ w) to = (from ≡ Some x) × LeadsDown t left (child_on (side_of (left x)) (seen_node (t.entry x))) w to

-- THE WAY DOWN ENDS: the search that begins at `from` comes to a place without a child on the side to which the search goes
abbrev pub EndsBelow : Table Seen → (Place → Bool) → Option Place → Type 0
EndsBelow t left from = (w : List Place) × LeadsDown t left from w None

-- `equals_of target` is the side to which a search goes at a member with the searched key. A search for `AtMost`, which finds the last such member,
-- goes to the right, and the other searches go to the left
abbrev pub equals_of : Target → Side
equals_of Equal = Left
equals_of AtLeast = Left
equals_of AtMost = Right

-- A SEARCH ENDS: the search for `key` from the root comes to a place without a child on the side to which it goes, as an edit reads the words
abbrev pub SearchEnds : Target → List ℕ → ℕ → Table RawThree → Option Place → Type 0
SearchEnds target keys key t root = EndsBelow (seen t) (λ p. goes_left (equals_of target) (against key keys p)) root

-- THE MEMBER THAT A TARGET MEANS: it is the first member with this key for `Equal`, the first with at least this key for `AtLeast`, and the last with
-- at most this key for `AtMost`
abbrev pub IsTarget : Target → (Place → Ordering) → List Place → Option Place → Type 0
IsTarget Equal at s position = Finds at s position
IsTarget AtLeast at s position = IsLowerBorder (Included at) s position
IsTarget AtMost at s position = IsUpperBorder (Included at) s position

-- A MEMBER MEETS THE TARGET if its key is equal to the searched key for `Equal`, at least the searched key for `AtLeast`, and at most the searched
-- key for `AtMost`
abbrev pub Meets : Target → Ordering → Type 0
Meets Equal order = is_eq order ≡ true
Meets AtLeast order = is_le order ≡ true
Meets AtMost order = is_ge order ≡ true

-- `number` is the number of a linked place whose key meets the target
abbrev pub NamesTarget : Target → List ℕ → ℕ → Table RawThree → ℕ → Type 0
NamesTarget target keys key t number = (q : Place) × IsLinked is_linked_three t q × HasNumber q number × Meets target (against key keys q)

-- if the table represents s as the tree and p is free, the call inserts p after all members whose key is not greater than the key of p
abbrev pub InsertedInOrder : (keys : List ℕ) (old new : List RawThree) (tree tree' : RawRoot) (status : ℕ) → List Place → Place → Type 0
InsertedInOrder keys old new tree tree' status s p =
    RepresentsTree old tree s → FreeIn old p
    → IsAccepted status (ordered.InsertsInOrder Represents (against (key_of keys p) keys) (table_of old) (table_of new) (root_in tree') s p)
