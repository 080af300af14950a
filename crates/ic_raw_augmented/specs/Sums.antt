-- The combined values of a tree's members, and the sums that a caller keeps beside the table.
use Rattle.std.specs.Prelude.{◌≡◌, ◌+◌, ◌-◌, ◌^◌, ◌<◌, ◌||◌, ℕ, suc, Bool, true, false, cond, nat_eq, nat_lt, min, max, Option, Some, None, List, [], ◌∷◌, length, slice_index_or}
use Rattle.ic_link_ops.specs.Prelude.{Place, index_of, IsMember, Table, is_end, Tree, leaf, fork, top}
use Rattle.ic_link_ops.specs.Frames.{Frame}
use Rattle.ic_rbtree.specs.Closed.{IsClosed}
use Rattle.ic_raw_augmented.specs.Subtrees.{IsSubtree}
use Rattle.ic_raw.specs.declared.status.TheConstants.{OK, OUT_OF_RANGE}
use Rattle.ic_raw.specs.declared.words.RawThree.{RawThree}
use Rattle.ic_raw.specs.Seen.{seen, seen_node}
use Rattle.ic_raw_augmented.specs.declared.sums.Kind.{Kind}
use Rattle.ic_raw_augmented.specs.declared.sums.Kind.TheVariants.{Sum, Greatest}
use Rattle.ic_raw_augmented.specs.declared.sums.RawSum.{RawSum}

-- the kind of sums that a number means: 0 means that values are added, and any other number means that the greatest value counts
abbrev pub kind_of : ℕ → Kind
kind_of number = cond (nat_eq number 0) Sum Greatest

-- two numbers combined: for the kind `Sum` their sum, but at most the greatest number of a 64-bit word, and for the kind `Greatest` the greater number
abbrev pub combined : Kind → ℕ → ℕ → ℕ
combined Sum a b = min (a + b) (2 ^ 64 - 1)
combined Greatest a b = max a b

-- the values of all places in s combined, or 0 if s is empty
abbrev pub total : Kind → (value : Place → ℕ) → List Place → ℕ
total kind value [] = 0
total kind value (p ∷ s) = combined kind (value p) (total kind value s)

-- the value and the sum that `sums` has for the place p. Both are 0 if `sums` has no entry for p
abbrev pub kept_at : List RawSum → Place → RawSum
kept_at sums p = slice_index_or sums (index_of p) (record { value = 0; sum = 0 })

abbrev pub value_at : List RawSum → Place → ℕ
value_at sums p = (kept_at sums p).value

abbrev pub sum_at : List RawSum → Place → ℕ
sum_at sums p = (kept_at sums p).sum

-- the sum at the root of a subtree, or 0 if the subtree is empty
abbrev pub sum_below : List RawSum → Option Place → ℕ
sum_below sums None = 0
sum_below sums (Some p) = sum_at sums p

-- the value of p combined with the sums of the two children that the words of p name. A child outside of the table does not count
abbrev pub joined_at : Kind → Table RawThree → List RawSum → Place → ℕ
joined_at kind t sums p =
    combined kind (sum_below sums (seen_node ((seen t).entry p)).left)
    (combined kind (value_at sums p) (sum_below sums (seen_node ((seen t).entry p)).right))

-- the sum at p is right: it is the value of p combined with the sums of the two children of p
abbrev pub IsRightAt : Kind → Table RawThree → List RawSum → Place → Type 0
IsRightAt kind t sums p = sum_at sums p ≡ joined_at kind t sums p

-- the sums are right at each member of s
abbrev pub IsSummed : Kind → Table RawThree → List RawSum → List Place → Type 0
IsSummed kind t sums s = (q : Place) → IsMember q s → IsRightAt kind t sums q

-- the sums are right at each member of s, except perhaps at places for which `but` is true
abbrev pub IsSummedBut : Kind → Table RawThree → List RawSum → List Place → (but : Place → Bool) → Type 0
IsSummedBut kind t sums s but = (q : Place) → IsMember q s → but q ≡ false → IsRightAt kind t sums q

-- whether the place q is the given place. If no place is given, the result is true for every q
abbrev pub is_there : Option Place → Place → Bool
is_there None q = true
is_there (Some p) q = is_end (Some p) q

-- only sums may have changed: `new` has as many entries as `old`, and each place has the same value in `new` as in `old`
pub record KeepsValues (old new : List RawSum) : Type 0 where
  pub count : length new ≡ length old
  pub values : (q : Place) → value_at new q ≡ value_at old q

-- a place may get another sum only if links lead from p to this place: if a set S contains p and no link leads out of S, each place outside of S keeps its sum
abbrev pub StaysBeside : Table RawThree → List RawSum → List RawSum → Place → Type 0
StaysBeside t old new p = (S : Place → Bool) → IsClosed seen_node (seen t) None S → S p ≡ true → (q : Place) → S q ≡ false → sum_at new q ≡ sum_at old q

-- the fault of the sums as a status: `OUT_OF_RANGE` if there are fewer sums than places, and otherwise `OK`
abbrev pub sums_fault : (sums : List RawSum) → (places : ℕ) → ℕ
sums_fault sums places = cond (nat_lt (length sums) places) OUT_OF_RANGE OK

-- the sums are right at each member of a tree
abbrev pub IsSummedTree : Kind → Table RawThree → List RawSum → Tree → Type 0
IsSummedTree kind t sums leaf = Unit {0}
IsSummedTree kind t sums (fork c a p b) = IsRightAt kind t sums p × IsSummedTree kind t sums a × IsSummedTree kind t sums b

-- in each tree of the table with the member p, fewer than `turns` members are above p
abbrev pub IsNear : Table RawThree → (turns : ℕ) → Place → Type 0
IsNear t turns p = (fs : List Frame) (u : Tree) → IsSubtree seen_node (seen t) fs u → top u ≡ Some p → length fs < turns

-- whether the words of the place `above` name p as its left or its right child
abbrev pub is_child_of : Table RawThree → (above p : Place) → Bool
is_child_of t above p = is_end (seen_node ((seen t).entry above)).left p || is_end (seen_node ((seen t).entry above)).right p

-- whether the index of the place q is at least i
abbrev pub is_from : ℕ → Place → Bool
is_from i q = nat_lt i (suc (index_of q))

-- the root of the subtree whose members come right after `at`: the right child that the words of `at` name, or the root of the whole tree if `at` is none
abbrev pub next_end : Table RawThree → (root at : Option Place) → Option Place
next_end t root None = root
next_end t root (Some p) = (seen_node ((seen t).entry p)).right
