-- How a probe compares with members, and how many comparisons it has made.
use Rattle.std.specs.Prelude.{◌≡◌, ℕ, ◌+◌, ◌^◌, ◌≤◌, Bool, true, not, Option, None, Some, List, length}
use Rattle.std.specs.declared.cmp.Ordering.{Ordering}
use Rattle.std.specs.declared.cmp.Ordering.TheVariants.{Less}
use Rattle.std.specs.Ordering.{is_lt, is_le, is_gt, is_ge}
use Rattle.std.specs.Borrow.{Bor}
use Rattle.ic_link_ops.specs.Prelude.{Place, Objects, object_at}
use Rattle.ic_link_ops.specs.declared.side.Side.{Side}
use Rattle.ic_link_ops.specs.declared.side.Side.TheVariants.{Left, Right}
use Rattle.ic_rbtree.specs.declared.keys.key_adapter.Bound.{Bound}
use Rattle.ic_rbtree.specs.declared.keys.key_adapter.Bound.TheVariants.{Included, Excluded, Unbounded}

-- how the probe compares with an object, `Less` if there is no object
abbrev pub answer_at : {V : Type 0} → (V → Ordering) → Option V → Ordering
answer_at order None = Less
answer_at order (Some value) = order value

-- HOW THE SEARCHED KEY COMPARES with the object at a place: the result is `Less` if the key is less, or if there is no object
abbrev pub compared : {V : Type 0} → (V → Ordering) → Objects V → Place → Ordering
compared order objects p = answer_at order (object_at objects p)

-- how the key `key` compares with the key of each value
abbrev pub order_of : {V K : Type 0} → (K → K → Ordering) → (V → K) → K → V → Ordering
order_of cmp key_of key value = cmp key (key_of value)

-- how the key to which a reference points compares with the key of each value
abbrev pub order_there : {V K : Type 0} → (K → K → Ordering) → (V → K) → Bor K → V → Ordering
order_there cmp key_of key = order_of cmp key_of key.now

-- how the key of the object at the place `object` compares with the key of each value
abbrev pub own_order : {V K : Type 0} → (K → K → Ordering) → (V → K) → Objects V → Place → V → Ordering
own_order cmp key_of objects object value = answer_at (λ own. cmp (key_of own) (key_of value)) (object_at objects object)

-- how the key of the object at the place `object` compares with the object at each place
abbrev pub own_compared : {V K : Type 0} → (K → K → Ordering) → (V → K) → Objects V → Place → Place → Ordering
own_compared cmp key_of objects object = compared (own_order cmp key_of objects object) objects

-- the bound with the function f applied to its end. `Unbounded` has no end, so it stays `Unbounded`
abbrev pub bound_map : {T U : Type 0} → (T → U) → Bound T → Bound U
bound_map f (Included x) = Included (f x)
bound_map f (Excluded x) = Excluded (f x)
bound_map f Unbounded = Unbounded

-- a bound whose end says how the probe in the given bound compares with the object at each place
abbrev pub compared_within : {P V : Type 0} → (P → V → Ordering) → Objects V → Bound P → Bound (Place → Ordering)
compared_within order objects bound = bound_map (λ probe. compared (order probe) objects) bound

-- whether a member meets a lower bound: the end of the bound is less than the member, or equal to it if the end is included. `at` says how the end compares
-- with each member. Every member meets `Unbounded`
abbrev pub meets_lower : Bound (Place → Ordering) → Place → Bool
meets_lower (Included at) p = is_le (at p)
meets_lower (Excluded at) p = is_lt (at p)
meets_lower Unbounded p = true

-- whether a member meets an upper bound: the end of the bound is greater than the member, or equal to it if the end is included. Every member meets
-- `Unbounded`
abbrev pub meets_upper : Bound (Place → Ordering) → Place → Bool
meets_upper (Included at) p = is_ge (at p)
meets_upper (Excluded at) p = is_gt (at p)
meets_upper Unbounded p = true

-- whether a member is beyond an upper bound: it doesn't meet the bound
abbrev pub is_beyond : Bound (Place → Ordering) → Place → Bool
is_beyond bound p = not (meets_upper bound p)

-- whether a descent goes left at a member if the searched key compares with the member as o. At an equal member the descent goes to the given side
abbrev pub goes_left : Side → Ordering → Bool
goes_left Left o = is_le o
goes_left Right o = is_lt o

-- the greatest number of comparisons that a descent makes. A path of v members in a tree of n members has 2 ^ v <= (n + 1) ^ 2, and there are fewer than 2
-- ^ 33 places
abbrev pub most_looks : ℕ
most_looks = 66

-- a probe that has made `count` comparisons can count the comparisons of one more descent without an overflow
abbrev pub HasRoom : ℕ → Type 0
HasRoom count = count + most_looks ≤ 18446744073709551615

-- AS FEW COMPARISONS as a descent makes: the number `looks` is within the bound of a descent in a tree with the members s. It is at least one if there is a
-- member
pub record WithinComparisonBound (looks : ℕ) (s : List Place) : Type 0 where
  pub few : 2 ^ looks ≤ (length s + 1) ^ 2
  pub some : 1 ≤ length s → 1 ≤ looks

module _ {P V : Type 0} (order : P → V → Ordering) (count : P → ℕ) where
  -- THE COMPARISONS OF ONE DESCENT: between its states `old` and `new`, the probe has made the comparisons of one descent in a tree with the members s. If
  -- there is a member, even one comparison more would be within the bound. The probe compares as it did before the descent
  pub record Looks (old new : P) (s : List Place) : Type 0 where
    pub looks : ℕ
    pub counted : count new ≡ count old + looks
    pub few : WithinComparisonBound looks s
    pub fewer : 1 ≤ length s → 2 ^ (looks + 1) ≤ (length s + 1) ^ 2
    pub order_is : order new ≡ order old

  -- the probe in a bound has made the comparisons of one descent, as `Looks` states. `Unbounded` has no probe, so no comparison is made
  abbrev pub LooksWithin : Bound P → Bound P → List Place → Type 0
  LooksWithin (Included old) (Included new) s = Looks old new s
  LooksWithin (Excluded old) (Excluded new) s = Looks old new s
  LooksWithin Unbounded Unbounded s = Unit {0}
  LooksWithin _ _ s = ⊥

-- the probe in a bound, if there is one, can count the comparisons of one more descent without an overflow
abbrev pub HasRoomWithin : {P : Type 0} → (P → ℕ) → Bound P → Type 0
HasRoomWithin count (Included probe) = HasRoom (count probe)
HasRoomWithin count (Excluded probe) = HasRoom (count probe)
HasRoomWithin count Unbounded = Unit {0}
