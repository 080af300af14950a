-- Laws for callers: in a sorted sequence, calls that search by keys return the members that filters of the sequence keep, whatever the bounds are.
use Rattle.std.proofs.Common.{◌≡◌, Bool, true, false, not, cond, ◌&&◌, Option, Some, None, List, [], ◌∷◌, ◌++◌, map, refl, sym, ap, ◌∙◌, append-nil, true≢false, Ordering, Less, Equal, Greater, is_eq, is_lt, is_le}
use Rattle.std.specs.Cmp.{IsTotalOrder}
use Rattle.std.specs.List.{AllByRecursion, filter}
use Rattle.ic_link_ops.specs.Prelude.{Place, Objects, object_at, Cut, join, insert, first, last, IsDistinct, ArePlaced, values_at}
use Rattle.ic_link_ops.proofs.Each.{all_map}
use Rattle.ic_rbtree.specs.declared.keys.key_adapter.Bound.{Bound}
use Rattle.ic_rbtree.specs.declared.keys.key_adapter.Bound.TheVariants.{Included, Excluded, Unbounded}
use Rattle.ic_rbtree.specs.Prelude.{IsBorder, IsLowerBorder, IsUpperBorder, Finds, IsSorted, IsSortedFor, equal_at, at_most_at, less_at, if_passes, answer_at, compared, compared_within, order_of, meets_lower, meets_upper, is_beyond, runs_up, IsRange}
use Rattle.ic_rbtree.proofs.KeyLaws.{Cuts, one_border, filter_pass, filter_fail, filter_front, lower_is, upper_is, cuts_at_most, cuts_less, found_is, sorted_for}
use Rattle.ic_rbtree.proofs.RangeLaws.{range_is}
use Rattle.ic_rbtree.proofs.Ranges.{Rises, le_fails, lt_fails}
use Rattle.ic_rbtree.proofs.Sending.{not_ge, not_gt}

-- if two tests agree at all places, and one of them cuts a sequence, the other cuts it too
same_cuts : {f g : Place → Bool} {s : List Place} → ((p : Place) → f p ≡ g p) → Cuts f s → Cuts g s
same_cuts same k = record {
  front = k.front;
  back = k.back;
  same = k.same;
  fail = all_map (λ p h. sym (same p) ∙ h) k.front k.fail;
  pass = all_map (λ p h. sym (same p) ∙ h) k.back k.pass;
}

-- a fixed result b equals itself for each member of a list
all_same : {X : Type 0} (b : Bool) (s : List X) → AllByRecursion (λ p. b ≡ b) s
all_same b [] = tt
all_same b (p ∷ s) = (refl, all_same b s)

-- THE GAP OF AN INSERT IN ORDER is after all members that are not greater than the searched key. Therefore members with equal keys are in the order of
-- their insertion
pub put_after : {at : Place → Ordering} {s : List Place} → IsSortedFor at s → (gap : Cut) → join gap ≡ s → IsBorder (less_at at) gap → (p : Place)
    → insert gap p ≡ filter (λ q. not (less_at at q)) s ++ p ∷ filter (less_at at) s
put_after {at} {s} sorted gap same border p =
    let k = cuts_less sorted in
    let r = one_border (less_at at) k.front k.back gap.front gap.back (k.same ∙ sym same) k.fail k.pass border.fails border.passes in
    let front : gap.front ≡ filter (λ q. not (less_at at q)) s =
    r.0 ∙ sym (ap (filter (λ q. not (less_at at q))) (sym k.same) ∙ filter_front (λ q. not (less_at at q)) k.front k.back (all_map (λ q h. ap not h) k.front k.fail) (all_map (λ q h. ap not h) k.back k.pass)) in
    let back : gap.back ≡ filter (less_at at) s = r.1 ∙ sym (ap (filter (less_at at)) (sym k.same) ∙ filter_fail (less_at at) k.front k.back k.fail ∙ filter_pass (less_at at) k.back k.pass) in
    ap (λ t. t ++ p ∷ gap.back) front ∙ ap (λ t. filter (λ q. not (less_at at q)) s ++ p ∷ t) back

not_equal : (o : Ordering) → is_lt o ≡ true → is_eq o ≡ false
not_equal Less h = refl
not_equal Equal h = cc
not_equal Greater h = cc

-- IF THE GAP FOR THE SEARCHED KEY is between smaller and greater members, a search for the key finds none
pub vacant_finds : {at : Place → Ordering} {s : List Place} (gap : Cut) → join gap ≡ s → IsBorder (at_most_at at) gap → IsBorder (less_at at) gap → Finds at s None
vacant_finds {at} gap same smaller larger = record { gap = gap; same = same; border = smaller; answer = nobody (first gap.back) refl }
  where
    nobody : (o : Option Place) → first gap.back ≡ o → None ≡ if_passes (equal_at at) o
    nobody None e = refl
    nobody (Some p) e = sym (ap (λ b. cond b (Some p) None) (not_equal _ (larger.passes p e)))

module _ {A V K : Type 0} {cmp : K → K → Ordering} (total : IsTotalOrder cmp) (key_of : A → V → K) (adapter : A) (objects : Objects V) where
  abbrev compared_bound : Bound K → Bound (Place → Ordering)
  compared_bound bound = compared_within (order_of cmp (key_of adapter)) objects bound

  -- a member that doesn't meet a lower bound has a smaller key than a member that does. `seen` turns a comparison with a place into one with the key of its
  -- object
  seen : (key : K) (f : Ordering → Bool) (x : Place) {u : V} {b : Bool} → object_at objects x ≡ Some u → f (compared (order_of cmp (key_of adapter) key) objects x) ≡ b
      → f (cmp key (key_of adapter u)) ≡ b
  seen key f x is h = sym (ap (λ o. f (answer_at (order_of cmp (key_of adapter) key) o)) is) ∙ h

  rises : (bound : Bound K) → Rises total key_of adapter objects (meets_lower (compared_bound bound))
  rises (Included key) = record { less = λ x y u v ex ey h g. le_fails total key (key_of adapter u) (key_of adapter v) _ _ refl refl (seen key is_le x ex h) (seen key is_le y ey g) }
  rises (Excluded key) = record { less = λ x y u v ex ey h g. lt_fails total key (key_of adapter u) (key_of adapter v) _ _ refl refl (seen key is_lt x ex h) (seen key is_lt y ey g) }
  rises Unbounded = record { less = λ x y u v ex ey h g. absurd (true≢false h) }

  module _ {s : List Place} (placed : ArePlaced objects s) (sorted : IsSorted cmp (map (key_of adapter) (values_at objects s))) where
    -- a sequence that is sorted by its members' keys is sorted for each searched key
    pub for_key : (key : K) → IsSortedFor (compared (order_of cmp (key_of adapter) key) objects) s
    for_key key = sorted_for total (key_of adapter) objects key s placed sorted

    -- THE SEARCH FINDS the first member that is equal to the searched key
    pub found_first : (key : K) {o : Option Place} → Finds (compared (order_of cmp (key_of adapter) key) objects) s o
        → o ≡ first (filter (equal_at (compared (order_of cmp (key_of adapter) key) objects)) s)
    found_first key finds = found_is (for_key key) finds

    -- the members that meet a lower bound are all members after some gap of the sequence
    lower_cuts : (bound : Bound K) → Cuts (meets_lower (compared_bound bound)) s
    lower_cuts (Included key) = cuts_at_most (for_key key)
    lower_cuts (Excluded key) = cuts_less (for_key key)
    lower_cuts Unbounded = record { front = []; back = s; same = refl; fail = tt; pass = all_same true s }

    upper_cuts : (bound : Bound K) → Cuts (is_beyond (compared_bound bound)) s
    upper_cuts (Included key) = same_cuts (λ p. not_ge (compared (order_of cmp (key_of adapter) key) objects p)) (cuts_less (for_key key))
    upper_cuts (Excluded key) = same_cuts (λ p. not_gt (compared (order_of cmp (key_of adapter) key) objects p)) (cuts_at_most (for_key key))
    upper_cuts Unbounded = record { front = s; back = []; same = append-nil s; fail = all_same false s; pass = tt }

    -- A LOWER BORDER is the first member that meets the lower bound, and an upper border is the last member that meets the upper bound
    pub lower_first : (bound : Bound K) {o : Option Place} → IsLowerBorder (compared_bound bound) s o → o ≡ first (filter (meets_lower (compared_bound bound)) s)
    lower_first bound border = lower_is (lower_cuts bound) border

    pub upper_last : (bound : Bound K) {o : Option Place} → IsUpperBorder (compared_bound bound) s o → o ≡ last (filter (meets_upper (compared_bound bound)) s)
    upper_last bound border = upper_is (upper_cuts bound) border

    -- A RANGE consists of the members of the sequence that meet both bounds
    pub range_filter : (min max : Bound K) {w : List Place} → IsDistinct s → IsRange (compared_bound min) (compared_bound max) (runs_up cmp (key_of adapter) objects) s w
        → w ≡ filter (λ p. meets_lower (compared_bound min) p && meets_upper (compared_bound max) p) s
    range_filter min max distinct range = range_is total key_of adapter objects (rises min) (lower_cuts min) (upper_cuts max) distinct placed sorted range
