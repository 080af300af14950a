-- These lemmas are about the members that a walk over a hash table has not returned yet, and about one step of the walk.
use Rattle.std.proofs.Common.{◌≡◌, ℕ, suc, true, eq-eqb, cond, Bor, Option, None, Some, IsSome, List, [], ◌∷◌, ◌++◌, drop, refl, sym, ap, ◌∙◌, subst, append_assoc, option_copied}
use Rattle.std.specs.List.{cons_option}
use Rattle.std.specs.Iterator.{MakesProgress, item_count}
use Rattle.ic_link_ops.specs.Prelude.{Place, Objects, object_at, Cut, join, but_last, IsDistinct, IsAfter, IsBefore, Table, IsCovered, ArePlaced, values_at, Successor, list_from, GivesFirst}
use Rattle.ic_link_ops.proofs.Prelude.{all_back, first_placed, absent_right, first_is, last_of_push, nothing_first, nothing_last, yields_placed, makes_progress}
use Rattle.ic_link_ops.proofs.SinglyLists.{members_represented}
use Rattle.ic_hash_table.specs.declared.iter.Iter.{Iter}
use Rattle.ic_hash_table.specs.Prelude.{AreChained, BelongsIn, Holds}
use Rattle.ic_hash_table.specs.Iter.{members_of, after, objects_left, CanWalk}
use Rattle.ic_hash_table.proofs.FoundMembers.{not_place}
use Rattle.ic_hash_table.proofs.NextMembers.{gap_after}

-- the entries lead from the first member of each chain through all members of the sequence s
pub members_are : {E : Type 0} (successor : E → Successor) (t : Table E) → ((q : Place) → (successor (t.entry q)).linked ≡ true → IsCovered t q)
    → (Belongs : ℕ → Place → Type 0) (i : ℕ) (fronts : List (Option Place)) (s : List Place) → AreChained successor Belongs t i fronts s → members_of successor t fronts ≡ s
members_are successor t covered Belongs i [] s h = sym h
members_are successor t covered Belongs i (f ∷ fs) s (chain, rest, is, shown, own, more) =
    ap (λ c. c ++ members_of successor t fs) (members_represented t covered (list_from f) chain shown) ∙ ap (λ r. chain ++ r) (members_are successor t covered Belongs (suc i) fs rest more) ∙ sym is

-- `after` of a member is the sequence of the members after it (`after_member`). If a walk is at the gap `gap`, the members after the gap are left (`after_gap`)
pub after_member : (front back : List Place) (p : Place) → IsDistinct (front ++ p ∷ back) → after (Some p) (front ++ p ∷ back) ≡ back
after_member [] back p d = ap (λ b. cond b back (after (Some p) back)) (eq-eqb p.word p.word refl)
after_member (x ∷ front) back p d =
    ap (λ b. cond b (front ++ p ∷ back) (after (Some p) (front ++ p ∷ back))) (not_place p x (λ e. (absent_right x front (p ∷ back) d.0).0 (sym e))) ∙ after_member front back p d.1

after_gap : (gap : Cut) (at : Option Place) → IsDistinct (join gap) → IsAfter gap at → after at (join gap) ≡ gap.back
after_gap gap None d is_after = ap (λ l. l ++ gap.back) (nothing_last gap.front is_after)
after_gap gap (Some p) d is_after =
    let is = gap_after gap p is_after in
    ap (after (Some p)) is ∙ after_member (but_last gap.front) gap.back p (subst IsDistinct is d)

-- each member after the gap of the walk has an object
pub back_placed : {A B L O V K E : Type 0} (successor : E → Successor) (table : L → Table E) (hash : A → V → ℕ) (fronts : B → List (Option Place)) (values : O → Objects V)
    (t : Iter A B L O V K) (can : CanWalk successor table hash fronts values t) → ArePlaced (values t.objects.now) can.0.back
back_placed successor table hash fronts values t can = all_back (λ p. IsSome (object_at (values t.objects.now) p)) can.0.front can.0.back can.1.placed

-- `law` says that only covered places are linked. The walk t is at the gap `can.0`
module _ {A B L O V K E : Type 0} (successor : E → Successor) (table : L → Table E) (hash : A → V → ℕ) (fronts : B → List (Option Place)) (values : O → Objects V)
    (law : (t : L) (q : Place) → (successor ((table t).entry q)).linked ≡ true → IsCovered (table t) q) where
  -- the objects that are left are those at the members after the gap
  pub left_is : (t : Iter A B L O V K) (can : CanWalk successor table hash fronts values t) → objects_left successor table fronts values t ≡ values_at (values t.objects.now) can.0.back
  left_is t can =
      let own = BelongsIn t.table.now.slots (hash t.table.now.adapter) (values t.objects.now) in
      ap (λ s. values_at (values t.objects.now) (after t.at s)) (members_are successor (table t.links.now) (law t.links.now) own 0 (fronts t.table.now.buckets) (join can.0) can.1.chained)
      ∙ ap (values_at (values t.objects.now)) (after_gap can.0 t.at can.1.distinct can.2)

  -- if no member comes after the gap, no object is left
  pub none_left : (t : Iter A B L O V K) (can : CanWalk successor table hash fronts values t) → IsBefore can.0 None → objects_left successor table fronts values t ≡ []
  none_left t can at = left_is t can ∙ ap (values_at (values t.objects.now)) (nothing_first can.0.back at)

  module _ (t : Iter A B L O V K) (p : Place) (can : CanWalk successor table hash fronts values t) (is : IsBefore can.0 (Some p)) where
    -- after a step to the member p, the walk can go on
    walks_on : CanWalk successor table hash fronts values (record t { at = Some p })
    walks_on = (
      record { front = can.0.front ++ p ∷ []; back = drop 1 can.0.back },
      subst (Holds successor hash fronts (table t.links.now) t.table.now (values t.objects.now)) (sym same) can.1,
      sym (last_of_push can.0.front p),
    ) where
      same : (can.0.front ++ p ∷ []) ++ drop 1 can.0.back ≡ join can.0
      same = append_assoc can.0.front (p ∷ []) (drop 1 can.0.back) ∙ ap (λ l. can.0.front ++ l) (sym (first_is can.0.back is))

    -- a step returns the object at the member p, which was the first object that was left
    pub gives : (r : Option (Bor V)) → option_copied r ≡ object_at (values t.objects.now) p
        → GivesFirst (objects_left successor table fronts values) t r (record t { at = Some p })
    unfolding walks_on
    gives r there =
        yields_placed (objects_left successor table fronts values) t (record t { at = Some p }) r (object_at (values t.objects.now) p)
        (first_placed (values t.objects.now) can.0.back (back_placed successor table hash fronts values t can) is) there
        (left_is t can ∙ ap (values_at (values t.objects.now)) (first_is can.0.back is) ∙ ap (cons_option (object_at (values t.objects.now) p)) (sym (left_is (record t { at = Some p }) walks_on)))

    -- after a step one object less is left
    pub goes : (r : Option (Bor V)) → option_copied r ≡ object_at (values t.objects.now) p
        → MakesProgress (CanWalk successor table hash fronts values) (item_count (objects_left successor table fronts values)) t r (record t { at = Some p })
    goes r there = makes_progress (objects_left successor table fronts values) (CanWalk successor table hash fronts values) t (record t { at = Some p }) r walks_on (gives r there)
