-- EACH STEP KEEPS THE ORDER OF INSERTION in a collection for which it is orderly.
use Rattle.std.proofs.Common.{◌≡◌, ◌≢◌, ◌⊎◌, inl, inr, ℕ, Bool, true, false, not, cond, nat_eq, List, [], ◌∷◌, ◌++◌, ◌<◌, length, drop, get_or, set, ltb-true, Option, Some, None, refl, sym, ap, ◌∙◌, subst, true≢false, eq-eqb, ne_eqb, nat_cmp, is_eq, is_lt, Ordering, Less, Equal, Greater}
use Rattle.std.proofs.lemmas.Bool.{cases_eq, and_parts}
use Rattle.std.proofs.lemmas.List.{get_or-set_same, get_or-set_other, get_or_append_left, get_or_push, length-set}
use Rattle.std.proofs.lemmas.List.Folds.{list_any_at}
use Rattle.std.specs.Cmp.{IsTotalOrder, nat_cmp_total, unsigned_tied}
use Rattle.std.specs.List.{list_all}
use Rattle.std.specs.FinSet as set_of
use Rattle.std.specs.FinMap as map_of
use Rattle.std.specs.FinMap.{get-insert, get-remove}
use Rattle.ic_link_ops.specs.Prelude.{Place, index_of, Objects, object_at, Cut, first, IsAbsent, IsDistinct, IsAfter, IsBefore, ArePlaced}
use Rattle.ic_link_ops.proofs.Prelude.{same_index, same_or_not, some_same, first_is, all_members, vacant_absent}
use Rattle.ic_any_collection.specs.declared.kind.Kind.{Kind}
use Rattle.ic_any_collection.specs.declared.kind.Kind.TheVariants.{Singly}
use Rattle.ic_any_collection.specs.AnyCollection.{is_list, is_two_way_list}
use Rattle.ic_rbtree.specs.Prelude.{IsBorder, less_at, answer_at, compared, order_of}
use Rattle.ic_rbtree.proofs.KeyLaws.{value_there}
use Rattle.ic_rbtree.proofs.SortedValues.{own_order_is}
use Rattle.ic_world.specs.declared.call.Refusal.{Refusal}
use Rattle.ic_world.specs.declared.call.Refusal.TheVariants.{AlreadyLinked, NoSuchObject, StillLinked, TooManyObjects, OutOfMemory}
use Rattle.ic_world.specs.declared.call.Command.{Command}
use Rattle.ic_world.specs.declared.call.Command.TheVariants as call
use Rattle.ic_world.specs.declared.calls.collection_call.Call.{Call}
use Rattle.ic_world.specs.declared.calls.collection_call.Call.TheVariants as one
use Rattle.ic_any_collection.specs.declared.gap.Gap.{Gap}
use Rattle.ic_world.specs.declared.calls.collection_call.Neighbor.{Neighbor}
use Rattle.ic_world.specs.declared.calls.collection_call.Neighbor.TheVariants.{Next, Prev}
use Rattle.ic_world.specs.declared.calls.seek.Seek.{Seek}
use Rattle.ic_world.specs.declared.calls.seek.Seek.TheVariants.{Null, On, With}
use Rattle.ic_world.specs.declared.calls.bulk_edit.BulkEdit.TheVariants.{Clear, Reverse}
use Rattle.ic_world.specs.declared.calls.search.Search.{Search}
use Rattle.ic_world.specs.declared.calls.search.Search.TheVariants.{Find, LowerBound, UpperBound}
use Rattle.ic_world.specs.declared.calls.insertion.Insertion.TheVariants.{Insert, CursorInsert}
use Rattle.ic_world.specs.declared.taken_part.TakenPart.{TakenPart}
use Rattle.ic_world.specs.declared.taken_part.TakenPart.TheVariants.{All, After, Before}
use Rattle.ic_world.specs.Prelude.{Family, LinkField, Sequence, collection, is_placed, is_linked_somewhere, objects_of, with_collection, with_opened, StepBy, OpensWith, SplicesAt, state_in, with_state, sequence_of, refusal_of_part, refusal_of_splice, asks_collection, Step, StepOn, Accepts, AcceptsOn, refusal, refusal_on, IsSound}
use Rattle.ic_world.specs.Apart.{AreAllPlaced}
use Rattle.ic_world.specs.Calls.{State, Reply, done, object, field, opened, items, found, looked, entry, refused, object_or_nothing, asks, names, refusal_of, onward, InsertionReplies, TakeReplies, Replies, without as without_member}
use Rattle.ic_world.proofs.Linked.{absent_or}
use Rattle.ic_world.proofs.Readings.{some_within}
use Rattle.ic_world.proofs.Steps.{asks_none}
use Rattle.ic_world_laws.specs.Sorted.{has_key}
use Rattle.ic_world_laws.specs.InsertionOrder.{IsInOrderOf, KeepsInsertionOrder, without, put_last, emptied, insertion_order_after, IsOrderly, KeepsOrder, StartsInOrder}
use Rattle.ic_world_laws.proofs.InsertionOrderLists.{HaveEqualKeys, equal_keys_itself, nothing_in_order, put_in_order, taken_in_order, equal_in_order, same_in_order}

-- in a sound family there is an object at each member of each collection
pub sound_placed : {A V : Type 0} (w : Family A V) → IsSound w → AreAllPlaced w
sound_placed w sound c s is = all_members s.members (λ p there. sound.placed s.field p ((sound.collections c s is).linked p there))

not_false : (b : Bool) → not b ≡ true → b ≡ false
not_false true e = absurd (true≢false (sym e))
not_false false e = refl

equal_of : (o : Ordering) → is_eq o ≡ true → o ≡ Equal
equal_of Less h = absurd (true≢false (sym h))
equal_of Equal h = refl
equal_of Greater h = absurd (true≢false (sym h))

-- of two equal keys, one is less than the key of a member exactly if the other is
agrees : {V K : Type 0} {cmp : K → K → Ordering} (total : IsTotalOrder cmp) (key_of : V → K) (objects : Objects V) (key own : K) → cmp key own ≡ Equal → (q : Place)
    → less_at (compared (order_of cmp key_of key) objects) q ≡ less_at (compared (order_of cmp key_of own) objects) q
agrees {V} {cmp = cmp} total key_of objects key own same q = by (object_at objects q) where
  by : (o : Option V) → is_lt (answer_at (order_of cmp key_of key) o) ≡ is_lt (answer_at (order_of cmp key_of own) o)
  by None = refl
  by (Some v) = ap is_lt (total.congr key own (key_of v) same)

-- whether a reply says that an entry was vacant and its object was inserted
abbrev is_vacant : Reply → Bool
is_vacant (entry false q n) = true
is_vacant _ = false

cond_same : {X : Type 0} (b : Bool) (x : X) → cond b x x ≡ x
cond_same true x = refl
cond_same false x = refl

module _ {A V K : Type 0} {cmp : K → K → Ordering} (total : IsTotalOrder cmp) (key_of : A → V → K) (old : Family A V) (sound : IsSound old) (c : ℕ) (insertion_order : List Place)
    (stands : KeepsInsertionOrder cmp key_of old c insertion_order) where
  abbrev s : Sequence
  s = stands.0

  there : collection old c ≡ Some s
  there = stands.1

  order : IsInOrderOf cmp key_of old insertion_order s.members
  order = stands.2

  abbrev IsValidCursor : Family A V → List Place → Type 0
  IsValidCursor w e = KeepsInsertionOrder cmp key_of w c e

  abbrev Ordered : List Place → List Place → Type 0
  Ordered e members = IsInOrderOf cmp key_of old e members

  placed : ArePlaced (objects_of old) s.members
  placed = sound_placed old sound c s there

  left : {w new : Family A V} (e : List Place) → new ≡ w → IsValidCursor w e → IsValidCursor new e
  left e is h = subst (λ w. IsValidCursor w e) (sym is) h

  -- if a call changes nothing, the collection keeps its insertion order
  same_order : {new : Family A V} (e : List Place) → new ≡ old → e ≡ insertion_order → IsValidCursor new e
  same_order e is same = left e is (s, there, subst (λ x. Ordered x s.members) (sym same) order)

  -- after a step the collection has the insertion order e, if e is the old order whenever the step is refused, and `Accepted` implies that it has
  -- this order
  by_step : (o : Option Refusal) (Accepted : Reply → Family A V → Type 0) (reply : Reply) (new : Family A V) (e : List Place) → StepBy o Accepted old reply new → ((r : Refusal) → reply ≡ refused r → e ≡ insertion_order)
      → (o ≡ None → Accepted reply new → IsValidCursor new e) → IsValidCursor new e
  by_step (Some r) Accepted reply new e h refused_same accepted = same_order e h.1 (refused_same r h.0)
  by_step None Accepted reply new e h refused_same accepted = accepted refl h

  -- a call of one collection leaves c with the insertion order e, if each accepted call of c does. If the call is refused or is a call of another
  -- collection, e has to be the old order
  on_order : (d : ℕ) (call : Call K) (reply : Reply) (new : Family A V) (e : List Place) → StepOn cmp key_of old d call reply new → ((r : Refusal) → reply ≡ refused r → e ≡ insertion_order) → (d ≢ c → e ≡ insertion_order)
      → (d ≡ c → list_all (is_placed old) (names call) ≡ true → (t : State) → Replies cmp (key_of old.adapter) (objects_of old) call (state_in old s) reply t → Ordered e t.members) → IsValidCursor new e
  on_order d call reply new e step refused_same elsewhere here = by (refusal_on old d call) refl step where
    by : (o : Option Refusal) → refusal_on old d call ≡ o → StepBy o (AcceptsOn cmp key_of old d call) old reply new → IsValidCursor new e
    by (Some r) is h = same_order e h.1 (refused_same r h.0)
    by None is h = elim (cases_eq d c) [
      | inl same ↦
          let same_s : h.0 ≡ s = some_same (sym h.2 ∙ ap (collection old) same ∙ there) in
          let tests = asks_none (list_all (is_placed old) (names call)) NoSuchObject (refusal_of call (state_in old h.0))
          (sym (ap (λ o. asks_collection o (λ x. asks (list_all (is_placed old) (names call)) NoSuchObject (refusal_of call (state_in old x)))) h.2) ∙ is) in
          left e h.4 (
            sequence_of h.0.field h.1,
            subst (λ x. get_or (set old.collections d (Some (sequence_of h.0.field h.1))) x None ≡ Some (sequence_of h.0.field h.1)) same
                (get_or-set_same old.collections d (Some (sequence_of h.0.field h.1)) None (some_within old.collections d h.2)),
            here same tests.0 h.1 (subst (λ x. Replies cmp (key_of old.adapter) (objects_of old) call (state_in old x) reply h.1) same_s h.3),
          )
      | inr differ ↦ left e h.4 (
        s,
        get_or-set_other old.collections d c (Some (sequence_of h.0.field h.1)) None (λ x. differ (sym x)) ∙ there,
        subst (λ x. Ordered x s.members) (sym (elsewhere differ)) order,
      )
    ]

  -- a call that leaves the members of its collection as they are, or that is a call of another collection, keeps the insertion order of c
  still_order : (d : ℕ) (call : Call K) (reply : Reply) (new : Family A V) → StepOn cmp key_of old d call reply new
      → ((t : State) → Replies cmp (key_of old.adapter) (objects_of old) call (state_in old s) reply t → t.members ≡ s.members) → IsValidCursor new insertion_order
  still_order d call reply new step still = on_order d call reply new insertion_order step (λ r e. refl) (λ differ. refl) (λ same names_placed t h. subst (Ordered insertion_order) (sym (still t h)) order)

  other_order : (d : ℕ) (call : Call K) (reply : Reply) (new : Family A V) → d ≢ c → StepOn cmp key_of old d call reply new → IsValidCursor new insertion_order
  other_order d call reply new differ step = on_order d call reply new insertion_order step (λ r e. refl) (λ _. refl) (λ same names_placed t h. absurd (differ same))

  move_still : (way : Neighbor) (reply : Reply) (t : State) → Replies cmp (key_of old.adapter) (objects_of old) (one.Move way) (state_in old s) reply t → t.members ≡ s.members
  move_still Next reply t h = ap (λ (x : State). x.members) h.2.2
  move_still Prev reply t h = ap (λ (x : State). x.members) h.2.2

  seek_still : (seek : Seek) (reply : Reply) (t : State) → Replies cmp (key_of old.adapter) (objects_of old) (one.Seek seek) (state_in old s) reply t → t.members ≡ s.members
  seek_still Null reply t h = ap (λ (x : State). x.members) h.1
  seek_still (On p) reply t h = ap (λ (x : State). x.members) h.1
  seek_still (With way p beside) reply t h = ap (λ (x : State). x.members) h.1

  search_still : (search : Search K) (reply : Reply) (t : State) → Replies cmp (key_of old.adapter) (objects_of old) (one.Search search) (state_in old s) reply t → t.members ≡ s.members
  search_still (Find key) (found p n) t h = ap (λ (x : State). x.members) h.2
  search_still (LowerBound bound) (found p n) t h = ap (λ (x : State). x.members) h.2
  search_still (UpperBound bound) (found p n) t h = ap (λ (x : State). x.members) h.2
  search_still (Find key) _ t h = absurd h
  search_still (LowerBound bound) _ t h = absurd h
  search_still (UpperBound bound) _ t h = absurd h

  -- AN INSERT IN ORDER puts the object last in the insertion order
  put_here : (p : Place) (cursor : Option Place) (n : ℕ) (t : State) → is_placed old p ≡ true → InsertionReplies cmp (key_of old.adapter) (objects_of old) p cursor (state_in old s) (looked n) t
      → Ordered (insertion_order ++ p ∷ []) t.members
  put_here p cursor n t has h =
      let own = value_there total (key_of old.adapter) (objects_of old) (object_at (objects_of old) p) has in
      let border = subst (λ at. IsBorder (less_at at) h.0.0) (own_order_is cmp (key_of old.adapter) (objects_of old) p own.1) h.0.2.0 in
      subst (Ordered (insertion_order ++ p ∷ [])) (sym (ap (λ (x : State). x.members) h.0.2.1))
      (put_in_order total (key_of old.adapter) (objects_of old) p own.1 h.0.0 insertion_order (subst (ArePlaced (objects_of old)) (sym h.0.1) placed) border (subst (Ordered insertion_order) (sym h.0.1) order))

  put_order : (d : ℕ) (p : Place) (call : Call K) (cursor : State → Option Place) (n : ℕ) (new : Family A V) → names call ≡ p ∷ []
      → ((t : State) → Replies cmp (key_of old.adapter) (objects_of old) call (state_in old s) (looked n) t → InsertionReplies cmp (key_of old.adapter) (objects_of old) p (cursor (state_in old s)) (state_in old s) (looked n) t)
      → StepOn cmp key_of old d call (looked n) new → IsValidCursor new (put_last c d p insertion_order)
  put_order d p call cursor n new named puts step =
      on_order d call (looked n) new (put_last c d p insertion_order) step (λ r e. absurd cc)
      (λ differ. ap (λ b. cond b (insertion_order ++ p ∷ []) insertion_order) (ne_eqb d c differ))
      (λ same names_placed t h. subst (λ e. Ordered e t.members) (sym (ap (λ b. cond b (insertion_order ++ p ∷ []) insertion_order) (eq-eqb d c same)))
      (put_here p (cursor (state_in old s)) n t (and_parts (is_placed old p) true (subst (λ ps. list_all (is_placed old) ps ≡ true) named names_placed)).0 (puts t h)))

  -- AN ENTRY with a key equal to the object's own key puts the object last in the insertion order, if the entry is vacant. Otherwise the members stay
  -- as they are
  enter_still : (key : K) (p : Place) (reply : Reply) (t : State) → is_vacant reply ≡ false → Replies cmp (key_of old.adapter) (objects_of old) (one.Enter key p) (state_in old s) reply t → t.members ≡ s.members
  enter_still key p (entry true q n) t same h = ap (λ (x : State). x.members) h.2
  enter_still key p (entry false q n) t same h = absurd (true≢false same)
  enter_still key p (refused AlreadyLinked) t same h = ap (λ (x : State). x.members) h.2
  enter_still key p _ t same h = absurd h

  vacant_here : (key : K) (p q : Place) (n : ℕ) (t : State) → has_key cmp key_of old key p ≡ true → is_placed old p ≡ true
      → Replies cmp (key_of old.adapter) (objects_of old) (one.Enter key p) (state_in old s) (entry false q n) t → Ordered (insertion_order ++ p ∷ []) t.members
  vacant_here key p q n t own has h =
      let objects = objects_of old in
      let v = value_there total (key_of old.adapter) objects (object_at objects p) has in
      let same : cmp key (key_of old.adapter v.0) ≡ Equal = equal_of (cmp key (key_of old.adapter v.0)) (sym (ap (λ o. is_eq (answer_at (order_of cmp (key_of old.adapter) key) o)) v.1) ∙ own) in
      let gap = h.3.0 in
      let agree = agrees total (key_of old.adapter) objects key (key_of old.adapter v.0) same in
      let border : IsBorder (less_at (compared (order_of cmp (key_of old.adapter) (key_of old.adapter v.0)) objects)) gap = record {
        fails = λ x e. sym (agree x) ∙ h.3.2.0.1.fails x e;
        passes = λ x e. sym (agree x) ∙ h.3.2.0.1.passes x e;
      } in
      subst (Ordered (insertion_order ++ p ∷ [])) (sym (ap (λ (x : State). x.members) h.3.2.1))
      (put_in_order total (key_of old.adapter) objects p v.1 gap insertion_order (subst (ArePlaced objects) (sym h.3.1) placed) border (subst (Ordered insertion_order) (sym h.3.1) order))

  vacant_order : (d : ℕ) (key : K) (p q : Place) (n : ℕ) (new : Family A V) → (d ≡ c → has_key cmp key_of old key p ≡ true) → StepOn cmp key_of old d (one.Enter key p) (entry false q n) new → IsValidCursor new (put_last c d p insertion_order)
  vacant_order d key p q n new own step =
      on_order d (one.Enter key p) (entry false q n) new (put_last c d p insertion_order) step (λ r e. absurd cc)
      (λ differ. ap (λ b. cond b (insertion_order ++ p ∷ []) insertion_order) (ne_eqb d c differ))
      (λ same names_placed t h. subst (λ e. Ordered e t.members) (sym (ap (λ b. cond b (insertion_order ++ p ∷ []) insertion_order) (eq-eqb d c same)))
      (vacant_here key p q n t (own same) (and_parts (is_placed old p) true names_placed).0 h))

  -- A MEMBER IS REMOVED from the collection, and `taken_by` removes it from the insertion order, too
  abbrev taken_by : Reply → List Place
  taken_by (object p) = without p insertion_order
  taken_by _ = insertion_order

  take_here : (where_at : Gap) (reply : Reply) (t : State) → TakeReplies where_at (state_in old s) reply t → Ordered (taken_by reply) t.members
  take_here where_at reply t h = by (first h.0.back) refl h.2.1 h.2.2 where
    by : (o : Option Place) → first h.0.back ≡ o → reply ≡ object_or_nothing o → t ≡ without_member (state_in old s) h.0 (onward where_at s.cursor h.0) o → Ordered (taken_by reply) t.members
    by None e is left_t = subst (λ r. Ordered (taken_by r) t.members) (sym is) (subst (Ordered insertion_order) (sym (ap (λ (x : State). x.members) left_t)) order)
    by (Some p) e is left_t =
        let all : h.0.front ++ p ∷ drop 1 h.0.back ≡ s.members = ap (λ b. h.0.front ++ b) (sym (first_is h.0.back (sym e))) ∙ h.1 in
        subst (λ r. Ordered (taken_by r) t.members) (sym is) (subst (Ordered (without p insertion_order)) (sym (ap (λ (x : State). x.members) left_t))
        (taken_in_order total (key_of old.adapter) (objects_of old) h.0.front p (drop 1 h.0.back) insertion_order (subst (ArePlaced (objects_of old)) (sym all) placed) (subst IsDistinct (sym all) (sound.apart.0 c s there))
        (subst (Ordered insertion_order) (sym all) order)))

  take_order : (d : ℕ) (where_at : Gap) (reply : Reply) (new : Family A V) → StepOn cmp key_of old d (one.Take where_at) reply new → IsValidCursor new (cond (nat_eq d c) (taken_by reply) insertion_order)
  take_order d where_at reply new step =
      on_order d (one.Take where_at) reply new (cond (nat_eq d c) (taken_by reply) insertion_order) step
      (λ r e. ap (λ (x : Reply). cond (nat_eq d c) (taken_by x) insertion_order) e ∙ cond_same (nat_eq d c) insertion_order)
      (λ differ. ap (λ b. cond b (taken_by reply) insertion_order) (ne_eqb d c differ))
      (λ same names_placed t h. subst (λ e. Ordered e t.members) (sym (ap (λ b. cond b (taken_by reply) insertion_order) (eq-eqb d c same))) (take_here where_at reply t h))

  take_none : (d : ℕ) (where_at : Gap) (reply : Reply) (new : Family A V) → taken_by reply ≡ insertion_order → StepOn cmp key_of old d (one.Take where_at) reply new → IsValidCursor new insertion_order
  take_none d where_at reply new same step = subst (IsValidCursor new) (ap (λ e. cond (nat_eq d c) e insertion_order) same ∙ cond_same (nat_eq d c) insertion_order) (take_order d where_at reply new step)

  -- ALL MEMBERS ARE REMOVED by `clear`, and the insertion order is then empty
  clear_order : (d : ℕ) (new : Family A V) → StepOn cmp key_of old d (one.BulkEdit Clear) done new → IsValidCursor new (emptied c d insertion_order)
  clear_order d new step =
      on_order d (one.BulkEdit Clear) done new (emptied c d insertion_order) step (λ r e. absurd cc) (λ differ. ap (λ b. cond b [] insertion_order) (ne_eqb d c differ))
      (λ same names_placed t h. subst (λ e. Ordered e t.members) (sym (ap (λ b. cond b [] insertion_order) (eq-eqb d c same)))
      (subst (Ordered []) (sym (ap (λ (x : State). x.members) h.1)) (nothing_in_order total (key_of old.adapter) (objects_of old))))

  clear_none : (d : ℕ) (reply : Reply) (new : Family A V) → (reply ≡ done → ⊥) → StepOn cmp key_of old d (one.BulkEdit Clear) reply new → IsValidCursor new insertion_order
  clear_none d reply new other step = on_order d (one.BulkEdit Clear) reply new insertion_order step (λ r e. refl) (λ differ. refl) (λ same names_placed t h. absurd (other h.0))

  -- a collection without members has an empty insertion order
  gone : (w : Family A V) (d : ℕ) (x : Sequence) → x.members ≡ [] → d ≡ c → collection w c ≡ Some x → IsValidCursor w (emptied c d insertion_order)
  gone w d x none same is =
      subst (IsValidCursor w) (sym (ap (λ b. cond b [] insertion_order) (eq-eqb d c same)))
      (x, is, subst (IsInOrderOf cmp key_of w []) (sym none) (nothing_in_order total (key_of w.adapter) (objects_of w)))

  fast_order : (d : ℕ) (reply : Reply) (new : Family A V) → Accepts cmp key_of old (call.FastClear d) reply new → IsValidCursor new (emptied c d insertion_order)
  fast_order d reply new h = elim (cases_eq d c) [
    | inl same ↦
        let x : Sequence = record h.0 { members = []; cursor = None } in
        left (emptied c d insertion_order) h.3 (gone (with_collection old d (Some x)) d x refl same
        (subst (λ y. get_or (set old.collections d (Some x)) y None ≡ Some x) same (get_or-set_same old.collections d (Some x) None (some_within old.collections d h.1))))
    | inr differ ↦
        subst (IsValidCursor new) (sym (ap (λ b. cond b [] insertion_order) (ne_eqb d c differ)))
        (left insertion_order h.3 (s, get_or-set_other old.collections d c _ None (λ x. differ (sym x)) ∙ there, order))
  ]

  -- a call that gives a part of another collection away keeps the insertion order of c. If c itself gives all its members away, its insertion order
  -- is then empty
  part_order : (d : ℕ) (part : TakenPart) (reply : Reply) (new : Family A V) → d ≢ c → StepBy (refusal_of_part old d part) (OpensWith old d part) old reply new → IsValidCursor new insertion_order
  part_order d part reply new differ step = by (refusal_of_part old d part) reply step where
    by : (o : Option Refusal) (reply : Reply) → StepBy o (OpensWith old d part) old reply new → IsValidCursor new insertion_order
    by (Some r) reply h = same_order insertion_order h.1 refl
    by None (opened e) h = left insertion_order h.6 (
      s,
      get_or_append_left (set old.collections d (Some (sequence_of h.1.field h.2))) _ None c (subst (λ n. c < n) (sym (length-set old.collections d (Some (sequence_of h.1.field h.2)))) (some_within old.collections c there))
          ∙ get_or-set_other old.collections d c (Some (sequence_of h.1.field h.2)) None (λ x. differ (sym x)) ∙ there,
      order,
    )
    by None (refused OutOfMemory) h = same_order insertion_order h refl
    by None _ h = absurd h

  take_all : (d e : ℕ) (new : Family A V) → StepBy (refusal_of_part old d All) (OpensWith old d All) old (opened e) new → IsValidCursor new (emptied c d insertion_order)
  take_all d e new step = elim (cases_eq d c) [
    | inr differ ↦ subst (IsValidCursor new) (sym (ap (λ b. cond b [] insertion_order) (ne_eqb d c differ))) (part_order d All (opened e) new differ step)
    | inl same ↦ by (refusal_of_part old d All) step same
  ]
    where
      by : (o : Option Refusal) → StepBy o (OpensWith old d All) old (opened e) new → d ≡ c → IsValidCursor new (emptied c d insertion_order)
      by (Some r) h same = absurd (let no = h.0 in cc)
      by None h same =
          let x = sequence_of h.1.field h.2 in
          left (emptied c d insertion_order) h.6 (gone (with_opened (with_state old d h.1.field h.2) (sequence_of h.1.field h.3)) d x (ap (λ (z : State). z.members) h.5.0) same
          (get_or_append_left (set old.collections d (Some x)) _ None c (subst (λ n. c < n) (sym (length-set old.collections d (Some x))) (some_within old.collections c there))
          ∙ subst (λ y. get_or (set old.collections d (Some x)) y None ≡ Some x) same (get_or-set_same old.collections d (Some x) None (some_within old.collections d h.4))))

  splice_order : (Beside : Cut → Option Place → Type 0) (is : Kind → Bool) (d e : ℕ) (reply : Reply) (new : Family A V) → d ≢ c → e ≢ c → StepBy (refusal_of_splice old is d e) (SplicesAt Beside old d e) old reply new → IsValidCursor new insertion_order
  splice_order Beside is d e reply new differ_d differ_e step = by_step (refusal_of_splice old is d e) (SplicesAt Beside old d e) reply new insertion_order step (λ r e. refl) (λ none h.
      left insertion_order h.8 (s, get_or-set_other (set old.collections e _) d c _ None (λ x. differ_d (sym x)) ∙ get_or-set_other old.collections e c _ None (λ x. differ_e (sym x)) ∙ there, order))

  -- IF THE OBJECTS CHANGE, but the values at the members stay, the insertion order stays
  objects_order : (p : Place) (m : map_of.FinMap nat_cmp V) → IsAbsent p s.members → ((q : Place) → q ≢ p → map_of.get m (index_of q) ≡ map_of.get old.objects (index_of q)) → IsValidCursor (record old { objects = m }) insertion_order
  objects_order p m out same = (
    s,
    there,
    same_in_order total (key_of old.adapter) (objects_of old) (record { values = m; next = 0 }) insertion_order s.members
        (λ q member. same q (λ e. member (subst (λ z. IsAbsent z s.members) (sym e) out))) order,
  )

  inserted_at : (p : Place) (v : V) (q : Place) → q ≢ p → map_of.get (map_of.insert old.objects (index_of p) v) (index_of q) ≡ map_of.get old.objects (index_of q)
  inserted_at p v q n =
      get-insert nat_cmp_total old.objects (index_of p) v (index_of q)
      ∙ ap (λ b. cond b (Some v) (map_of.get old.objects (index_of q))) (unsigned_tied (index_of q) (index_of p) ∙ ne_eqb (index_of q) (index_of p) (λ e. n (same_index q p e)))

  -- a new value keeps the insertion order if its key is equal to the key of the old value, or if the object is no member
  set_order : (p : Place) (v : V) → IsAbsent p insertion_order ⊎ (has_key cmp key_of old (key_of old.adapter v) p ≡ true) → IsValidCursor (record old { objects = map_of.insert old.objects (index_of p) v }) insertion_order
  set_order p v (inl out) = objects_order p (map_of.insert old.objects (index_of p) v) ((order.1 p).1 out) (inserted_at p v)
  set_order p v (inr equal) = (
    s,
    there,
    equal_in_order total (key_of old.adapter) (objects_of old) (record { values = map_of.insert old.objects (index_of p) v; next = 0 }) insertion_order s.members
        (λ q member. by q (same_or_not q p)) order,
  )
    where
      at_p : (o : Option V) → is_eq (answer_at (order_of cmp (key_of old.adapter) (key_of old.adapter v)) o) ≡ true → HaveEqualKeys cmp (key_of old.adapter) (Some v) o
      at_p None h = absurd (true≢false (sym h))
      at_p (Some w) h = equal_of (cmp (key_of old.adapter v) (key_of old.adapter w)) h

      is_v : map_of.get (map_of.insert old.objects (index_of p) v) (index_of p) ≡ Some v
      is_v =
          get-insert nat_cmp_total old.objects (index_of p) v (index_of p)
          ∙ ap (λ b. cond b (Some v) (map_of.get old.objects (index_of p))) (unsigned_tied (index_of p) (index_of p) ∙ eq-eqb (index_of p) (index_of p) refl)

      by : (q : Place) → (q ≡ p) ⊎ (q ≢ p) → HaveEqualKeys cmp (key_of old.adapter) (map_of.get (map_of.insert old.objects (index_of p) v) (index_of q)) (map_of.get old.objects (index_of q))
      by q (inl same) =
          subst (λ z. HaveEqualKeys cmp (key_of old.adapter) (map_of.get (map_of.insert old.objects (index_of p) v) (index_of z)) (map_of.get old.objects (index_of z))) (sym same)
          (subst (λ o. HaveEqualKeys cmp (key_of old.adapter) o (map_of.get old.objects (index_of p))) (sym is_v) (at_p (map_of.get old.objects (index_of p)) equal))
      by q (inr n) =
          subst (λ o. HaveEqualKeys cmp (key_of old.adapter) o (map_of.get old.objects (index_of q))) (sym (inserted_at p v q n))
          (equal_keys_itself total (key_of old.adapter) (map_of.get old.objects (index_of q)))

  removed_at : (p q : Place) → q ≢ p → map_of.get (map_of.remove old.objects (index_of p)) (index_of q) ≡ map_of.get old.objects (index_of q)
  removed_at p q n =
      get-remove nat_cmp_total old.objects (index_of p) (index_of q)
      ∙ ap (λ b. cond b None (map_of.get old.objects (index_of q))) (unsigned_tied (index_of q) (index_of p) ∙ ne_eqb (index_of q) (index_of p) (λ e. n (same_index q p e)))

  -- an object that is linked in no field is no member of the collection
  free_absent : (p : Place) → is_linked_somewhere old p ≡ false → IsAbsent p s.members
  free_absent p free = elim (absent_or s.members p) [
    | inl out ↦ out
    | inr member ↦
        let k = sound.collections c s there in
        absurd (true≢false (sym (list_any_at (λ (f : LinkField). set_of.contains f.linked (index_of p)) old.fields s.field (record { kind = Singly; linked = set_of.empty })
        (ltb-true s.field (length old.fields) k.in_field) (k.linked p member)) ∙ free))
  ]

  place_order : (v : V) (reply : Reply) (new : Family A V) → Accepts cmp key_of old (call.Place v) reply new → IsValidCursor new insertion_order
  place_order v (object p) new h = left insertion_order h.2 (objects_order p (map_of.insert old.objects (index_of p) v) (vacant_absent (objects_of old) p h.0 s.members placed) (inserted_at p v))
  place_order v (refused TooManyObjects) new h = same_order insertion_order h refl
  place_order v (refused OutOfMemory) new h = same_order insertion_order h refl
  place_order v _ new h = absurd h

  add_order : (k : Kind) (reply : Reply) (new : Family A V) → Accepts cmp key_of old (call.AddField k) reply new → IsValidCursor new insertion_order
  add_order k (field f) new h = left insertion_order h.1 (s, there, order)
  add_order k (refused OutOfMemory) new h = same_order insertion_order h refl
  add_order k _ new h = absurd h

  open_order : (f : ℕ) (k : Kind) (reply : Reply) (new : Family A V) → Accepts cmp key_of old (call.Open f k) reply new → IsValidCursor new insertion_order
  open_order f k (opened e) new h = left insertion_order h.1 (s, get_or_append_left old.collections _ None c (some_within old.collections c there) ∙ there, order)
  open_order f k (refused OutOfMemory) new h = same_order insertion_order h refl
  open_order f k _ new h = absurd h

  show_order : (d : ℕ) (reply : Reply) (new : Family A V) → Accepts cmp key_of old (call.Show d) reply new → IsValidCursor new insertion_order
  show_order d (items places) new h = same_order insertion_order h.3 refl
  show_order d (refused OutOfMemory) new h = same_order insertion_order h refl
  show_order d _ new h = absurd h

  show_back_order : (d : ℕ) (reply : Reply) (new : Family A V) → Accepts cmp key_of old (call.ShowBack d) reply new → IsValidCursor new insertion_order
  show_back_order d (items places) new h = same_order insertion_order h.3 refl
  show_back_order d (refused OutOfMemory) new h = same_order insertion_order h refl
  show_back_order d _ new h = absurd h

  take_refused : (d : ℕ) (r : Refusal) (new : Family A V) → OpensWith old d All (refused r) new → IsValidCursor new insertion_order
  take_refused d OutOfMemory new h = same_order insertion_order h refl
  take_refused d _ new h = absurd h

  -- a call keeps the insertion order, if it keeps the order whenever it is accepted
  plain : (command : Command V K) (reply : Reply) (new : Family A V) → Step cmp key_of old command reply new → (refusal old command ≡ None → Accepts cmp key_of old command reply new → IsValidCursor new insertion_order) → IsValidCursor new insertion_order
  plain command reply new step accepted = by_step (refusal old command) (Accepts cmp key_of old command) reply new insertion_order step (λ r e. refl) accepted

  keeps : (command : Command V K) (reply : Reply) (new : Family A V) → Step cmp key_of old command reply new → IsOrderly cmp key_of old c insertion_order command → IsValidCursor new (insertion_order_after c command reply insertion_order)
  keeps (call.On d (one.Insertion (Insert p))) (looked n) new step orderly = put_order d p (one.Insertion (Insert p)) (λ x. Some p) n new refl (λ t h. h) step
  keeps (call.On d (one.Insertion (Insert p))) reply new step orderly = on_order d (one.Insertion (Insert p)) reply new insertion_order step (λ r e. refl) (λ differ. refl) (λ same names_placed t h. absurd h)
  keeps (call.On d (one.Insertion (CursorInsert p))) (looked n) new step orderly = put_order d p (one.Insertion (CursorInsert p)) (λ x. x.cursor) n new refl (λ t h. h) step
  keeps (call.On d (one.Insertion (CursorInsert p))) reply new step orderly = on_order d (one.Insertion (CursorInsert p)) reply new insertion_order step (λ r e. refl) (λ differ. refl) (λ same names_placed t h. absurd h)
  keeps (call.On d (one.Put where_at p)) reply new step orderly = other_order d (one.Put where_at p) reply new orderly step
  keeps (call.On d (one.Swap where_at p)) reply new step orderly = other_order d (one.Swap where_at p) reply new orderly step
  keeps (call.On d (one.Enter key p)) (entry false q n) new step orderly = vacant_order d key p q n new orderly step
  keeps (call.On d (one.Enter key p)) reply new step orderly = still_order d (one.Enter key p) reply new step (λ t h. enter_still key p reply t refl h)
  keeps (call.On d (one.BulkEdit Reverse)) reply new step orderly = other_order d (one.BulkEdit Reverse) reply new orderly step
  keeps (call.On d (one.Take where_at)) (object p) new step orderly = take_order d where_at (object p) new step
  keeps (call.On d (one.Take where_at)) reply new step orderly = take_none d where_at reply new refl step
  keeps (call.On d (one.BulkEdit Clear)) done new step orderly = clear_order d new step
  keeps (call.On d (one.BulkEdit Clear)) reply new step orderly = clear_none d reply new (λ e. cc) step
  keeps (call.FastClear d) done new step orderly = by_step (refusal {K = K} old (call.FastClear d)) (Accepts cmp key_of old (call.FastClear d)) done new (emptied c d insertion_order) step (λ r e. absurd cc) (λ none h. fast_order d done new h)
  keeps (call.FastClear d) reply new step orderly = plain (call.FastClear d) reply new step (λ none h. absurd (let no = h.2 in cc))
  keeps (call.Take d) (opened e) new step orderly = take_all d e new step
  keeps (call.Take d) (refused r) new step orderly = by_step (refusal_of_part old d All) (OpensWith old d All) (refused r) new insertion_order step (λ x e. refl) (λ none h. take_refused d r new h)
  keeps (call.Take d) reply new step orderly = by_step (refusal_of_part old d All) (OpensWith old d All) reply new insertion_order step (λ x e. refl) (λ none h. absurd h)
  keeps (call.On d (one.Move way)) reply new step orderly = still_order d (one.Move way) reply new step (move_still way reply)
  keeps (call.On d (one.Seek seek)) reply new step orderly = still_order d (one.Seek seek) reply new step (seek_still seek reply)
  keeps (call.On d (one.Search search)) reply new step orderly = still_order d (one.Search search) reply new step (search_still search reply)
  keeps (call.AddField k) reply new step orderly = plain (call.AddField k) reply new step (λ none. add_order k reply new)
  keeps (call.Open f k) reply new step orderly = plain (call.Open f k) reply new step (λ none. open_order f k reply new)
  keeps (call.Place v) reply new step orderly = plain (call.Place v) reply new step (λ none. place_order v reply new)
  keeps (call.RemoveObject p) reply new step orderly = plain (call.RemoveObject p) reply new step (λ none h.
      let has = asks_none (is_placed old p) NoSuchObject (asks (not (is_linked_somewhere old p)) StillLinked None) none in
      left insertion_order h.1 (objects_order p (map_of.remove old.objects (index_of p)) (free_absent p (not_false (is_linked_somewhere old p) (asks_none (not (is_linked_somewhere old p)) StillLinked None has.1).0)) (removed_at p)))
  keeps (call.SetValue p v) reply new step orderly = plain (call.SetValue p v) reply new step (λ none h. left insertion_order h.1 (set_order p v orderly))
  keeps (call.Dispose d) reply new step orderly = plain (call.Dispose d) reply new step (λ none h. left insertion_order h.3 (s, get_or-set_other old.collections d c None None (λ x. orderly (sym x)) ∙ there, order))
  keeps (call.SplitAfter d) reply new step orderly = part_order d After reply new orderly step
  keeps (call.SplitBefore d) reply new step orderly = part_order d Before reply new orderly step
  keeps (call.Current d) reply new step orderly = plain (call.Current d) reply new step (λ none h. same_order insertion_order h.3 refl)
  keeps (call.Show d) reply new step orderly = plain (call.Show d) reply new step (λ none. show_order d reply new)
  keeps (call.ShowBack d) reply new step orderly = plain (call.ShowBack d) reply new step (λ none. show_back_order d reply new)
  keeps (call.SpliceAfter d e) reply new step orderly = splice_order IsAfter is_list d e reply new orderly.0 orderly.1 step
  keeps (call.SpliceBefore d e) reply new step orderly = splice_order IsBefore is_two_way_list d e reply new orderly.0 orderly.1 step
  keeps (call.Range d min max) reply new step orderly = plain (call.Range d min max) reply new step (λ none h. same_order insertion_order h.3 refl)
  keeps (call.IsLinked f p) reply new step orderly = plain (call.IsLinked f p) reply new step (λ none h. same_order insertion_order h.1 refl)
  keeps (call.ForceUnlink f p) reply new step orderly = plain (call.ForceUnlink f p) reply new step (λ none h. left insertion_order h.1 (s, there, order))

pub keeps_order : {A V K : Type 0} {cmp : K → K → Ordering} (total : IsTotalOrder cmp) (key_of : A → V → K) (old : Family A V) → IsSound old → (command : Command V K) (reply : Reply) (new : Family A V)
    → Step cmp key_of old command reply new → KeepsOrder cmp key_of old command reply new
keeps_order total key_of old sound command reply new step = λ c insertion_order stands orderly. keeps total key_of old sound c insertion_order stands command reply new step orderly

-- A NEW COLLECTION starts in order: it has the insertion order that `StartsInOrder` says
module _ {A V K : Type 0} {cmp : K → K → Ordering} (total : IsTotalOrder cmp) (key_of : A → V → K) (old : Family A V) where
  opened_at : (w : Family A V) (x : Sequence) (d : ℕ) → d ≡ length w.collections → collection (with_opened w x) d ≡ Some x
  opened_at w x d is = get_or_push w.collections (Some x) None d (sym is)

  open_starts : (f : ℕ) (k : Kind) (d : ℕ) (new : Family A V) (o : Option Refusal) → StepBy o (Accepts {K = K} cmp key_of old (call.Open f k)) old (opened d) new → KeepsInsertionOrder cmp key_of new d []
  open_starts f k d new (Some r) h = absurd (let no = h.0 in cc)
  open_starts f k d new None h =
      let x : Sequence = record { field = f; kind = k; members = []; cursor = None } in
      subst (λ w. KeepsInsertionOrder cmp key_of w d []) (sym h.1) (x, opened_at old x d h.0, nothing_in_order total (key_of old.adapter) (objects_of old))

  take_starts : (c d : ℕ) (new : Family A V) (insertion_order : List Place) → KeepsInsertionOrder cmp key_of old c insertion_order → (o : Option Refusal) → StepBy o (OpensWith old c All) old (opened d) new → KeepsInsertionOrder cmp key_of new d insertion_order
  take_starts c d new insertion_order stands (Some r) h = absurd (let no = h.0 in cc)
  take_starts c d new insertion_order stands None h =
      let same : stands.0.members ≡ h.3.members = ap (λ (x : Sequence). x.members) (some_same (sym stands.1 ∙ h.4)) ∙ sym (ap (λ (t : State). t.members) h.5.1) in
      subst (λ w. KeepsInsertionOrder cmp key_of w d insertion_order) (sym h.6) (
        sequence_of h.1.field h.3,
        opened_at (with_state old c h.1.field h.2) (sequence_of h.1.field h.3) d (h.0 ∙ sym (length-set old.collections c (Some (sequence_of h.1.field h.2)))),
        subst (IsInOrderOf cmp key_of old insertion_order) same stands.2,
      )

  pub starts_in_order : (command : Command V K) (reply : Reply) (new : Family A V) → Step cmp key_of old command reply new → StartsInOrder cmp key_of old command reply new
  starts_in_order (call.Open f k) (opened d) new step = open_starts f k d new (refusal {K = K} old (call.Open f k)) step
  starts_in_order (call.Take c) (opened d) new step = λ insertion_order stands. take_starts c d new insertion_order stands (refusal_of_part old c All) step
  starts_in_order _ _ new step = tt
