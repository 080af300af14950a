-- The laws of a single call follow from the step that the call makes.
use Rattle.std.proofs.Common.{◌≡◌, ◌↔◌, ℕ, Bool, true, false, not, List, [], ◌∷◌, Option, Some, None, is_some, refl, sym, ap, ◌∙◌, subst, Ordering}
use Rattle.std.specs.List.{list_all}
use Rattle.std.specs.FinSet as finite_set
use Rattle.ic_link_ops.specs.Prelude.{Place, index_of, Objects, first, last}
use Rattle.ic_rbtree.specs.declared.keys.key_adapter.Bound.{Bound}
use Rattle.ic_link_ops.proofs.SequenceLemmas.{some_same}
use Rattle.ic_any_collection.specs.AnyCollection.{is_tree}
use Rattle.ic_world.specs.declared.call.Refusal.{Refusal}
use Rattle.ic_world.specs.declared.call.Refusal.TheVariants.{NoSuchObject, WrongKind, NothingThere, AlreadyLinked, TooManyObjects, OutOfMemory}
use Rattle.ic_world.specs.declared.call.Command.{Command}
use Rattle.ic_world.specs.declared.call.Command.TheVariants as call
use Rattle.ic_world.specs.declared.calls.collection_call.Call.{Call}
use Rattle.ic_world.specs.declared.calls.collection_call.Call.TheVariants as one
use Rattle.ic_any_collection.specs.declared.gap.Gap.{Gap}
use Rattle.ic_world.specs.declared.calls.collection_call.Neighbor.TheVariants.{Next, Prev}
use Rattle.ic_world.specs.declared.calls.seek.Seek.TheVariants.{Null, On, With}
use Rattle.ic_world.specs.declared.calls.bulk_edit.BulkEdit.TheVariants.{Clear, Reverse}
use Rattle.ic_world.specs.declared.calls.search.Search.TheVariants.{Find, LowerBound, UpperBound}
use Rattle.ic_world.specs.declared.calls.insertion.Insertion.TheVariants.{Insert, CursorInsert}
use Rattle.ic_world.specs.declared.taken_part.TakenPart.{TakenPart}
use Rattle.ic_world.specs.declared.taken_part.TakenPart.TheVariants.{All, After, Before}
use Rattle.ic_world.specs.Prelude.{Family, Sequence, collection, linked_of, is_placed, objects_of, State, Reply, found, looked, range, entry, refused, object_or_nothing, asks, asks_unlinked, has_call, names, member_at, refusal_of, Replies, StepBy, OpensWith, asks_collection, state_in, with_state}
use Rattle.ic_world.specs.Step.{Step, StepOn, Accepts, AcceptsOn, RangeReplies}
use Rattle.ic_world.proofs.Steps.{state_back}
use Rattle.ic_world_laws.specs.Laws.{inserts, IsWellNamed, WithinBoundFor, IsRefusedExactlyIfLinked, KeepsComparisonBound}

-- the reply of a refusal is neither an object nor `nothing`
not_object : {r : Refusal} (o : Option Place) → refused r ≡ object_or_nothing o → ⊥
not_object None e = cc
not_object (Some p) e = cc

module _ {V K : Type 0} (cmp : K → K → Ordering) (key_of : V → K) (objects : Objects V) where
  -- the number of looks in the reply of a keyed call is at most the number that one search may make
  abbrev Tells : Command V K → Call K → Type 0
  Tells command call = (s : State) (reply : Reply) (t : State) → Replies cmp key_of objects call s reply t → WithinBoundFor s.members command reply

  find_few : (c : ℕ) (key : K) → Tells (call.On c (one.Search (Find key))) (one.Search (Find key))
  find_few c key s (found p n) t h = h.1
  find_few c key s _ t h = absurd h

  lower_few : (c : ℕ) (bound : Bound K) → Tells (call.On c (one.Search (LowerBound bound))) (one.Search (LowerBound bound))
  lower_few c bound s (found p n) t h = h.1
  lower_few c bound s _ t h = absurd h

  upper_few : (c : ℕ) (bound : Bound K) → Tells (call.On c (one.Search (UpperBound bound))) (one.Search (UpperBound bound))
  upper_few c bound s (found p n) t h = h.1
  upper_few c bound s _ t h = absurd h

  insert_few : (c : ℕ) (p : Place) → Tells (call.On c (one.Insertion (Insert p))) (one.Insertion (Insert p))
  insert_few c p s (looked n) t h = h.1
  insert_few c p s _ t h = absurd h

  cursor_insert_few : (c : ℕ) (p : Place) → Tells (call.On c (one.Insertion (CursorInsert p))) (one.Insertion (CursorInsert p))
  cursor_insert_few c p s (looked n) t h = h.1
  cursor_insert_few c p s _ t h = absurd h

  entry_few : (c : ℕ) (key : K) (p : Place) → Tells (call.On c (one.Enter key p)) (one.Enter key p)
  entry_few c key p s (entry true q n) t h = h.1
  entry_few c key p s (entry false q n) t h = h.2
  entry_few c key p s (refused r) t h = tt
  entry_few c key p s _ t h = absurd h

  -- a call that no test refused has a refusal as its reply only if it is an `entry` that finds no member with its key, and whose object is already
  -- linked. In this case the state stays
  replies_stay : (call : Call K) (s : State) (r : Refusal) (t : State) → Replies cmp key_of objects call s (refused r) t → t ≡ s
  replies_stay (one.Put at p) s r t h = absurd (let no = h.0 in cc)
  replies_stay (one.Take at) s r t h = absurd (not_object (first h.0.back) h.2.1)
  replies_stay (one.Swap at p) s r t h = absurd (let no = h.2.3 in cc)
  replies_stay (one.Move Next) s r t h = absurd (not_object (first h.0.back) h.2.1)
  replies_stay (one.Move Prev) s r t h = absurd (not_object (last h.0.front) h.2.1)
  replies_stay (one.Seek Null) s r t h = absurd (let no = h.0 in cc)
  replies_stay (one.Seek (On p)) s r t h = absurd (let no = h.0 in cc)
  replies_stay (one.Seek (With way p beside)) s r t h = absurd (let no = h.0 in cc)
  replies_stay (one.BulkEdit Clear) s r t h = absurd (let no = h.0 in cc)
  replies_stay (one.BulkEdit Reverse) s r t h = absurd (let no = h.0 in cc)
  replies_stay (one.Search (Find key)) s r t h = absurd h
  replies_stay (one.Search (LowerBound bound)) s r t h = absurd h
  replies_stay (one.Search (UpperBound bound)) s r t h = absurd h
  replies_stay (one.Insertion (Insert p)) s r t h = absurd h
  replies_stay (one.Insertion (CursorInsert p)) s r t h = absurd h
  replies_stay (one.Enter key p) s AlreadyLinked t h = h.2
  replies_stay (one.Enter key p) s _ t h = absurd h

module _ {A V K : Type 0} (cmp : K → K → Ordering) (key_of : A → V → K) where
  -- A REFUSED CALL CHANGES NOTHING
  refused_by : (o : Option Refusal) (Accepted : Reply → Family A V → Type 0) (old new : Family A V) (r : Refusal) → StepBy o Accepted old (refused r) new
      → (Accepted (refused r) new → new ≡ old) → new ≡ old
  refused_by None Accepted old new r step stays = stays step
  refused_by (Some x) Accepted old new r step stays = step.1

  on_stays : (c : ℕ) (one : Call K) (old new : Family A V) (r : Refusal) → AcceptsOn cmp key_of old c one (refused r) new → new ≡ old
  on_stays c one old new r h =
      h.4 ∙ ap (with_state old c h.0.field) (replies_stay cmp (key_of old.adapter) (objects_of old) one (state_in old h.0) r h.1 h.3) ∙ state_back old c h.0 h.2

  out_stays : (c : ℕ) (part : TakenPart) (old new : Family A V) (r : Refusal) → OpensWith old c part (refused r) new → new ≡ old
  out_stays c part old new OutOfMemory h = h
  out_stays c part old new _ h = absurd h

  accepted_stays : (command : Command V K) (old new : Family A V) (r : Refusal) → Accepts cmp key_of old command (refused r) new → new ≡ old
  accepted_stays (call.AddField k) old new OutOfMemory h = h
  accepted_stays (call.AddField k) old new _ h = absurd h
  accepted_stays (call.Open f k) old new OutOfMemory h = h
  accepted_stays (call.Open f k) old new _ h = absurd h
  accepted_stays (call.Place v) old new TooManyObjects h = h
  accepted_stays (call.Place v) old new OutOfMemory h = h
  accepted_stays (call.Place v) old new _ h = absurd h
  accepted_stays (call.RemoveObject p) old new r h = absurd (let no = h.0 in cc)
  accepted_stays (call.SetValue p v) old new r h = absurd (let no = h.0 in cc)
  accepted_stays (call.Dispose c) old new r h = absurd (let no = h.2 in cc)
  accepted_stays (call.FastClear c) old new r h = absurd (let no = h.2 in cc)
  accepted_stays (call.Take c) old new r h = out_stays c All old new r h
  accepted_stays (call.SplitAfter c) old new r h = out_stays c After old new r h
  accepted_stays (call.SplitBefore c) old new r h = out_stays c Before old new r h
  accepted_stays (call.Current c) old new r h = h.3
  accepted_stays (call.Show c) old new OutOfMemory h = h
  accepted_stays (call.Show c) old new _ h = absurd h
  accepted_stays (call.ShowBack c) old new OutOfMemory h = h
  accepted_stays (call.ShowBack c) old new _ h = absurd h
  accepted_stays (call.SpliceAfter c d) old new r h = absurd (let no = h.0 in cc)
  accepted_stays (call.SpliceBefore c d) old new r h = absurd (let no = h.0 in cc)
  accepted_stays (call.Range c min max) old new r h = h.3
  accepted_stays (call.IsLinked f p) old new r h = h.1
  accepted_stays (call.ForceUnlink f p) old new r h = absurd (let no = h.0 in cc)
  accepted_stays (call.On c one) old new r h = on_stays c one old new r h

  pub refused_stays : (command : Command V K) (old new : Family A V) (reply : Reply) (r : Refusal) → Step cmp key_of old command reply new → reply ≡ refused r → new ≡ old
  refused_stays command old new reply r step is = refused_by _ (Accepts cmp key_of old command) old new r (subst (λ x. Step cmp key_of old command x new) is step) (accepted_stays command old new r)

  -- AN INSERT IS REFUSED EXACTLY IF ITS OBJECT IS LINKED. This follows from the order of the tests of the call
  by_tests : (o : Option Refusal) (placed kind there linked : Bool) → o ≡ asks placed NoSuchObject (asks kind WrongKind (asks there NothingThere (asks (not linked) AlreadyLinked None)))
      → (Accepted : Reply → Family A V → Type 0) (old new : Family A V) (reply : Reply) → StepBy o Accepted old reply new → (Accepted (refused AlreadyLinked) new → ⊥) → IsWellNamed reply
      → (reply ≡ refused AlreadyLinked) ↔ (linked ≡ true)
  by_tests o false kind there linked e Accepted old new reply step never named = absurd (subst IsWellNamed (rw e at step).0 named)
  by_tests o true false there linked e Accepted old new reply step never named = absurd (subst IsWellNamed (rw e at step).0 named)
  by_tests o true true false linked e Accepted old new reply step never named = absurd (subst IsWellNamed (rw e at step).0 named)
  by_tests o true true true true e Accepted old new reply step never named = ((λ _. refl), (λ _. (rw e at step).0))
  by_tests o true true true false e Accepted old new reply step never named = ((λ is. absurd (never (subst (λ x. Accepted x new) is (rw e at step)))), (λ is. absurd cc))

  -- let a call with one object test the kind of the collection, then the position, and then the object. If no other refusal applies, it is refused
  -- exactly if the object is linked
  insert_on : (c : ℕ) (p : Place) (call : Call K) (there : State → Bool) → names call ≡ p ∷ []
      → ((s : State) → refusal_of call s ≡ asks (has_call call s.kind) WrongKind (asks (there s) NothingThere (asks_unlinked s p)))
      → ((w : Family A V) (s t : State) → Replies cmp (key_of w.adapter) (objects_of w) call s (refused AlreadyLinked) t → ⊥)
      → (old new : Family A V) (reply : Reply) → StepOn cmp key_of old c call reply new → IsRefusedExactlyIfLinked old (Some (c, p)) reply
  insert_on c p call there named tests never old new reply step s is well =
      by_tests _ (list_all (is_placed old) (names call)) (has_call call s.kind) (there (state_in old s)) _
      (ap (λ o. asks_collection o (λ s. asks (list_all (is_placed old) (names call)) NoSuchObject (refusal_of call (state_in old s)))) is ∙ ap (asks (list_all (is_placed old) (names call)) NoSuchObject) (tests (state_in old s)))
      (AcceptsOn cmp key_of old c call) old new reply step (λ h. never old _ _ h.3) well

  put_on : (c : ℕ) (p : Place) (at_gap : Gap) (old new : Family A V) (reply : Reply) → StepOn cmp key_of old c (one.Put at_gap p) reply new → IsRefusedExactlyIfLinked old (Some (c, p)) reply
  put_on c p at_gap = insert_on c p (one.Put at_gap p) (λ s. true) refl (λ s. refl) (λ w s t h. let no = h.0 in cc)

  swap_on : (c : ℕ) (p : Place) (at_gap : Gap) (old new : Family A V) (reply : Reply) → StepOn cmp key_of old c (one.Swap at_gap p) reply new → IsRefusedExactlyIfLinked old (Some (c, p)) reply
  swap_on c p at_gap = insert_on c p (one.Swap at_gap p) (λ s. is_some (member_at at_gap s)) refl (λ s. refl) (λ w s t h. let no = h.2.3 in cc)

  entry_replies : (w : Family A V) (key : K) (p : Place) (s t : State) (reply : Reply) → Replies cmp (key_of w.adapter) (objects_of w) (one.Enter key p) s reply t → IsWellNamed reply
      → (reply ≡ refused AlreadyLinked) ↔ (finite_set.contains s.linked (index_of p) ≡ true)
  entry_replies w key p s t (entry false q n) h well = ((λ is. absurd cc), (λ is. let no = h.1 in absurd cc))
  entry_replies w key p s t (refused AlreadyLinked) h well = ((λ _. h.0), (λ _. refl))
  entry_replies w key p s t (entry true q n) h well = absurd well
  entry_replies w key p s t _ h well = absurd h

  entry_on : (c : ℕ) (key : K) (p : Place) (old new : Family A V) (reply : Reply) → StepOn cmp key_of old c (one.Enter key p) reply new → IsRefusedExactlyIfLinked old (Some (c, p)) reply
  entry_on c key p old new reply step s is well = by _ (list_all (is_placed old) (p ∷ [])) (is_tree s.kind)
      (ap (λ o. asks_collection o (λ s. asks (list_all (is_placed old) (p ∷ [])) NoSuchObject (asks (is_tree s.kind) WrongKind None))) is) step
    where
      by : (o : Option Refusal) (placed tree : Bool) → o ≡ asks placed NoSuchObject (asks tree WrongKind None) → StepBy o (AcceptsOn cmp key_of old c (one.Enter key p)) old reply new
          → (reply ≡ refused AlreadyLinked) ↔ (finite_set.contains (linked_of old s.field) (index_of p) ≡ true)
      by o false is_there e step = absurd (subst IsWellNamed (rw e at step).0 well)
      by o true false e step = absurd (subst IsWellNamed (rw e at step).0 well)
      by o true true e step =
          let h : AcceptsOn cmp key_of old c (one.Enter key p) reply new = rw e at step in
          subst (λ x. (reply ≡ refused AlreadyLinked) ↔ (finite_set.contains (linked_of old x.field) (index_of p) ≡ true)) (some_same (sym h.2 ∙ is))
          (entry_replies old key p (state_in old h.0) h.1 reply h.3 well)

  pub insert_refused : (command : Command V K) (old new : Family A V) (reply : Reply) → Step cmp key_of old command reply new → IsRefusedExactlyIfLinked old (inserts command) reply
  insert_refused (call.On c (one.Put at_gap p)) = put_on c p at_gap
  insert_refused (call.On c (one.Swap at_gap p)) = swap_on c p at_gap
  insert_refused (call.On c (one.Insertion (Insert p))) = insert_on c p (one.Insertion (Insert p)) (λ s. true) refl (λ s. refl) (λ w s t h. h)
  insert_refused (call.On c (one.Insertion (CursorInsert p))) = insert_on c p (one.Insertion (CursorInsert p)) (λ s. true) refl (λ s. refl) (λ w s t h. h)
  insert_refused (call.On c (one.Enter key p)) = entry_on c key p
  insert_refused _ = λ old new reply step. tt

  -- A STATEMENT P HOLDS OF THE REPLY of a call of one collection, if it holds of each refusal and of each reply of an accepted call
  module _ (c : ℕ) (call : Call K) (P : Reply → Type 0) (old new : Family A V) (reply : Reply) (step : StepOn cmp key_of old c call reply new) (s : Sequence) (is : collection old c ≡ Some s)
      (none : (r : Refusal) → P (refused r)) where
    abbrev placed : Bool
    placed = list_all (is_placed old) (names call)

    pub of_reply : (placed ≡ true → (t : State) → Replies cmp (key_of old.adapter) (objects_of old) call (state_in old s) reply t → new ≡ with_state old c s.field t → P reply) → P reply
    of_reply accepted =
        by _ placed refl
        (ap (λ o. asks_collection o (λ s. asks placed NoSuchObject (refusal_of call (state_in old s)))) is) step
      where
        by : (o : Option Refusal) (b : Bool) → placed ≡ b → o ≡ asks b NoSuchObject (refusal_of call (state_in old s)) → StepBy o (AcceptsOn cmp key_of old c call) old reply new → P reply
        by (Some r) b there e step = subst P (sym step.0) (none r)
        by None false there e step = absurd cc
        by None true there e step =
            let same = some_same (sym step.2 ∙ is) in
            accepted there step.1 (subst (λ x. Replies cmp (key_of old.adapter) (objects_of old) call (state_in old x) reply step.1) same step.3)
            (step.4 ∙ ap (λ (x : Sequence). with_state old c x.field step.1) same)

  -- a statement P holds of the reply of `range`, if it holds of each refusal and of each reply of an accepted call
  pub of_range : (c : ℕ) (min max : Bound K) (P : Reply → Type 0) (old new : Family A V) (reply : Reply) → Step cmp key_of old (call.Range c min max) reply new
      → (s : Sequence) → collection old c ≡ Some s → ((r : Refusal) → P (refused r)) → (RangeReplies cmp key_of old min max s reply → P reply) → P reply
  of_range c min max P old new reply step s is none accepted = by _ step where
    by : (o : Option Refusal) → StepBy o (Accepts cmp key_of old (call.Range c min max)) old reply new → P reply
    by (Some r) step = subst P (sym step.0) (none r)
    by None step = accepted (subst (λ x. RangeReplies cmp key_of old min max x reply) (some_same (sym step.1 ∙ is)) step.2)

  -- LOOKS ARE FEW: each keyed call makes at most the looks that `WithinBoundFor` allows
  few_on : (command : Command V K) (c : ℕ) (call : Call K) → ((s : List Place) (r : Refusal) → WithinBoundFor s command (refused r))
      → ((objects : Objects V) (adapter : A) → Tells cmp (key_of adapter) objects command call) → (old new : Family A V) (reply : Reply)
      → StepOn cmp key_of old c call reply new → (s : Sequence) → collection old c ≡ Some s → WithinBoundFor s.members command reply
  few_on command c call none tells old new reply step s is =
      of_reply c call (WithinBoundFor s.members command) old new reply step s is (none s.members) (λ there t replies left. tells (objects_of old) old.adapter (state_in old s) reply t replies)

  range_few : (c : ℕ) (min max : Bound K) (w : Family A V) (s : Sequence) (reply : Reply) → RangeReplies cmp key_of w min max s reply → WithinBoundFor {V = V} s.members (call.Range c min max) reply
  range_few c min max w s (range places n m) h = (h.1, h.2)
  range_few c min max w s (refused r) h = tt
  range_few c min max w s _ h = absurd h

  pub looks_few : (command : Command V K) (old new : Family A V) (reply : Reply) → Step cmp key_of old command reply new → KeepsComparisonBound old command reply
  looks_few (call.On c (one.Search (Find key))) = few_on (call.On c (one.Search (Find key))) c (one.Search (Find key)) (λ s r. tt) (λ objects a. find_few cmp (key_of a) objects c key)
  looks_few (call.On c (one.Search (LowerBound bound))) = few_on (call.On c (one.Search (LowerBound bound))) c (one.Search (LowerBound bound)) (λ s r. tt) (λ objects a. lower_few cmp (key_of a) objects c bound)
  looks_few (call.On c (one.Search (UpperBound bound))) = few_on (call.On c (one.Search (UpperBound bound))) c (one.Search (UpperBound bound)) (λ s r. tt) (λ objects a. upper_few cmp (key_of a) objects c bound)
  looks_few (call.On c (one.Insertion (Insert p))) = few_on (call.On c (one.Insertion (Insert p))) c (one.Insertion (Insert p)) (λ s r. tt) (λ objects a. insert_few cmp (key_of a) objects c p)
  looks_few (call.On c (one.Insertion (CursorInsert p))) = few_on (call.On c (one.Insertion (CursorInsert p))) c (one.Insertion (CursorInsert p)) (λ s r. tt) (λ objects a. cursor_insert_few cmp (key_of a) objects c p)
  looks_few (call.On c (one.Enter key p)) = few_on (call.On c (one.Enter key p)) c (one.Enter key p) (λ s r. tt) (λ objects a. entry_few cmp (key_of a) objects c key p)
  looks_few (call.Range c min max) = λ old new reply step s is.
      of_range c min max (WithinBoundFor {V = V} s.members (call.Range c min max)) old new reply step s is (λ r. tt) (range_few c min max old s reply)
  looks_few _ = λ old new reply step. tt
