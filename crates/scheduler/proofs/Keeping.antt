-- Lemmas which say that each call of a scheduler maintains `IsKept`, and how the schedule of the scheduler changes.
use Rattle.std.proofs.Common.{◌≡◌, ◌≢◌, ℕ, ◌≤◌, ◌<◌, ◌^◌, true, false, leb, Option, Some, None, is_some, Result, Ok, Err, OnOk, OnErr, ◌↔◌, List, [], ◌∷◌, ◌++◌, length, map, drop, filter, refl, sym, ap, ◌∙◌, subst, arith, append-nil, slice_index_or, true≢false, nat_cmp}
use Rattle.std.proofs.Math.ListN.{get_or-map}
use Rattle.std.proofs.lemmas.Bool.{lt-leb}
use Rattle.std.proofs.lemmas.Bool.Decides.{nat_tests}
use Rattle.std.proofs.lemmas.Cmp.{nat_cmp_total}
use Rattle.std.specs.List.{AllByRecursion}
use Rattle.ic_link_ops.specs.Prelude.{Place, Objects, Places, Frees, object_at, is_placed, at_front, first, IsAbsent, IsMember, IsDisjoint, IsLinked, IsUnlinked, ChangesOnlyIn, LinksAlso, Unlinks, values_at, Ends, no_members, Removes}
use Rattle.ic_link_ops.proofs.Prelude.{others_placed, gone_there, others_left, new_represents_nothing, kept_represented, nothing_first}
use Rattle.ic_link_ops.specs.NumberedCollections.{with_at}
use Rattle.ic_link_ops.proofs.Calling.{accepted}
use Rattle.ic_link_ops.proofs.Covering.{still_covered}
use Rattle.ic_link_ops.proofs.LinkedSets.{everywhere}
use Rattle.ic_link_ops.proofs.NumberedCollections.{at_number, at_others, numbered_none, numbered_covered, numbered_beside, numbered_pushed, numbered_first, numbered_own, numbered_taken, numbered_apart, numbered_free}
use Rattle.ic_link_ops.proofs.PlacedValues.{few_values}
use Rattle.ic_link_ops.proofs.TwoFields.{once_covered, once_placed, once_moved, once_taken, unlinked_first, unlinked_vacant, unlinked_second}
use Rattle.ic_pool.specs.Pooled.{Grows}
use Rattle.ic_container.proofs.HoldsLemmas.{list_off}
use Rattle.ic_container.proofs.TreeLemmas.{tree_off}
use Rattle.ic_rbtree.specs.Prelude.{IsSorted, if_passes, InsertsInOrder, against, key_at, RepresentsSorted}
use Rattle.ic_rbtree.specs.SortedValues.{HasSorted}
use Rattle.ic_rbtree.proofs.Passing.{passed}
use Rattle.ic_rbtree.proofs.PlainTrees.{plain_members, plain_trees}
use Rattle.ic_rbtree.proofs.SortedKeys.{keys_are}
use Rattle.ic_rbtree.proofs.SortedValues.{has_none, has_covered, has_beside, has_inserted, has_first, has_first_taken}
use Rattle.scheduler.specs.declared.task.Task.{Task}
use Rattle.scheduler.proofs.TimersDue.{values_wait}
use Rattle.scheduler.specs.Kept.{deadline_of, list_at, schedule_of, HasRoom, IsKept}
use Rattle.scheduler.specs.Schedule.{queue_at, places_at, IsByDeadline, is_due, is_for, task_of, IsEmpty, IsUnchanged, Adds, TakesFront, MovesFirst, IsOnceEach}
use Rattle.scheduler.proofs.Ticking.{by_deadline_with}
use Rattle.ic_container.proofs.ValueLemmas.{as_many}
use Rattle.ic_link_ops.specs.DoublyEntries as lists
use Rattle.ic_link_ops.proofs.DoublyLists as doubly
use Rattle.ic_rbtree.specs.PlainTrees as trees
use Rattle.scheduler.specs.Timers as timers

-- if a call that places a task succeeded, then some place was not in use
pub some_left : {X E : Type 0} {x : X} {e : E} (next : ℕ) → ((let r : Result X E = Ok x in r ≡ Err e) ↔ (2 ^ 32 ≤ next)) → next < 2 ^ 32
some_left next full = grind (arith, full.1)

-- if the tree has tasks sorted by their deadlines, then it satisfies what the calls of a sorted tree require
pub sorted_values : {V A : Type 0} {objects : Objects (Task V)} (w : trees.TreeLinkOps A) {root : Option Place} {tasks : List (Task V)}
    → HasSorted nat_cmp deadline_of trees.RepresentsTree trees.is_linked (trees.plain_table w) root objects tasks → RepresentsSorted deadline_of (trees.PlainRepresents w root) objects
sorted_values {objects = objects} w has =
    let sorted = keys_are deadline_of objects has.members has.stand.placed ∙ ap (map deadline_of) has.stand.are in
    record { placed = record { members = has.members; shown = has.shown; placed = has.stand.placed }; sorted = subst (IsSorted nat_cmp) (sym sorted) has.sorted }

module _ {V A B : Type 0} where
  module _ {objects : Objects (Task V)} {w : trees.TreeLinkOps A} {root : Option Place} {q : lists.DoublyLinkOps B} {ends : List Ends} (k : IsKept objects w root q ends) where
    -- THE WAITING TASKS of the schedule are the tasks that `IsKept` says are in the tree
    pub waiting_is : (schedule_of objects w root q ends).waiting ≡ k.waiting
    waiting_is = ap (values_at objects) (plain_members w k.sorted.shown) ∙ k.sorted.stand.are

    listed_is : {X : Type 0} (of : List Place → List X) → of [] ≡ [] → (i : ℕ) → slice_index_or (map (λ list. of (lists.members_of q list)) ends) i [] ≡ of (k.numbered.members i)
    listed_is of none i =
        let nothing = ap of (doubly.plain_members q (new_represents_nothing doubly.plain_lists (lists.plain_table q))) ∙ none in
        ap (λ d. slice_index_or (map (λ list. of (lists.members_of q list)) ends) i d) (sym nothing) ∙ get_or-map (λ list. of (lists.members_of q list)) ends i no_members
        ∙ ap of (doubly.plain_members q (k.numbered.each i).shown)

    pub queue_is : (i : ℕ) → queue_at (schedule_of objects w root q ends) i ≡ k.queued i
    queue_is i = listed_is (values_at objects) refl i ∙ (k.numbered.each i).stand.are

    -- the places of the waiting tasks in the schedule are the members of the tree
    pub waiting_at_is : (schedule_of objects w root q ends).waiting_at ≡ k.sorted.members
    waiting_at_is = plain_members w k.sorted.shown

    pub places_are : (i : ℕ) → places_at (schedule_of objects w root q ends) i ≡ k.numbered.members i
    places_are = listed_is (λ s. s) refl

    -- there are at most 8,589,934,591 waiting tasks
    pub few_wait : length (schedule_of objects w root q ends).waiting ≤ 8589934591
    few_wait = omega (arith, ap length waiting_is, few_values k.sorted.stand (plain_trees.distinct (trees.plain_table w) root k.sorted.members k.sorted.shown))

  -- A NEW SCHEDULER, which has no objects and whose tables, tree and lists are empty, maintains `IsKept`
  module _ (objects : Objects (Task V)) (w : trees.TreeLinkOps A) (root : Option Place) (q : lists.DoublyLinkOps B) (ends : List Ends) (vacant : (p : Place) → object_at objects p ≡ None) (next : objects.next ≡ 0)
      (no_trees : (trees.plain_table w).extent.places ≡ 0) (no_lists : (lists.plain_table q).extent.places ≡ 0) (none : root ≡ None) (empty : (i : ℕ) → list_at ends i ≡ no_members) where
    pub kept_none : IsKept objects w root q ends
    kept_none = record {
      waiting = [];
      queued = λ i. [];
      sorted = has_none plain_trees nat_cmp_total objects none (tree_off w no_trees);
      numbered = numbered_none doubly.plain_lists objects empty (list_off q no_lists);
      once = record { each = λ p. rw (ap is_some (vacant p)) (tree_off w no_trees p, list_off q no_lists p) };
      room = λ p placed. absurd (true≢false (sym placed ∙ ap is_some (vacant p)));
    }

    pub none_wait : IsEmpty (schedule_of objects w root q ends)
    unfolding kept_none
    none_wait = record { waiting = waiting_is kept_none; queues = queue_is kept_none; is_full = ap (leb (2 ^ 32)) next }

  module _ {objects : Objects (Task V)} {w : trees.TreeLinkOps A} {root : Option Place} {q : lists.DoublyLinkOps B} {ends : List Ends} (k : IsKept objects w root q ends) where
    pub queue_empty : (i : ℕ) → None ≡ first (k.numbered.members i) → queue_at (schedule_of objects w root q ends) i ≡ []
    queue_empty i none = queue_is k i ∙ sym (k.numbered.each i).stand.are ∙ ap (values_at objects) (nothing_first (k.numbered.members i) none)

    -- if the search for a due task finds the place `p`, then `p` is the first member of the tree, and its task is due
    pub first_due : (now : ℕ) {p : Place} → ((s : List Place) → trees.PlainRepresents w root s → Some p ≡ if_passes (timers.is_due deadline_of objects now) (first s)) → (Some p ≡ first k.sorted.members) × (timers.is_due deadline_of objects now p ≡ true)
    first_due now {p} due = passed (timers.is_due deadline_of objects now) (first k.sorted.members) p (due k.sorted.members k.sorted.shown)

    -- if the deadlines of all members of the tree are later than `now`, then no waiting task is due
    pub nothing_due : (now : ℕ) → ((s : List Place) → trees.PlainRepresents w root s → AllByRecursion (λ p. now < key_at deadline_of objects p) s)
        → AllByRecursion (λ (x : Task V). is_due now x ≡ false) (schedule_of objects w root q ends).waiting
    nothing_due now wait =
        subst (AllByRecursion (λ (x : Task V). is_due now x ≡ false)) (k.sorted.stand.are ∙ sym (waiting_is k)) (values_wait deadline_of objects now k.sorted.members (wait _ k.sorted.shown))

    -- AFTER THE CALL `place`, both tables may have grown, and the scheduler still maintains `IsKept`
    module _ (v : trees.TreeLinkOps A) (r : lists.DoublyLinkOps B) (grows_w : Grows (trees.plain_table w) (trees.plain_table v)) (grows_q : Grows (lists.plain_table q) (lists.plain_table r)) where
      pub kept_grown : IsKept objects v root r ends
      kept_grown = record {
        waiting = k.waiting;
        queued = k.queued;
        sorted = has_covered plain_trees nat_cmp_total k.sorted grows_w.entries;
        numbered = numbered_covered doubly.plain_lists k.numbered grows_q.entries;
        once = once_covered k.once grows_w.entries grows_q.entries;
        room = λ p placed. let old = k.room p placed in (grows_q.covered p old.0, old.1);
      }

      pub same_grown : IsUnchanged (schedule_of objects w root q ends) (schedule_of objects v root r ends)
      unfolding kept_grown
      same_grown = record {
        waiting = waiting_is kept_grown ∙ sym (waiting_is k);
        queues = λ i. queue_is kept_grown i ∙ sym (queue_is k i);
        is_full = refl;
        waiting_at = plain_members v (kept_represented plain_trees grows_w.entries k.sorted.shown) ∙ sym (waiting_at_is k);
        queued_at = λ i. places_are kept_grown i ∙ sym (doubly.plain_members r (kept_grown.numbered.each i).shown)
            ∙ doubly.plain_members r (kept_represented doubly.plain_lists grows_q.entries (k.numbered.each i).shown) ∙ sym (places_are k i);
      }

      -- A NEW TASK was placed at the place `p`
      module _ {new : Objects (Task V)} {p : Place} {task : Task V} (places : Places objects new p task) where
        -- the place `p` of the new task is not linked, and the tree satisfies what an insertion requires
        pub new_unlinked : IsUnlinked trees.is_linked (trees.plain_table v) p
        new_unlinked = (unlinked_vacant kept_grown.once p places.vacant).0

        pub ready : RepresentsSorted deadline_of (trees.PlainRepresents v root) new
        ready = sorted_values v (has_beside plain_trees nat_cmp_total kept_grown.sorted {new = new} new_unlinked (others_placed places))

        -- after the new task is inserted into the tree, the scheduler maintains `IsKept`, and the task is added to the waiting tasks (`Adds`)
        module _ (u : trees.TreeLinkOps A) (top : Option Place) (room : HasRoom r p) {X : Type 0} (answer : Result Unit X)
            (scheduled : (s : List Place) → trees.PlainRepresents v root s → OnOk answer (InsertsInOrder trees.RepresentsTree (against deadline_of new p) (trees.plain_table v) (trees.plain_table u) top s p))
            (acquired : OnOk answer (LinksAlso trees.is_linked (trees.plain_table v) (trees.plain_table u) p)) (refused : OnErr answer (IsLinked trees.is_linked (trees.plain_table v) p × (u ≡ v))) where
          put : (s : List Place) → trees.PlainRepresents v root s → InsertsInOrder trees.RepresentsTree (against deadline_of new p) (trees.plain_table v) (trees.plain_table u) top s p
          put s shown = accepted _ answer new_unlinked refused (scheduled s shown)

          also : LinksAlso trees.is_linked (trees.plain_table v) (trees.plain_table u) p
          also = accepted _ answer new_unlinked refused acquired

          pub kept_added : IsKept new u top r ends
          unfolding kept_grown
          kept_added = let x = has_inserted plain_trees nat_cmp_total kept_grown.sorted places put also in record {
            waiting = x.0;
            queued = k.queued;
            sorted = x.2;
            numbered = numbered_beside doubly.plain_lists kept_grown.numbered {new = new} (unlinked_vacant kept_grown.once p places.vacant).1 (others_placed places);
            once = once_placed kept_grown.once places also;
            room = λ z. everywhere (λ z. is_placed new z ≡ true → HasRoom r z) p z (λ placed. room) (λ n placed. kept_grown.room z (sym (ap is_some (others_placed places z n)) ∙ placed));
          }

          pub adds : Adds task (schedule_of objects w root q ends) (schedule_of new u top r ends)
          unfolding kept_added kept_grown
          adds = record {
            waits = λ l stands. subst (λ (t : List (Task V)). IsByDeadline t (l ++ task ∷ [])) (sym (waiting_is kept_added))
                (by_deadline_with (has_inserted plain_trees nat_cmp_total kept_grown.sorted places put also).1 (subst (λ (t : List (Task V)). IsByDeadline t l) (waiting_is k) stands));
            queues = λ i. queue_is kept_added i ∙ sym (queue_is k i);
          }

    -- THE FIRST TASK OF THE TREE moves to the back of its queue, and the scheduler still maintains `IsKept`
    module _ {p : Place} {task : Task V} (is : Some p ≡ first k.sorted.members) (there : object_at objects p ≡ Some task) (v : trees.TreeLinkOps A) (top : Option Place) (r : lists.DoublyLinkOps B) (after : List Ends)
        (off : Removes trees.RepresentsTree (trees.plain_table w) (trees.plain_table v) top (at_front k.sorted.members)) (gone : Unlinks trees.is_linked (trees.plain_table w) (trees.plain_table v) p)
        (pushed : (s : List Place) → lists.PlainRepresents q (list_at ends task.queue) s → lists.PlainRepresents r (list_at after task.queue) (s ++ p ∷ [])) (others : (i : ℕ) → i ≢ task.queue → list_at after i ≡ list_at ends i)
        (also : LinksAlso lists.is_linked (lists.plain_table q) (lists.plain_table r) p) (frame : (s : List Place) → lists.PlainRepresents q (list_at ends task.queue) s → ChangesOnlyIn (lists.plain_table q) (lists.plain_table r) (p ∷ s)) where
      pub kept_moved : IsKept objects v top r after
      kept_moved = record {
        waiting = drop 1 k.waiting;
        queued = with_at k.queued task.queue (k.queued task.queue ++ task ∷ []);
        sorted = has_first_taken plain_trees nat_cmp_total k.sorted is there off.shows gone;
        numbered = numbered_pushed doubly.plain_lists k.numbered there pushed others also frame;
        once = once_moved k.once there gone also;
        room = λ z placed. let old = k.room z placed in (still_covered z (frame (k.numbered.members task.queue) (k.numbered.each task.queue).shown) old.0, old.1);
      }

      pub moves : (now : ℕ) → is_due now task ≡ true → MovesFirst now (schedule_of objects w root q ends) (schedule_of objects v top r after)
      unfolding kept_moved
      moves now due = record {
        task = task;
        first = waiting_is k ∙ has_first plain_trees nat_cmp_total k.sorted is there ∙ ap (λ (t : List (Task V)). task ∷ t) (sym (waiting_is kept_moved));
        due = due;
        queues = λ i. queue_is kept_moved i ∙ one_more i ∙ ap (λ (t : List (Task V)). t ++ filter (is_for i) (task ∷ [])) (sym (queue_is k i));
        is_full = refl;
      } where
        one_more : (i : ℕ) → with_at k.queued task.queue (k.queued task.queue ++ task ∷ []) i ≡ k.queued i ++ filter (is_for i) (task ∷ [])
        one_more i = grind (arith, nat_tests, append-nil)

    -- THE FIRST TASK OF A QUEUE is removed with its object, and the scheduler still maintains `IsKept`
    module _ {i : ℕ} {p : Place} {found : Task V} (is : Some p ≡ first (k.numbered.members i)) (there : object_at objects p ≡ Some found) (new : Objects (Task V)) (r : lists.DoublyLinkOps B) (after : List Ends)
        (popped : (s : List Place) → lists.PlainRepresents q (list_at ends i) s → lists.PlainRepresents r (list_at after i) (drop 1 s)) (others : (j : ℕ) → j ≢ i → list_at after j ≡ list_at ends j)
        (gone : Unlinks lists.is_linked (lists.plain_table q) (lists.plain_table r) p) (frame : (s : List Place) → lists.PlainRepresents q (list_at ends i) s → ChangesOnlyIn (lists.plain_table q) (lists.plain_table r) s)
        (frees : Frees objects new p) where
      pub kept_taken : IsKept new w root r after
      kept_taken = record {
        waiting = k.waiting;
        queued = with_at k.queued i (drop 1 (k.queued i));
        sorted = has_beside plain_trees nat_cmp_total k.sorted {new = new} (unlinked_first k.once p gone.was) (others_left frees);
        numbered = numbered_taken doubly.plain_lists k.numbered is there popped others gone frame frees;
        once = once_taken k.once frees gone;
        room = λ z. everywhere (λ z. is_placed new z ≡ true → HasRoom r z) p z (λ placed. absurd (true≢false (sym placed ∙ ap is_some (gone_there frees))))
            (λ n placed. let old = k.room z (sym (ap is_some (others_left frees z n)) ∙ placed) in (still_covered z (frame (k.numbered.members i) (k.numbered.each i).shown) old.0, old.1));
      }

      pub takes_front : TakesFront (task_of found.deadline i found.value) (schedule_of objects w root q ends) (schedule_of new w root r after)
      unfolding kept_taken
      takes_front = record {
        front = queue_is k i ∙ numbered_first doubly.plain_lists k.numbered is there ∙ ap (λ j. task_of found.deadline j found.value ∷ drop 1 (k.queued i)) (numbered_own doubly.plain_lists k.numbered is there)
            ∙ ap (λ (t : List (Task V)). task_of found.deadline i found.value ∷ t) (sym (at_number k.queued i (drop 1 (k.queued i))) ∙ sym (queue_is kept_taken i));
        others = λ j other. queue_is kept_taken j ∙ at_others k.queued i (drop 1 (k.queued i)) j other ∙ sym (queue_is k j);
        waiting = waiting_is kept_taken ∙ sym (waiting_is k);
        is_full = lt-leb (2 ^ 32) new.next (omega (arith, frees.next, (k.room p (ap is_some there)).1));
      }

all_out : (s t : List Place) → ((p : Place) → IsMember p s → IsAbsent p t) → IsDisjoint s t
all_out [] t h = tt
all_out (x ∷ s) t h = (h x (λ out. out.0 refl), all_out s t (λ p there. h p (λ out. there out.1)))

module _ {V A B : Type 0} {objects : Objects (Task V)} {w : trees.TreeLinkOps A} {root : Option Place} {q : lists.DoublyLinkOps B} {ends : List Ends} (k : IsKept objects w root q ends) where
  -- a member of the tree is linked in the tree's table, and therefore it is in no list
  in_no_queue : (i : ℕ) (p : Place) → IsMember p k.sorted.members → IsAbsent p (k.numbered.members i)
  in_no_queue i p there =
      let free = λ (f : trees.is_linked ((trees.plain_table w).entry p) ≡ false). there (plain_trees.free (trees.plain_table w) root k.sorted.members p k.sorted.shown f) in
      let linked : trees.is_linked ((trees.plain_table w).entry p) ≡ true = grind (arith, nat_tests, free) in
      numbered_free doubly.plain_lists k.numbered (unlinked_second k.once p linked) i

  pub once_each : IsOnceEach (schedule_of objects w root q ends)
  once_each = record {
    waiting = rw (waiting_at_is k) (sym (as_many objects k.sorted.members k.sorted.stand.placed), plain_trees.distinct (trees.plain_table w) root k.sorted.members k.sorted.shown);
    queued = λ i. let e = k.numbered.each i in
        rw (places_are k i, queue_is k i, ← e.stand.are) (sym (as_many objects (k.numbered.members i) e.stand.placed), doubly.plain_lists.distinct (lists.plain_table q) _ _ e.shown);
    never_both = λ i. rw (waiting_at_is k, places_are k i) (all_out k.sorted.members (k.numbered.members i) (in_no_queue i));
    never_two = λ i j apart. rw (places_are k i, places_are k j) (numbered_apart doubly.plain_lists k.numbered i j apart);
  }
