-- Lemmas about lists of tasks that are sorted by their deadlines, and about a tick that moves one task after the other.
use Rattle.std.proofs.Common.{◌≡◌, ℕ, ◌<◌, Bool, true, false, List, [], ◌∷◌, ◌++◌, filter, refl, sym, ap, ◌∙◌, arith, append-nil, ◌+◌, ◌≤◌, not, length, subst, append_assoc, length-append, nat_cmp}
use Rattle.std.proofs.lemmas.List.Elements.{filter-append}
use Rattle.std.proofs.lemmas.Bool.Decides.{nat_tests}
use Rattle.std.specs.List.{AllByRecursion}
use Rattle.ic_rbtree.specs.SortedValues.{InsertsValue}
use Rattle.ic_rbtree.proofs.KeyLaws.{filter_front, filter_fail, filter_pass}
use Rattle.ic_rbtree.proofs.SortedKeys.{sorted_filter}
use Rattle.scheduler.specs.declared.task.Task.{Task}
use Rattle.scheduler.specs.Kept.{deadline_of}
use Rattle.scheduler.specs.Schedule.{has_deadline, IsByDeadline, Schedule, queue_at, is_due, is_for, IsUnchanged, Ticks, MovesFirst}
use Rattle.ic_link_ops.proofs.Each.{all_both, all_map}

-- a list that is filtered by two tests has the same elements whichever test is applied first
filter_swap : {X : Type 0} (test other : X → Bool) (s : List X) → filter test (filter other s) ≡ filter other (filter test s)
filter_swap test other [] = refl
filter_swap test other (x ∷ s) = let rest = filter_swap test other s in grind (arith, nat_tests)

module _ {V : Type 0} where
  -- `w` lists the tasks of `old` in the order in which they were added. If `task` is inserted into `old` before exactly the tasks with later deadlines,
  -- then `IsByDeadline` holds of the new list and `w ++ task ∷ []`
  pub by_deadline_with : {old new w : List (Task V)} {task : Task V} → InsertsValue nat_cmp deadline_of old task new → IsByDeadline old w → IsByDeadline new (w ++ task ∷ [])
  by_deadline_with {old} {new} {w} {task} put stands = record { rises = put.sorted; alike = alike } where
    alike : (d : ℕ) → filter (has_deadline d) new ≡ filter (has_deadline d) (w ++ task ∷ [])
    alike d =
        let none = λ (is : has_deadline d task ≡ true). filter_front (has_deadline d) [] put.back tt (all_map (λ (x : Task V) later. grind (arith, nat_tests)) put.back put.greater) in
        let was = simp filter-append at (ap (filter (has_deadline d)) put.was) in
        rw put.is (simp filter-append (grind (arith, nat_tests, append-nil, none, was, stands.alike d)))

  -- if `IsByDeadline` holds of `tasks` and `w`, then it also holds of the tasks of `tasks` and of `w` that pass a test
  pub by_deadline_among : (test : Task V → Bool) {tasks w : List (Task V)} → IsByDeadline tasks w → IsByDeadline (filter test tasks) (filter test w)
  by_deadline_among test {tasks} {w} stands = record {
    rises = sorted_filter deadline_of test tasks stands.rises;
    alike = λ d. filter_swap (has_deadline d) test tasks ∙ ap (filter test) (stands.alike d) ∙ filter_swap test (has_deadline d) w;
  }

  -- a tick has moved the tasks `taken` so far. They were the first waiting tasks, they are due, and they are in their queues
  pub record Moved (now : ℕ) (start schedule : Schedule V) (moved : ℕ) : Type 0 where
    pub taken : List (Task V)
    pub first : start.waiting ≡ taken ++ schedule.waiting
    pub due : AllByRecursion (λ (x : Task V). is_due now x ≡ true) taken
    pub queues : (q : ℕ) → queue_at schedule q ≡ queue_at start q ++ filter (is_for q) taken
    pub count : moved ≡ length taken
    pub is_full : schedule.is_full ≡ start.is_full

  -- at the beginning of a tick, 0 tasks have moved
  pub none_moved : (now : ℕ) (schedule : Schedule V) → Moved now schedule schedule 0
  none_moved now schedule = record { taken = []; first = refl; due = tt; queues = λ q. sym (append-nil (queue_at schedule q)); count = refl; is_full = refl }

  module _ {now : ℕ} {start schedule : Schedule V} {moved : ℕ} (k : Moved now start schedule moved) where
    pub moved_one : {new : Schedule V} → MovesFirst now schedule new → Moved now start new (moved + 1)
    moved_one {new} m = record {
      taken = k.taken ++ m.task ∷ [];
      first = simp (k.first, m.first, append_assoc);
      due = all_both (λ x. is_due now x ≡ true) k.taken (m.task ∷ []) k.due (m.due, tt);
      queues = λ q. simp (m.queues q, k.queues q, append_assoc, filter-append);
      count = omega (arith, k.count, length-append k.taken (m.task ∷ []));
      is_full = m.is_full ∙ k.is_full;
    }

    -- at most `most` tasks waited at the beginning of the tick. After a move this is assumed. Before the first move the waiting tasks are those at the
    -- beginning, and they are at most `most`
    pub moved_few : (most : ℕ) → (0 < moved → length start.waiting ≤ most) → length schedule.waiting ≤ most → length start.waiting ≤ most
    moved_few most few wait = grind (arith, k.count, ap length k.first, length-append k.taken schedule.waiting)

    -- THE TICK IS OVER if no waiting task is due any more, and then all due tasks have moved
    module _ {new : Schedule V} (same : IsUnchanged schedule new) (left : AllByRecursion (λ (x : Task V). is_due now x ≡ false) schedule.waiting) where
      due_is : filter (is_due now) start.waiting ≡ k.taken
      due_is = ap (filter (is_due now)) k.first ∙ filter_front (is_due now) k.taken schedule.waiting k.due left

      others_are : filter (λ (x : Task V). not (is_due now x)) start.waiting ≡ new.waiting
      others_are = ap (filter (λ (x : Task V). not (is_due now x))) k.first ∙ filter_fail (λ (x : Task V). not (is_due now x)) k.taken schedule.waiting (all_map (λ x due. ap not due) k.taken k.due)
          ∙ filter_pass (λ (x : Task V). not (is_due now x)) schedule.waiting (all_map (λ x early. ap not early) schedule.waiting left) ∙ sym same.waiting

      pub all_moved : Ticks now start new moved
      all_moved = record {
        due = k.taken;
        in_order = λ w stands. subst (λ (t : List (Task V)). IsByDeadline t (filter (is_due now) w)) due_is (by_deadline_among (is_due now) stands);
        others = λ w stands. subst (λ (t : List (Task V)). IsByDeadline t (filter (λ (x : Task V). not (is_due now x)) w)) others_are (by_deadline_among (λ (x : Task V). not (is_due now x)) stands);
        queues = λ q. same.queues q ∙ k.queues q;
        count = k.count;
        is_full = same.is_full ∙ k.is_full;
      }
