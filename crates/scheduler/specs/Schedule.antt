-- Schedules: tasks that wait for their deadlines, and queues of tasks that were due.
use Rattle.std.specs.Prelude.{◌≡◌, ◌≢◌, ℕ, Bool, true, false, not, eqb, leb, List, [], ◌∷◌, ◌++◌, length, map, filter, slice_index_or}
use Rattle.std.specs.Ordering.{nat_cmp}
use Rattle.ic_link_ops.specs.Prelude.{Place, IsDistinct, IsDisjoint}
use Rattle.ic_rbtree.specs.Borders.{IsSorted}
use Rattle.scheduler.specs.declared.task.Task.{Task}

-- A schedule has the waiting tasks, in the order of the tree of deadlines, and the tasks of each queue, from front to back. It says whether all places
-- are in use. `waiting_at` and `queued_at` are the places of these tasks, in the order of the tasks
pub record Schedule (V : Type 0) : Type 0 where
  pub waiting : List (Task V)
  pub queues : List (List (Task V))
  pub is_full : Bool
  pub waiting_at : List Place
  pub queued_at : List (List Place)

module _ {V : Type 0} where
  -- the tasks of the queue with the number `q`. There are none if no queue has this number
  abbrev pub queue_at : Schedule V → ℕ → List (Task V)
  queue_at schedule q = slice_index_or schedule.queues q []

  -- the places of the tasks of the queue with the number `q`, from front to back
  abbrev pub places_at : Schedule V → ℕ → List Place
  places_at schedule q = slice_index_or schedule.queued_at q []

  -- EACH TASK IS IN ONE COLLECTION, the tree of waiting tasks or one queue. No task is in the tree and in a queue, and none is in two queues
  pub record IsOnceEach (schedule : Schedule V) : Type 0 where
    pub waiting : (length schedule.waiting_at ≡ length schedule.waiting) × IsDistinct schedule.waiting_at
    pub queued : (q : ℕ) → (length (places_at schedule q) ≡ length (queue_at schedule q)) × IsDistinct (places_at schedule q)
    pub never_both : (q : ℕ) → IsDisjoint schedule.waiting_at (places_at schedule q)
    pub never_two : (q r : ℕ) → q ≢ r → IsDisjoint (places_at schedule q) (places_at schedule r)

  -- the task with the given deadline, queue and value
  abbrev pub task_of : ℕ → ℕ → V → Task V
  task_of deadline queue value = record { deadline = deadline; queue = queue; value = value }

  -- the deadlines of a list of tasks, in the order of the tasks
  abbrev pub deadlines : List (Task V) → List ℕ
  deadlines tasks = map (λ (task : Task V). task.deadline) tasks

  -- `has_deadline` tests whether a task has the deadline `d`, `is_due` whether it is due at the time `now`, and `is_for` whether it belongs to the queue
  -- `q`
  abbrev pub has_deadline : ℕ → Task V → Bool
  has_deadline d task = eqb task.deadline d

  abbrev pub is_due : ℕ → Task V → Bool
  is_due now task = leb task.deadline now

  abbrev pub is_for : ℕ → Task V → Bool
  is_for q task = eqb task.queue q

  -- the deadlines of `tasks` never decrease. For each deadline `d`, `tasks` and `w` have the same tasks with the deadline `d`, in the same order
  pub record IsByDeadline (tasks w : List (Task V)) : Type 0 where
    pub rises : IsSorted nat_cmp (deadlines tasks)
    pub alike : (d : ℕ) → filter (has_deadline d) tasks ≡ filter (has_deadline d) w

  -- `w` lists the waiting tasks of the schedule in the order in which they were added
  abbrev pub IsScheduleOf : Schedule V → List (Task V) → Type 0
  IsScheduleOf schedule w = IsByDeadline schedule.waiting w

  -- the schedule is empty: no task waits, each queue is empty, and some place is not in use
  pub record IsEmpty (schedule : Schedule V) : Type 0 where
    pub waiting : schedule.waiting ≡ []
    pub queues : (q : ℕ) → queue_at schedule q ≡ []
    pub is_full : schedule.is_full ≡ false

  -- all parts of the schedule `new` are equal to those of `old`
  pub record IsUnchanged (old new : Schedule V) : Type 0 where
    pub waiting : new.waiting ≡ old.waiting
    pub queues : (q : ℕ) → queue_at new q ≡ queue_at old q
    pub is_full : new.is_full ≡ old.is_full
    pub waiting_at : new.waiting_at ≡ old.waiting_at
    pub queued_at : (q : ℕ) → places_at new q ≡ places_at old q

  -- THE TASK IS ADDED to the waiting tasks, after all those that were added before. The queues do not change
  pub record Adds (task : Task V) (old new : Schedule V) : Type 0 where
    pub waits : (w : List (Task V)) → IsScheduleOf old w → IsScheduleOf new (w ++ task ∷ [])
    pub queues : (q : ℕ) → queue_at new q ≡ queue_at old q

  -- A TICK at the time `now` moves the due tasks to the backs of their queues, sorted by deadline. Tasks with equal deadlines move in the order in which
  -- they were added. The tasks that are not due still wait, in their order
  pub record Ticks (now : ℕ) (old new : Schedule V) (moved : ℕ) : Type 0 where
    pub due : List (Task V)
    pub in_order : (w : List (Task V)) → IsScheduleOf old w → IsByDeadline due (filter (is_due now) w)
    pub others : (w : List (Task V)) → IsScheduleOf old w → IsScheduleOf new (filter (λ task. not (is_due now task)) w)
    pub queues : (q : ℕ) → queue_at new q ≡ queue_at old q ++ filter (is_for q) due
    pub count : moved ≡ length due
    pub is_full : new.is_full ≡ old.is_full

  -- THE TASK IS REMOVED from the front of its queue, so that its place is free. Nothing else changes
  pub record TakesFront (task : Task V) (old new : Schedule V) : Type 0 where
    pub front : queue_at old task.queue ≡ task ∷ queue_at new task.queue
    pub others : (q : ℕ) → q ≢ task.queue → queue_at new q ≡ queue_at old q
    pub waiting : new.waiting ≡ old.waiting
    pub is_full : new.is_full ≡ false

  -- the first waiting task is due at the time `now`, and moves to the back of its queue
  pub record MovesFirst (now : ℕ) (old new : Schedule V) : Type 0 where
    pub task : Task V
    pub first : old.waiting ≡ task ∷ new.waiting
    pub due : is_due now task ≡ true
    pub queues : (q : ℕ) → queue_at new q ≡ queue_at old q ++ filter (is_for q) (task ∷ [])
    pub is_full : new.is_full ≡ old.is_full
