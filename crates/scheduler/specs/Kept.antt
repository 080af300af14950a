-- The facts that a scheduler maintains for its objects, its two tables, its tree and its lists.
use Rattle.std.specs.Prelude.{◌≡◌, ℕ, ◌^◌, ◌<◌, true, leb, Option, List, map, slice_index_or}
use Rattle.std.specs.Ordering.{nat_cmp}
use Rattle.ic_link_ops.specs.Prelude.{Place, index_of, Objects, is_placed, IsCovered, values_at, Ends, no_members}
use Rattle.ic_link_ops.specs.DoublyEntries as lists
use Rattle.ic_link_ops.specs.NumberedCollections.{HasNumbered}
use Rattle.ic_link_ops.specs.TwoFields.{IsLinkedOnce}
use Rattle.ic_rbtree.specs.PlainTrees as trees
use Rattle.ic_rbtree.specs.SortedValues.{HasSorted}
use Rattle.scheduler.specs.declared.task.Task.{Task}
use Rattle.scheduler.specs.Schedule.{Schedule}

-- the ends of the list of the queue with the number `q`. The list is empty if no queue has this number
abbrev pub list_at : List Ends → ℕ → Ends
list_at queues q = slice_index_or queues q no_members

module _ {V : Type 0} where
  -- `deadline_of` returns a task's deadline, and `queue_of` returns the number of its queue
  abbrev pub deadline_of : Task V → ℕ
  deadline_of task = task.deadline

  abbrev pub queue_of : Task V → ℕ
  queue_of task = task.queue

-- the lists' table covers the place `p`, and the index of `p` is below 2^32, so that the pool can use it
abbrev pub HasRoom : {B : Type 0} → lists.DoublyLinkOps B → Place → Type 0
HasRoom links p = IsCovered (lists.plain_table links) p × index_of p < 2 ^ 32

module _ {V A B : Type 0} (objects : Objects (Task V)) (deadline_links : trees.TreeLinkOps A) (root : Option Place) (queue_links : lists.DoublyLinkOps B) (queues : List Ends) where
  -- what a contract sees of the scheduler: the tasks in the tree and in each list, their places, and whether all places are in use
  abbrev pub schedule_of : Schedule V
  schedule_of = record {
    waiting = values_at objects (trees.members_of deadline_links root);
    queues = map (λ list. values_at objects (lists.members_of queue_links list)) queues;
    is_full = leb (2 ^ 32) objects.next;
    waiting_at = trees.members_of deadline_links root;
    queued_at = map (λ list. lists.members_of queue_links list) queues;
  }

  -- A scheduler maintains these facts. The tasks in the tree are sorted by their deadlines, and no other place is linked in the tree's table. The list with
  -- the number `q` has only tasks of the queue `q`, and only members of the lists are linked in the lists' table. Each task is linked in exactly one of the
  -- two tables, and the lists' table covers its place
  pub record IsKept : Type 0 where
    pub waiting : List (Task V)
    pub queued : ℕ → List (Task V)
    pub sorted : HasSorted nat_cmp deadline_of trees.RepresentsTree trees.is_linked (trees.plain_table deadline_links) root objects waiting
    pub numbered : HasNumbered lists.RepresentsList lists.is_linked queue_of (lists.plain_table queue_links) (list_at queues) objects queued
    pub once : IsLinkedOnce trees.is_linked lists.is_linked objects (trees.plain_table deadline_links) (lists.plain_table queue_links)
    pub room : (p : Place) → is_placed objects p ≡ true → HasRoom queue_links p
