-- Definitions that say what a contract sees of a queue of jobs, and what the queue maintains for its pool and its list.
use Rattle.std.specs.Prelude.{◌^◌, leb, Bool, List}
use Rattle.ic_link_ops.specs.Prelude.{Objects, values_at, Ends}
use Rattle.ic_link_ops.specs.DoublyEntries.{DoublyLinkOps, is_linked, members_of, neighbors_of, plain_table}
use Rattle.ic_linked_list.specs.ListedValues.{HasValues}
use Rattle.job_queue.specs.declared.queue.Job.{Job}

-- the waiting jobs, in the order in which they were added, and whether all places are in use, so that no further job can be added
pub record Jobs : Type 0 where
  pub waiting : List Job
  pub is_full : Bool

module _ {A : Type 0} (objects : Objects Job) (links : DoublyLinkOps A) (list : Ends) where
  -- the waiting jobs: those at the members of the list, from its front to its back
  abbrev pub jobs_of : List Job
  jobs_of = values_at objects (members_of links list)

  abbrev pub queue_of : Jobs
  queue_of = record { waiting = jobs_of; is_full = leb (2 ^ 32) objects.next }

  -- a queue maintains these facts: the members of the list have the waiting jobs, in order, and no place without a job is linked
  abbrev pub IsKept : Type 0
  IsKept = HasValues neighbors_of is_linked (plain_table links) list objects jobs_of
