-- A job has a priority, and each priority has its list, which is one of four.
use Rattle.std.specs.Prelude.{ℕ}
use Rattle.structure_tests.specs.declared.containers.job.Job.{Job}
use Rattle.structure_tests.specs.declared.containers.job.Priority.{Priority}
use Rattle.structure_tests.specs.declared.containers.job.Priority.TheVariants.{Urgent, High, Normal, Low}

-- the index of the list of a priority: 0 for urgent, 1 for high, 2 for normal, 3 for low
abbrev pub list_index : Priority → ℕ
list_index Urgent = 0
list_index High = 1
list_index Normal = 2
list_index Low = 3

-- the index of a job's list is the index of the list of the job's priority
abbrev pub list_index_of_job : {V : Type 0} → Job V → ℕ
list_index_of_job job = list_index job.priority

-- the job that has the priority `priority` and the value `value`
abbrev pub job_of : {V : Type 0} → Priority → V → Job V
job_of priority value = record { priority = priority; value = value }
