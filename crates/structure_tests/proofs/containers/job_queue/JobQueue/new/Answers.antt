use Rattle.ic_container.proofs.ListArrayLemmas.{array_empty, in_lists_none}
use Rattle.structure_tests.specs.Jobs.{list_index_of_job}
use Rattle.structure_tests.proofs.containers.job_queue.JobQueue.new.Goals as goal

pub invariant_of-result : goal.invariant_of-result
invariant_of-result g c = let e = c.new-2.ensures in in_lists_none _ c.new-2.result.links c.empty_lists.result c.empty_lists.ensures e.vacant list_index_of_job (rw e.links c.new.ensures)

pub returns : goal.returns
returns g c = array_empty _ c.new-2.result.links c.empty_lists.result c.empty_lists.ensures c.new-2.ensures.vacant
