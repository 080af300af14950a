use Rattle.ic_container.proofs.ListArrayLemmas.{first_is_taken, if_first_taken, in_lists_unchanged, none_first}
use Rattle.structure_tests.specs.Jobs.{list_index_of_job}
use Rattle.structure_tests.proofs.containers.job_queue.JobQueue.pop.Goals as goal

pub returns-in_err-first-clause-none : goal.returns-in_err-first-clause-none
returns-in_err-first-clause-none g c = rw (c.from_residual.ensures, ← c.self.view_is) (none_first list_index_of_job c.self.invariant c.in_err-first.ensures, in_lists_unchanged list_index_of_job c.self.invariant)

pub returns-clause-taken : goal.returns-clause-taken
returns-clause-taken g c =
    let r = rw (c.new.ensures, ← c.self.view_is) at c.cancel.ensures in
    rw (← c.self.view_is) (if_first_taken list_index_of_job c.self.invariant c.in_ok-first.first c.in_ok-first.ensures c.cancel.result _ r.cancelled)

pub returns-clause-none : goal.returns-clause-none
returns-clause-none g c =
    let r = rw (c.new.ensures, ← c.self.view_is) at c.cancel.ensures in first_is_taken list_index_of_job c.self.invariant c.in_ok-first.first c.in_ok-first.ensures c.cancel.result _ _ r.none
