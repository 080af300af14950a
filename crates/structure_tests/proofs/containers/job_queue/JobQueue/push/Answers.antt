use Rattle.ic_container.proofs.ListArrayLemmas.{array_grown, array_new, in_lists_grown, in_lists_new, in_lists_off}
use Rattle.structure_tests.specs.Jobs.{list_index_of_job}
use Rattle.structure_tests.proofs.containers.job_queue.JobQueue.push.Goals as goal

pub invariant_of-self : goal.invariant_of-self
invariant_of-self g c = rw c.in-Err.ensures.refused.1 (in_lists_grown list_index_of_job c.self.invariant c.place.new.self.links c.in-Err.ensures.keeps)

pub returns-in-Err-clause-refused : goal.returns-in-Err-clause-refused
returns-in-Err-clause-refused g c =
    let e = c.in-Err.ensures in rw (← c.self.view_is, e.refused.1) (e.refused.0, array_grown list_index_of_job c.self.invariant c.place.new.self.links e.keeps)

pub push_back-requires-clause-unlinked : goal.push_back-requires-clause-unlinked
push_back-requires-clause-unlinked g c = let e = c.in-Ok.ensures in rw c.place-2.ensures (in_lists_off list_index_of_job c.self.invariant c.place.new.self.links e.keeps e.placed)

pub push_back-requires-clause-shown : goal.push_back-requires-clause-shown
push_back-requires-clause-shown g c = (_, (in_lists_grown list_index_of_job c.self.invariant c.place.new.self.links c.in-Ok.ensures.keeps).holds.shown c.list_index.result)

pub invariant_of-self-2 : goal.invariant_of-self-2
invariant_of-self-2 g c =
    let e = c.in-Ok.ensures in
    in_lists_new list_index_of_job c.self.invariant c.place.new.self.links e.keeps e.placed c.push_back.new.links c.push_back.new.array (rw (c.place-2.ensures, c.list_index.ensures.value) at c.push_back.ensures)

pub returns-clause-pushed : goal.returns-clause-pushed
returns-clause-pushed g c =
    let e = c.in-Ok.ensures in
    rw (← c.self.view_is) (array_new list_index_of_job c.self.invariant c.place.new.self.links e.keeps e.placed c.push_back.new.links c.push_back.new.array (rw (c.place-2.ensures, c.list_index.ensures.value) at c.push_back.ensures))
