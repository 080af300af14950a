use Rattle.std.proofs.Common.{ap, sym}
use Rattle.ic_container.specs.ListArray.{in_its_list}
use Rattle.ic_container.specs.NumberedLists.{owner_of, owner_or}
use Rattle.ic_container.proofs.ListArrayLemmas.{array_renewed, in_lists_renewed}
use Rattle.structure_tests.specs.Jobs.{job_of, list_index_of_job}
use Rattle.structure_tests.proofs.containers.job_queue.JobQueue.reprioritize.Goals as goal

pub move_to_back-requires-clause-owner : goal.move_to_back-requires-clause-owner
move_to_back-requires-clause-owner g c =
    let told = sym c.in-Some.ensures.value in
    let there = rw c.place.ensures at told in
    rw (c.place-2.ensures, c.list_index-index.ensures.value) (owner_of (in_its_list list_index_of_job) c.self.inside.pool.objects, c.self.invariant.holds, ap (owner_or (in_its_list list_index_of_job)) there)

pub invariant_of-self-2 : goal.invariant_of-self-2
invariant_of-self-2 g c =
    let told = sym c.in-Some.ensures.value in
    let there = rw c.place.ensures at told in
    let e = rw (c.place-2.ensures, c.list_index-index.ensures.value, c.list_index.ensures.value) at c.move_to_back.ensures in
    rw c.place.ensures (in_lists_renewed list_index_of_job c.self.invariant there c.move_to_back.new.links c.move_to_back.new.array (job_of c.args.priority c.in-Some.it.now.value) e)

pub returns-clause-moved : goal.returns-clause-moved
returns-clause-moved g c =
    let told = sym c.in-Some.ensures.value in
    let there = rw c.place.ensures at told in
    let e = rw (c.place-2.ensures, c.list_index-index.ensures.value, c.list_index.ensures.value) at c.move_to_back.ensures in (
      c.in-Some.it.now.value,
      c.in-Some.it.now.priority,
      rw (← c.self.view_is, c.place.ensures) (array_renewed list_index_of_job c.self.invariant there c.move_to_back.new.links c.move_to_back.new.array (job_of c.args.priority c.in-Some.it.now.value) e),
    )
