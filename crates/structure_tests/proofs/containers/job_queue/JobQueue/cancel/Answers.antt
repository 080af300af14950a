use Rattle.std.proofs.Common.{sym, ap, ◌∙◌}
use Rattle.ic_link_ops.proofs.SequenceLemmas.{some_same}
use Rattle.ic_container.proofs.ListArrayLemmas.{array_freed, in_lists_freed, in_lists_stands}
use Rattle.structure_tests.specs.Jobs.{list_index_of_job}
use Rattle.structure_tests.proofs.containers.job_queue.JobQueue.cancel.Goals as goal

pub remove-requires-clause-member : goal.remove-requires-clause-member
remove-requires-clause-member g c = rw (c.place.ensures, c.list_index-index.ensures.value) (in_lists_stands list_index_of_job c.self.invariant (sym c.in_ok-get.ensures))

pub invariant_of-self : goal.invariant_of-self
invariant_of-self g c =
    let r = rw (c.new.ensures, c.place-2.ensures) at c.remove-2.ensures in
    let t = rw (c.place.ensures, c.list_index-index.ensures.value ∙ ap list_index_of_job (some_same (c.in_ok-get.ensures ∙ r.value))) at c.remove.ensures in
    rw r.links (in_lists_freed list_index_of_job c.self.invariant r.value c.remove.new.links c.remove.new.array r.freed t)

pub returns-clause-cancelled : goal.returns-clause-cancelled
returns-clause-cancelled g c =
    let r = rw (c.new.ensures, c.place-2.ensures) at c.remove-2.ensures in
    let t = rw (c.place.ensures, c.list_index-index.ensures.value ∙ ap list_index_of_job (some_same (c.in_ok-get.ensures ∙ r.value))) at c.remove.ensures in
    rw (← c.self.view_is, r.links) (array_freed list_index_of_job c.self.invariant r.value c.remove.new.links c.remove.new.array r.freed t)
