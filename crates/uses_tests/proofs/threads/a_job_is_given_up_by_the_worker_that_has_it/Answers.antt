use Rattle.std.proofs.Common.{[], ◌∷◌, ◌∙◌}
use Rattle.ic_link_ops.proofs.CollectionLaws.{new_represents_nothing}
use Rattle.ic_link_ops.proofs.DoublyLists.{plain_lists}
use Rattle.uses_tests.proofs.threads.a_job_is_given_up_by_the_worker_that_has_it.Goals as goal

pub give_up-by_owner-requires-clause-jobs : goal.give_up-by_owner-requires-clause-jobs
give_up-by_owner-requires-clause-jobs g c =
    let one = rw c.expect.ensures at c.push_back.ensures.inserted in
    let also = (rw c.expect.ensures at c.push_back.ensures.acquired).did in (
      c.reference.result ∷ [],
      record {
        shown = one [] (rw c.new-jobs.ensures (new_represents_nothing plain_lists _));
        only = λ p out. also.others p out.0 ∙ c.next_links-links.ensures.nothing p;
      },
    )

pub give_up-by_other-requires-clause-jobs : goal.give_up-by_other-requires-clause-jobs
give_up-by_other-requires-clause-jobs g c =
    ([], record { shown = rw c.new-other_jobs.ensures (new_represents_nothing plain_lists _); only = λ p out. c.next_links-other_links.ensures.nothing p })
