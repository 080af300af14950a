use Rattle.std.proofs.Common.{◌≡◌, List, ◌∷◌, drop, sym, ap, ◌∙◌}
use Rattle.job_queue.specs.declared.queue.Job.{Job}
use Rattle.job_queue.specs.Kept.{jobs_of}
use Rattle.job_queue.proofs.Keeping.{jobs_are, kept, takes_next}
use Rattle.job_queue.proofs.queue.JobQueue.take_next.Goals as goal

pub invariant_of-self-2 : goal.invariant_of-self-2
invariant_of-self-2 g c =
    let pop = c.in_ok-object.ensures in
    let taken = c.remove.ensures in
    rw taken.links (kept c.pop_front.new.links (takes_next c.self.inside.pool.links c.self.invariant c.pop_front.new.links pop.answer pop.removed pop.released taken.value taken.freed).1)

pub returns-clause-taken : goal.returns-clause-taken
returns-clause-taken g c =
    let pop = c.in_ok-object.ensures in
    let taken = c.remove.ensures in
    let next = takes_next c.self.inside.pool.links c.self.invariant c.pop_front.new.links pop.answer pop.removed pop.released taken.value taken.freed in
    let left : jobs_of c.remove.new.self.objects c.remove.new.self.links c.pop_front.new.self ≡ drop 1 (jobs_of c.self.inside.pool.objects c.self.inside.pool.links c.self.inside.waiting) =
    rw taken.links (jobs_are c.pop_front.new.links next.1) in
    rw (← c.self.view_is) (next.0 ∙ ap (λ (jobs : List Job). c.remove.result ∷ jobs) (sym left))
