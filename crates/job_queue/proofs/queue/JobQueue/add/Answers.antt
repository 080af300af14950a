use Rattle.std.proofs.Common.{◌≡◌, refl}
use Rattle.ic_linked_list.proofs.ListedValues.{has_covered, has_pushed}
use Rattle.ic_pool.proofs.Pooling.{lacks_exactly}
use Rattle.job_queue.specs.Kept.{queue_of}
use Rattle.job_queue.proofs.Keeping.{jobs_are, kept, passed_on, queue_is}
use Rattle.job_queue.proofs.queue.JobQueue.add.Goals as goal

-- The following proofs are for the case that the job is refused, and at most the table has grown
pub invariant_of-self : goal.invariant_of-self
invariant_of-self g c =
    let e = c.in_err-object.ensures in rw e.refused.1 (kept c.place.new.self.links (has_covered e.keeps.entries c.self.invariant))

pub returns-in_err-object-clause-refused : goal.returns-in_err-object-clause-refused
returns-in_err-object-clause-refused g c =
    let e = c.in_err-object.ensures in
    let same : queue_of c.place.new.self.objects c.place.new.self.links c.self.inside.waiting ≡ queue_of c.self.inside.pool.objects c.self.inside.pool.links c.self.inside.waiting =
    rw e.refused.1 (queue_is c.place.new.self.links (has_covered e.keeps.entries c.self.invariant)) in
    passed_on _ c.from_residual.result c.from_residual.ensures (e.refused.0, rw (← c.self.view_is) same, rw (← c.self.view_is) (lacks_exactly _ _ e.full e.refused.0))

-- The following proofs are for the case that the job is added, and then waits after all other jobs
pub invariant_of-self-2 : goal.invariant_of-self-2
invariant_of-self-2 g c =
    let placed = c.in_ok-object.ensures in
    let push = c.push_back.ensures in
    kept c.push_back.new.links (has_pushed {new = c.place.new.self.objects} _ _ (has_covered placed.keeps.entries c.self.invariant) placed.placed push.inserted push.acquired push.refused refl)

pub returns-clause-added : goal.returns-clause-added
returns-clause-added g c =
    let placed = c.in_ok-object.ensures in
    let push = c.push_back.ensures in
    rw (← c.self.view_is) (jobs_are c.push_back.new.links (has_pushed {new = c.place.new.self.objects} _ _ (has_covered placed.keeps.entries c.self.invariant) placed.placed push.inserted push.acquired push.refused refl))
