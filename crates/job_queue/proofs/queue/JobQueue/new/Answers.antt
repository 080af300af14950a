use Rattle.std.proofs.Common.{◌^◌, leb, ap}
use Rattle.job_queue.proofs.Keeping.{has_nothing, jobs_are, kept}
use Rattle.job_queue.proofs.queue.JobQueue.new.Goals as goal

pub invariant_of-result : goal.invariant_of-result
invariant_of-result g c =
    let pool = c.new-2.ensures in kept c.new-2.result.links (has_nothing c.new-2.result.objects c.new-2.result.links _ pool.vacant (rw pool.links c.new.ensures) c.new-3.ensures)

pub returns-clause-waiting : goal.returns-clause-waiting
returns-clause-waiting g c =
    let pool = c.new-2.ensures in jobs_are c.new-2.result.links (has_nothing c.new-2.result.objects c.new-2.result.links _ pool.vacant (rw pool.links c.new.ensures) c.new-3.ensures)

pub returns-clause-room : goal.returns-clause-room
returns-clause-room g c = ap (leb (2 ^ 32)) c.new-2.ensures.first
