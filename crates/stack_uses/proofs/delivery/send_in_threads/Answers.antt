use Rattle.std.proofs.Common.{arith}
use Rattle.stack_uses.proofs.DeliveryLemmas.{ready_at, all_sent, if_both}
use Rattle.stack_uses.proofs.delivery.send_in_threads.Goals as goal

pub map_vec-requires-after_bounds : goal.map_vec-requires-after_bounds
map_vec-requires-after_bounds g c κs within = ready_at c.args.stacks.now c.args.count 0 c.args.senders.items c.requires

pub returns-clause-sent : goal.returns-clause-sent
returns-clause-sent g c =
    let e = c.map_vec.ensures in
    if_both c.map_vec.result
    (λ v len each. all_sent c.args.stacks.now c.args.count 0 c.args.senders.items v.items (let a = v.ok.0 in let b = c.args.senders.ok.0 in omega (arith, a, b, len)) c.requires
    (λ i d low. let job = (each i d low).1 in (job.job, job.job_is, job.call.met)))
    e.len e.each
