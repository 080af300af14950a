use Rattle.ic_rbtree.specs.Tree.{root_of}
use Rattle.scheduler.proofs.Keeping.{none_wait}
use Rattle.scheduler.proofs.scheduler.Scheduler.new.Goals as goal

pub returns : goal.returns
returns g c =
    let p = c.new-3 in
    none_wait p.result.objects p.result.links.1 (root_of c.new-5.result) p.result.links.0 c.no_queues.result p.ensures.vacant p.ensures.first (rw p.ensures.links c.new-2.ensures) (rw p.ensures.links c.new.ensures)
    c.new-5.ensures.empty c.no_queues.ensures
