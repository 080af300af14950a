use Rattle.ic_ring.proofs.OtherRings.{others_stay_new}
use Rattle.ic_ring.proofs.ring.Ring.open.Goals as goal

pub returns-clause-others : goal.returns-clause-others
returns-clause-others g c =
    let a = c.if-not-link_between.ensures in
    others_stay_new g.met.L.LinkedListOps.linked_alike c.args.head (g.met.L.LinkOps.does_replay _ _ _ a.acquired).was a.frame.others
