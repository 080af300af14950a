use Rattle.ic_link_ops.proofs.linked_list.LinkedListOps.link_between.Goals as goal

pub returns-clause-acquired : goal.returns-clause-acquired
returns-clause-acquired g c =
    let L = g.met.Self.LinkOps in
    L.does_on _ _ _ _ _ (L.does_on _ _ _ _ _ c.if-not-acquire_link.ensures.acquired c.set_prev.ensures.trace_stays) c.set_next.ensures.trace_stays
