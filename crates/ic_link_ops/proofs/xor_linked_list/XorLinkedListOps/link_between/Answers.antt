use Rattle.ic_link_ops.proofs.xor_linked_list.XorLinkedListOps.link_between.Goals as goal

pub returns-clause-acquired : goal.returns-clause-acquired
returns-clause-acquired g c = g.met.Self.LinkOps.does_on _ _ _ _ _ c.if-not-acquire_link.ensures.acquired c.set.ensures.trace_stays
