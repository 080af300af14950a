use Rattle.ic_link_ops.proofs.singly_linked_list.SinglyLinkedListOps.link_before.Goals as goal

pub returns-clause-acquired : goal.returns-clause-acquired
returns-clause-acquired g c = g.met.Self.LinkOps.does_on _ _ _ _ _ c.if-not-acquire_link.ensures.acquired c.set_next.ensures.trace_stays
