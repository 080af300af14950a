use Rattle.ic_linked_list.proofs.kind.DoublyLinkedForwardLinks.set_neighbors.Goals as goal

pub returns-clause-trace_stays : goal.returns-clause-trace_stays
returns-clause-trace_stays g c = g.met.L.LinkOps.does_on _ _ _ _ _ c.set_prev.ensures.trace_stays c.set_next.ensures.trace_stays
