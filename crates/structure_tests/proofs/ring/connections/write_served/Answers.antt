use Rattle.structure_tests.proofs.ring.connections.write_served.Goals as goal

pub close_last-was_last-requires : goal.close_last-was_last-requires
close_last-was_last-requires g c = let q = c.close_first-closed.ensures.queue in record { queue = (_, c.close_oldest.ensures.others q.0 q.1) }
