use Rattle.collections_tests.proofs.tree.summaries.SummedTree.insert_at_entry.Goals as goal

pub put_at_entry-requires : goal.put_at_entry-requires
put_at_entry-requires g c = record { few = c.eighth-object.ensures; placed = c.self.invariant.placed; ready = c.self.invariant.ready }

pub invariant_of-self : goal.invariant_of-self
invariant_of-self g c = record { placed = c.self.invariant.placed; ready = c.put_at_entry.ensures.ready }
