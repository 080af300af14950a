use Rattle.ic_any_collection.proofs.keyed.put_in_order.Goals as goal

pub returns-clause-inserted : goal.returns-clause-inserted
returns-clause-inserted g c s shown = rw c.new-object.ensures at (c.in-Ok.ensures.inserted s shown)
