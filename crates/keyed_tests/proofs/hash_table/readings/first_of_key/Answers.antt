use Rattle.keyed_tests.proofs.hash_table.readings.first_of_key.Goals as goal

pub slot-at-requires : goal.slot-at-requires
slot-at-requires g c = record { well_formed = rw c.slots.ensures c.requires.held.1.well_formed }

pub chain-requires-clause-in_bounds : goal.chain-requires-clause-in_bounds
chain-requires-clause-in_bounds g c = rw c.slots.ensures at c.slot-at.ensures.in_bounds
