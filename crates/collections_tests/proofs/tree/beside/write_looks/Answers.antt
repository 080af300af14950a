use Rattle.collections_tests.proofs.tree.beside.write_looks.Goals as goal

pub insert_keyed_by-requires-clause-shown : goal.insert_keyed_by-requires-clause-shown
insert_keyed_by-requires-clause-shown g c = let r = c.requires.placed in (r.members, r.shown)
