use Rattle.claims_tests.proofs.parties.take_turns.Given as goal

abbrev pub invariant-loop-turn : goal.invariant-loop-turn
invariant-loop-turn g l = g.C.Collection.Represented (g.L.LinkOps.table l.links) l.collection
