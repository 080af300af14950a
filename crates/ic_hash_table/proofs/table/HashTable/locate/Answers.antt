use Rattle.std.proofs.Common.{ap, ◌∙◌, not}
use Rattle.ic_hash_table.specs.HashTable.{number}
use Rattle.ic_hash_table.proofs.FoundMembers.{chain_of, place_elsewhere, nowhere, stops_place}
use Rattle.ic_hash_table.proofs.HeldTables.{of_chain}
use Rattle.ic_hash_table.proofs.table.HashTable.locate.Goals as goal

pub find_place_in_chain-before-requires : goal.find_place_in_chain-before-requires
find_place_in_chain-before-requires g c =
    let k = chain_of c.requires.held.1 c.slot_of_object-at.result c.slot_of_object-at.ensures.in_bounds in
    record { shown = (k.chain, rw c.front.ensures k.shown) }

pub returns-then-is_none-clause-absent : goal.returns-then-is_none-clause-absent
returns-then-is_none-clause-absent g c s held =
    let k = chain_of held c.slot_of_object-at.result c.slot_of_object-at.ensures.in_bounds in
    let elsewhere = place_elsewhere c.args.self.now.slots (number g.A.HashAdapter.key_of g.A.HashAdapter.hash_of c.args.self.now.adapter) (g.O.Values.values c.args.objects.now) c.slot_of_object-at.result c.args.place
    c.requires.placed c.slot_of_object-at.ensures.belongs in
    nowhere c.args.place k elsewhere c.find_place_in_chain-before.result.1 (c.find_place_in_chain-before.ensures.stops k.chain (rw c.front.ensures k.shown)) (c.is_none.ensures ∙ ap not c.if-is_none.true)

pub returns-clause-member : goal.returns-clause-member
returns-clause-member g c =
    let k = chain_of c.requires.held.1 c.slot_of_object-at.result c.slot_of_object-at.ensures.in_bounds in
    stops_place c.find_place_in_chain-before.result.1 (c.find_place_in_chain-before.ensures.stops k.chain (rw c.front.ensures k.shown)) (c.is_none.ensures ∙ ap not c.if-is_none.false) k.shown

pub returns-clause-there : goal.returns-clause-there
returns-clause-there g c s held =
    let k = chain_of held c.slot_of_object-at.result c.slot_of_object-at.ensures.in_bounds in
    let m = stops_place c.find_place_in_chain-before.result.1 (c.find_place_in_chain-before.ensures.stops k.chain (rw c.front.ensures k.shown)) (c.is_none.ensures ∙ ap not c.if-is_none.false) k.shown in
    of_chain k m.0 m.1 c.args.place m.2
