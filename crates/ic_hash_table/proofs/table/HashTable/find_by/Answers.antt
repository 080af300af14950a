use Rattle.std.proofs.Common.{sym, ap, ◌∙◌}
use Rattle.ic_hash_table.specs.Prelude.{slot_of, number}
use Rattle.ic_hash_table.proofs.FoundMembers.{chain_of, chain_placed, none_elsewhere, finds}
use Rattle.ic_hash_table.proofs.table.HashTable.find_by.Goals as goal

pub find_in_chain-found-requires-clause-placed : goal.find_in_chain-found-requires-clause-placed
find_in_chain-found-requires-clause-placed g c = rw c.front.ensures (chain_placed c.requires.held.1 c.slot-at.result c.slot-at.ensures.in_bounds)

pub returns-in-Some-clause-found : goal.returns-in-Some-clause-found
returns-in-Some-clause-found g c s held =
    let k = chain_of held c.slot-at.result c.slot-at.ensures.in_bounds in
    let elsewhere = none_elsewhere c.args.self.now.slots (number g.A.HashAdapter.key_of g.A.HashAdapter.hash_of c.args.self.now.adapter) (g.O.Values.values c.args.objects.now)
    (λ v e. ap (slot_of c.args.self.now.slots) (c.requires.alike v e ∙ sym c.hash.ensures) ∙ sym c.slot-at.ensures.slot) in
    rw c.new.ensures (rw c.in-Some.is at (finds k elsewhere c.find_in_chain-found.result.1 (c.find_in_chain-found.ensures.stops k.chain (rw c.front.ensures k.shown))))

pub returns-in-None-clause-found : goal.returns-in-None-clause-found
returns-in-None-clause-found g c s held =
    let k = chain_of held c.slot-at.result c.slot-at.ensures.in_bounds in
    let elsewhere = none_elsewhere c.args.self.now.slots (number g.A.HashAdapter.key_of g.A.HashAdapter.hash_of c.args.self.now.adapter) (g.O.Values.values c.args.objects.now)
    (λ v e. ap (slot_of c.args.self.now.slots) (c.requires.alike v e ∙ sym c.hash.ensures) ∙ sym c.slot-at.ensures.slot) in
    rw c.in-None.is at (finds k elsewhere c.find_in_chain-found.result.1 (c.find_in_chain-found.ensures.stops k.chain (rw c.front.ensures k.shown)))
