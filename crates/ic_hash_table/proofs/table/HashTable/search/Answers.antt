use Rattle.std.proofs.Common.{sym, ap, ◌∙◌}
use Rattle.ic_hash_table.specs.Prelude.{number, slot_of}
use Rattle.ic_hash_table.proofs.FoundMembers.{chain_of, chain_placed, none_elsewhere, finds, stops_some}
use Rattle.ic_hash_table.proofs.table.HashTable.search.Goals as goal

pub find_in_chain-before-requires-clause-placed : goal.find_in_chain-before-requires-clause-placed
find_in_chain-before-requires-clause-placed g c = rw c.front.ensures (chain_placed c.requires.held.1 c.slot-at.result c.slot-at.ensures.in_bounds)

pub returns-clause-slot : goal.returns-clause-slot
returns-clause-slot g c = c.slot-at.ensures.slot ∙ ap (slot_of c.args.self.now.slots) c.hash.ensures

pub returns-clause-found : goal.returns-clause-found
returns-clause-found g c s held =
    let k = chain_of held c.slot-at.result c.slot-at.ensures.in_bounds in
    let stop = rw (c.new-probe.ensures.adapter, c.new-probe.ensures.key) at (c.find_in_chain-before.ensures.stops k.chain (rw c.front.ensures k.shown)) in
    let elsewhere = none_elsewhere c.args.self.now.slots (number g.A.HashAdapter.key_of g.A.HashAdapter.hash_of c.args.self.now.adapter) (g.O.Values.values c.args.objects.now)
    (λ v e. ap (slot_of c.args.self.now.slots) (sym (g.met.A.HashAdapter.equal_alike c.args.self.now.adapter c.args.key.now (g.A.HashAdapter.key_of c.args.self.now.adapter v) e) ∙ sym c.hash.ensures) ∙ sym c.slot-at.ensures.slot) in
    finds k elsewhere c.find_in_chain-before.result.1 stop

pub returns-clause-stops : goal.returns-clause-stops
returns-clause-stops g c chain shown =
    rw (c.new-probe.ensures.adapter, c.new-probe.ensures.key) at (c.find_in_chain-before.ensures.stops chain (rw c.front.ensures shown))

pub returns-clause-member : goal.returns-clause-member
returns-clause-member g c =
    let k = chain_of c.requires.held.1 c.slot-at.result c.slot-at.ensures.in_bounds in
    stops_some c.find_in_chain-before.result.1 (c.find_in_chain-before.ensures.stops k.chain (rw c.front.ensures k.shown)) k.shown
