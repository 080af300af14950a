use Rattle.ic_hash_table.proofs.FoundMembers.{chain_placed}
use Rattle.ic_hash_table.proofs.table.HashTable.chain.Goals as goal

pub returns-clause-placed : goal.returns-clause-placed
returns-clause-placed g c = rw (c.from_front.ensures, c.front-first.ensures) (chain_placed c.requires.held.1 c.args.at c.requires.in_bounds)
