use Rattle.std.proofs.Common.{[], refl}
use Rattle.ic_hash_table.proofs.Chains.{chain_of_list}
use Rattle.ic_hash_table.proofs.chain_edits.link_front.Goals as goal

pub returns-clause-shows : goal.returns-clause-shows
returns-clause-shows g c s shown out =
    rw c.first.ensures (chain_of_list (c.insert_linked.ensures.shows [] s (rw c.from_front-chain.ensures shown) refl shown.head out))
