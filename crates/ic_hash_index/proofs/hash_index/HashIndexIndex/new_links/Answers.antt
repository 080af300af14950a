use Rattle.ic_hash_index.proofs.HashLemmas.{hash_first, singly_off}
use Rattle.ic_hash_index.proofs.hash_index.HashIndexIndex.new_links.Goals as goal

pub returns : goal.returns
returns g c =
    let W = g.W.Words in
    record { none = λ objects vacant. hash_first _ _ _ _ _ _ objects c.requires.new vacant (singly_off W.width W.unlinked W.is_linked g.met.W.Words.starts_unlinked c.new.result c.new.ensures) }
