use Rattle.ic_container.proofs.HoldsLemmas.{plain_reads}
use Rattle.ic_container.proofs.ListedLemmas.{listed_none, order_none}
use Rattle.ic_container.proofs.listed.Listed.with_words.Goals as goal

pub invariant_of-result : goal.invariant_of-result
invariant_of-result g c =
    let W = g.W.Words in
    let reads = plain_reads W.width W.unlinked W.is_linked g.W.NextWord.next_word g.W.PrevPlace.prev g.met.W.Words.starts_unlinked in
    listed_none reads c.new-2.result.links c.new-3.ensures c.new-2.ensures.empty c.new-2.ensures.vacant (rw c.new-2.ensures.links c.new.ensures)

pub returns-clause-order : goal.returns-clause-order
returns-clause-order g c =
    let W = g.W.Words in
    let reads = plain_reads W.width W.unlinked W.is_linked g.W.NextWord.next_word g.W.PrevPlace.prev g.met.W.Words.starts_unlinked in
    order_none reads c.new-2.result.links c.new-3.ensures
