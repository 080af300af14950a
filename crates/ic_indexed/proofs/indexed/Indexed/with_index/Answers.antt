use Rattle.std.proofs.Common.{ap, rules}
use Rattle.ic_link_ops.specs.PlacedObjects.{values_at}
use Rattle.ic_container.proofs.HoldsLemmas.{plain_reads}
use Rattle.ic_container.proofs.ListedLemmas.{listed_none, order_none}
use Rattle.ic_indexed.proofs.indexed.Indexed.with_index.Goals as goal

pub invariant_of-result : goal.invariant_of-result
invariant_of-result g c =
    let e = c.new-2.ensures in
    let W = g.I.Order.Words in
    let reads = plain_reads W.width W.unlinked W.is_linked g.I.Order.NextWord.next_word g.I.Order.PrevPlace.prev g.met.I.Order.Words.starts_unlinked in
    record {
      keyed = rw e.links (c.new_links.ensures.none c.new-2.result.objects e.vacant);
      listed = listed_none reads c.new-2.result.links.1 c.new-3.ensures e.empty e.vacant (rw e.links c.new.ensures);
    }

pub returns : goal.returns
returns g c =
    let W = g.I.Order.Words in
    let reads = plain_reads W.width W.unlinked W.is_linked g.I.Order.NextWord.next_word g.I.Order.PrevPlace.prev g.met.I.Order.Words.starts_unlinked in
    record {
      empty = ap (values_at c.new-2.result.objects) (order_none reads c.new-2.result.links.1 c.new-3.ensures);
      vacant = search rules;
      parts = search rules;
    }
