use Rattle.std.proofs.Common.{ap, rules}
use Rattle.ic_link_ops.specs.PlacedObjects.{values_at}
use Rattle.ic_rbtree.specs.Tree.{root_of}
use Rattle.ic_container.specs.EachLaws.{plain_reads}
use Rattle.ic_container.proofs.HoldsLemmas.{plain_reads as list_reads}
use Rattle.ic_container.proofs.ListedLemmas.{listed_none, order_none}
use Rattle.ic_container.proofs.TreeLemmas.{all_none}
use Rattle.ic_indexed.proofs.indexed.Indexed+T+RBTree+ByKey+T+W+O+A.by_tree.Goals as goal

pub invariant_of-result : goal.invariant_of-result
invariant_of-result g c =
    let e = c.new-3.ensures in
    let W = g.W.Words in
    let trees = plain_reads W.width W.unlinked W.is_linked g.W.NodeWords.node g.met.W.Words.starts_unlinked g.met.W.NodeWords.node_linked in
    let O = g.O.Words in
    let reads = list_reads O.width O.unlinked O.is_linked g.O.NextWord.next_word g.O.PrevPlace.prev g.met.O.Words.starts_unlinked in
    record {
      keyed = all_none g.T.HasKey.key_of c.new-3.result.objects trees c.new-3.result.links.0 (root_of c.new-4.result) (rw e.links c.new.ensures) c.new-4.ensures.empty e.vacant;
      listed = listed_none reads c.new-3.result.links.1 c.new-5.ensures e.empty e.vacant (rw e.links c.new-2.ensures);
    }

pub returns : goal.returns
returns g c =
    let O = g.O.Words in
    let reads = list_reads O.width O.unlinked O.is_linked g.O.NextWord.next_word g.O.PrevPlace.prev g.met.O.Words.starts_unlinked in
    record {
      empty = ap (values_at c.new-3.result.objects) (order_none reads c.new-3.result.links.1 c.new-5.ensures);
      vacant = search rules;
      parts = search rules;
    }
