use Rattle.ic_rbtree.specs.Tree.{root_of}
use Rattle.ic_container.specs.EachLaws.{plain_reads}
use Rattle.ic_container.proofs.TreeLemmas.{all_none}
use Rattle.ic_indexed.proofs.tree_index.RBTreeByKeyIndex.new_links.Goals as goal

pub returns : goal.returns
returns g c =
    let W = g.W.Words in
    let reads = plain_reads W.width W.unlinked W.is_linked g.W.NodeWords.node g.met.W.Words.starts_unlinked g.met.W.NodeWords.node_linked in
    record { none = λ objects vacant. all_none g.T.HasKey.key_of objects reads c.new.result (root_of c.args.self.now) c.new.ensures c.requires.new vacant }
