use Rattle.ic_rbtree.specs.Cursor.{position}
use Rattle.ic_rbtree.specs.Tree.{adapter_of}
use Rattle.ic_container.proofs.TreeLemmas.{all_found, all_placed}
use Rattle.ic_container.proofs.trees.find.Goals as goal

pub find-requires : goal.find-requires
find-requires g c = record { placed = all_placed (g.K.KeyAdapter.key_of (adapter_of c.args.tree.now)) c.args.objects.now c.requires.all }

pub returns : goal.returns
returns g c =
    rw c.get_ptr.ensures (all_found (g.K.KeyAdapter.key_of (adapter_of c.args.tree.now)) c.args.objects.now c.requires.all c.args.key (position c.find.result) c.find.ensures.found)
