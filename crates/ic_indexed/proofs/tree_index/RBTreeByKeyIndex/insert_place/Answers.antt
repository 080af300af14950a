use Rattle.std.proofs.Common.{is_some, ap}
use Rattle.ic_unsafe_ref.proofs.Placing.{placed_there}
use Rattle.ic_link_ops.proofs.Calling.{accepted}
use Rattle.ic_rbtree.specs.Tree.{root_of}
use Rattle.ic_container.proofs.TreeLemmas.{all_ready, all_off, all_new}
use Rattle.ic_indexed.proofs.tree_index.RBTreeByKeyIndex.insert_place.Goals as goal

pub insert-requires-clause-placed : goal.insert-requires-clause-placed
insert-requires-clause-placed g c = let l = c.requires.lacks in all_ready g.T.HasKey.key_of l.less l.all l.places

pub insert-requires-clause-object : goal.insert-requires-clause-object
insert-requires-clause-object g c = rw c.new.ensures (ap is_some (placed_there c.requires.lacks.places))

pub returns-clause-has : goal.returns-clause-has
returns-clause-has g c =
    let l = c.requires.lacks in
    let e = rw c.new.ensures at c.insert.ensures in
    let off = all_off g.T.HasKey.key_of l.less l.all l.places in
    all_new g.T.HasKey.key_of l.less l.all l.places c.insert.new.links (root_of c.insert.new.self) (λ s shown. accepted _ c.insert.result off e.refused (e.inserted s shown)) (accepted _ c.insert.result off e.refused e.acquired)
