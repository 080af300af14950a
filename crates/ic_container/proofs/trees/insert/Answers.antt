use Rattle.std.proofs.Common.{is_some, ap}
use Rattle.ic_unsafe_ref.proofs.Placing.{placed_there}
use Rattle.ic_link_ops.proofs.Calling.{accepted}
use Rattle.ic_rbtree.specs.Tree.{adapter_of, root_of}
use Rattle.ic_container.proofs.EditLemmas.{done, refused_linked}
use Rattle.ic_container.proofs.TreeLemmas.{all_new, all_off, all_ready, order_new}
use Rattle.ic_container.proofs.trees.insert.Goals as goal

pub insert-requires-clause-placed : goal.insert-requires-clause-placed
insert-requires-clause-placed g c = let l = c.requires.lacks in all_ready (g.K.KeyAdapter.key_of (adapter_of c.args.tree.now)) l.less l.all l.places

pub insert-requires-clause-object : goal.insert-requires-clause-object
insert-requires-clause-object g c = rw c.new.ensures (ap is_some (placed_there c.requires.lacks.places))

pub returns-clause-all : goal.returns-clause-all
returns-clause-all g c =
    let l = c.requires.lacks in
    let e = rw c.new.ensures at c.insert.ensures in
    let key = g.K.KeyAdapter.key_of (adapter_of c.args.tree.now) in
    let off = all_off key l.less l.all l.places in
    let refused = refused_linked c.insert.result (g.met.L.AcceptsUnlinked.refused_is_linked c.args.links.now c.insert.new.links c.args.place) e.refused in
    let acquired = done c.insert.result (g.met.L.LinkOps.does_replay c.args.links.now c.insert.new.links _) e.acquired in
    all_new key l.less l.all l.places c.insert.new.links (root_of c.insert.new.self) (λ s shown. accepted _ c.insert.result off refused (e.inserted s shown)) (accepted _ c.insert.result off refused acquired)

pub returns-clause-order : goal.returns-clause-order
returns-clause-order g c =
    let l = c.requires.lacks in
    let e = rw c.new.ensures at c.insert.ensures in
    let key = g.K.KeyAdapter.key_of (adapter_of c.args.tree.now) in
    let refused = refused_linked c.insert.result (g.met.L.AcceptsUnlinked.refused_is_linked c.args.links.now c.insert.new.links c.args.place) e.refused in
    order_new key l.less l.all l.places c.insert.new.links (root_of c.insert.new.self) (λ s shown. accepted _ c.insert.result (all_off key l.less l.all l.places) refused (e.inserted s shown))
