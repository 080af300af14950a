use Rattle.ic_rbtree.specs.Tree.{adapter_of, root_of}
use Rattle.ic_container.proofs.TreeLemmas.{all_covered, all_freed, all_member, order_left}
use Rattle.ic_container.proofs.ValueLemmas.{there_is}
use Rattle.ic_container.proofs.trees.remove.Goals as goal

pub remove-requires : goal.remove-requires
remove-requires g c = record { member = rw c.new.ensures (all_member (g.K.KeyAdapter.key_of (adapter_of c.args.tree.now)) c.args.objects.now c.requires.all c.requires.placed) }

pub returns-clause-removed : goal.returns-clause-removed
returns-clause-removed g c less frees =
    let off = rw c.new.ensures at c.remove.ensures in
    let there = there_is c.args.objects.now c.args.place c.requires.placed in
    all_freed (g.K.KeyAdapter.key_of (adapter_of c.args.tree.now)) c.args.objects.now c.requires.all there.1 c.remove.new.links (root_of c.remove.new.self) off.removed (g.met.L.LinkOps.does_replay c.args.links.now c.remove.new.links _ off.released) frees

pub returns-clause-free : goal.returns-clause-free
returns-clause-free g c = let off = rw c.new.ensures at c.remove.ensures in (g.met.L.LinkOps.does_replay c.args.links.now c.remove.new.links _ off.released).is

pub returns-clause-covered : goal.returns-clause-covered
returns-clause-covered g c =
    let there = there_is c.args.objects.now c.args.place c.requires.placed in
    all_covered (g.K.KeyAdapter.key_of (adapter_of c.args.tree.now)) c.args.objects.now c.requires.all c.args.place c.remove.new.links there.1 (λ s shown. c.remove.ensures.frame s shown)

pub returns-clause-order : goal.returns-clause-order
returns-clause-order g c =
    let off = rw c.new.ensures at c.remove.ensures in
    let there = there_is c.args.objects.now c.args.place c.requires.placed in
    order_left (g.K.KeyAdapter.key_of (adapter_of c.args.tree.now)) c.args.objects.now c.requires.all there.1 c.remove.new.links (root_of c.remove.new.self) off.removed
