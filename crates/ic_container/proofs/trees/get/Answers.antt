use Rattle.std.proofs.Common.{sym, subst, ◌∙◌}
use Rattle.ic_rbtree.specs.Tree.{adapter_of}
use Rattle.ic_container.specs.Trees.{IsFoundObject}
use Rattle.ic_container.proofs.trees.get.Goals as goal

pub returns : goal.returns
returns g c =
    let f = c.in_ok-place.ensures in
    subst (IsFoundObject (g.K.KeyAdapter.key_of (adapter_of c.args.tree.now)) c.args.objects.now c.args.key) (sym (c.get.ensures ∙ f.1)) (c.in_ok-place.place, f.1, f.2)
