use Rattle.std.proofs.Common.{refl, sym, ap, ◌∙◌, option_copied}
use Rattle.ic_rbtree.proofs.InOrder.{own_is}
use Rattle.ic_world.proofs.calls.probes.own_probe.Goals as goal

pub returns-clause-order : goal.returns-clause-order
returns-clause-order g c =
    own_is g.A.Key.Ord.cmp g.A.KeyAdapter.key_of c.args.objects.now c.new.ensures.adapter (c.new.ensures.key ∙ c.get_key.ensures) refl
    (sym c.get.ensures ∙ ap option_copied c.unwrap-value.ensures)
