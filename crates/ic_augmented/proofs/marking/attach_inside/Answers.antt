use Rattle.ic_augmented.proofs.FenceLemmas.{safe_after, attached_before}
use Rattle.ic_augmented.proofs.marking.attach_inside.Goals as goal

pub attach-requires : goal.attach-requires
attach-requires g c = safe_after g.N.NodeStore.node g.F.Fence.inside c.requires.closed c.requires.inside.0 c.args.parent c.requires.inside.1.0

pub returns-clause-attached : goal.returns-clause-attached
returns-clause-attached g c =
    attached_before g.N.NodeStore.node g.F.Fence.inside c.requires.closed c.requires.inside.0 c.args.parent c.args.side (g.met.N.NodeStore.keeps_links_keeps _ _ c.attach.ensures.keeps_links.keeps_links) c.attach.ensures.attached
