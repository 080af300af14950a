use Rattle.ic_augmented.proofs.FenceLemmas.{safe_within, represents_after, taken_before}
use Rattle.ic_augmented.proofs.marking.unlink_inside.Goals as goal

pub unlink-requires : goal.unlink-requires
unlink-requires g c = safe_within g.N.NodeStore.node g.F.Fence.inside c.requires.closed c.requires.inside

pub returns-clause-taken : goal.returns-clause-taken
returns-clause-taken g c = taken_before g.N.NodeStore.node g.F.Fence.inside c.requires.closed (g.met.N.NodeStore.keeps_links_keeps _ _ c.unlink.ensures.keeps_links.keeps_links) c.unlink.ensures.taken

pub returns-clause-ends : goal.returns-clause-ends
returns-clause-ends g c front back h = c.unlink.ensures.ends front back (represents_after g.N.NodeStore.node g.F.Fence.inside c.requires.closed h)
