use Rattle.ic_rbtree.proofs.NoSteps.{trace_stays_more}
use Rattle.ic_rbtree.proofs.nodes.AnyNodeStore.set_color.Goals as goal

pub returns-clause-keeps_links : goal.returns-clause-keeps_links
returns-clause-keeps_links g c = trace_stays_more g.L.LinkOps.Trace g.met.L.LinkOps.does_on c.set_color.ensures.trace_stays
