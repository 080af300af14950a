use Rattle.std.proofs.Common.{sym, ◌∙◌}
use Rattle.ic_link_ops.proofs.Naming.{end_named}
use Rattle.ic_rbtree.proofs.NoSteps.{trace_stays_more}
use Rattle.ic_rbtree.proofs.nodes.AnyNodeStore.set_left.Goals as goal

pub set_left-requires-clause-left : goal.set_left-requires-clause-left
set_left-requires-clause-left g c =
    let L = g.met.L.LinkOps in end_named _ _ (λ q e. L.covered_has_name _ q (L.linked_is_covered _ q (sym (g.met.L.RBTreeOps.linked_alike _) ∙ c.requires.named q e)))

pub returns-clause-keeps_links : goal.returns-clause-keeps_links
returns-clause-keeps_links g c = trace_stays_more g.L.LinkOps.Trace g.met.L.LinkOps.does_on c.set_left.ensures.trace_stays
