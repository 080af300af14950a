use Rattle.std.proofs.Common.{◌∙◌}
use Rattle.ic_link_ops.proofs.RepresentedTrees.{holds_out}
use Rattle.ic_augmented.proofs.EditLemmas.{refreshed, still_consistent}
use Rattle.ic_augmented.proofs.edits.refresh.Goals as goal

pub returns-clause-summed : goal.returns-clause-summed
returns-clause-summed g c s h =
    refreshed g.N.NodeStore.node _ _ _ _ s h (c.refresh_below.ensures.refreshed _ h.0.tree h.0.held.entries (c.root-root.ensures ∙ h.0.starts))

pub returns-clause-consistent : goal.returns-clause-consistent
returns-clause-consistent g c s h =
    still_consistent g.N.NodeStore.node _ _ _ s
    (refreshed g.N.NodeStore.node _ _ _ _ s h (c.refresh_below.ensures.refreshed _ h.0.tree h.0.held.entries (c.root-root.ensures ∙ h.0.starts)))

pub returns-clause-others : goal.returns-clause-others
returns-clause-others g c s h q out =
    (c.refresh_below.ensures.refreshed _ h.tree h.held.entries (c.root-root.ensures ∙ h.starts)).frame q (holds_out h.held q out)

pub returns-clause-join : goal.returns-clause-join
returns-clause-join g c = let h = c.requires.shown.1 in (c.refresh_below.ensures.refreshed _ h.tree h.held.entries (c.root-root.ensures ∙ h.starts)).join
