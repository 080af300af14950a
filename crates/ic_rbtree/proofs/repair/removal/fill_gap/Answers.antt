use Rattle.ic_rbtree.proofs.Transplants.{close_red, close_short, close_lone}
use Rattle.ic_rbtree.proofs.repair.removal.fill_gap.Goals as goal

pub set_parent_and_color-requires : goal.set_parent_and_color-requires
set_parent_and_color-requires g c = record { linked = c.requires.child c.in-Some.child c.in-Some.is; named = c.requires.parent }

pub returns-in-Some-clause-filled : goal.returns-in-Some-clause-filled
returns-in-Some-clause-filled g c root d k h =
    (λ e. close_lone g.N.NodeStore.node h c.in-Some.child c.in-Some.is c.set_parent_and_color.ensures.set c.set_parent_and_color.ensures.frame, λ e. cc)

pub returns-in-Red-clause-filled : goal.returns-in-Red-clause-filled
returns-in-Red-clause-filled g c root d k h = (λ e. close_red g.N.NodeStore.node h c.in-Red.is c.in_default.is, λ e. cc)

pub returns-in-Black-clause-filled : goal.returns-in-Black-clause-filled
returns-in-Black-clause-filled g c root d k h = (λ e. cc, λ e. close_short g.N.NodeStore.node h c.in-Black.is c.in_default.is)
