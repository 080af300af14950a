use Rattle.std.proofs.Common.{arith}
use Rattle.ic_rbtree.proofs.Pairs.{swapped, measured_swapped}
use Rattle.ic_rbtree.proofs.join.roots.join_measured.Goals as goal

pub join_higher-requires : goal.join_higher-requires
join_higher-requires g c = (c.requires.0, record { measured = c.requires.1; lower = omega (arith, c.if-right-left.true) })

pub join_higher-requires-else-right-left : goal.join_higher-requires-else-right-left
join_higher-requires-else-right-left g c = (swapped c.requires.0, record { measured = measured_swapped g.N.NodeStore.node c.requires.1; lower = omega (arith, c.if-right-left.false) })

pub returns-then-right-left-clause-joined : goal.returns-then-right-left-clause-joined
returns-then-right-left-clause-joined g c k x = c.join_higher.ensures.joined k (record { measured = x; lower = omega (arith, c.if-right-left.true) })

pub returns-else-right-left-clause-joined : goal.returns-else-right-left-clause-joined
returns-else-right-left-clause-joined g c k x = c.join_higher-else-right-left.ensures.joined (swapped k) (record { measured = measured_swapped g.N.NodeStore.node x; lower = omega (arith, c.if-right-left.false) })
