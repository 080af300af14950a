use Rattle.std.proofs.Common.{length, sym, ap, subst, arith}
use Rattle.ic_link_ops.proofs.SinglyLists.{walk_empty, walk_linked, walk_more}
use Rattle.ic_link_ops.proofs.Walks.{few_places}
use Rattle.ic_link_ops.specs.SinglyLinkedList.{IsWalk}
use Rattle.ic_rbtree.specs.Vines.{along}
use Rattle.ic_rbtree.proofs.vine.vine_length.Goals as goal

pub returns-in_default : goal.returns-in_default
returns-in_default g c s h =
    let i = c.loop-count.invariant s h in omega (arith, i.2, ap length (walk_empty _ _ i.0 c.in_default.is i.1))

pub right-at-requires : goal.right-at-requires
right-at-requires g c =
    let i = c.loop-count.invariant c.requires.0 c.requires.1 in
    let s = along g.N.NodeStore.node in
    let t = (g.N.NodeStore.table c.args.links.now).entry in
    record { linked = walk_linked {s = s} t c.in-Some.place i.0 (subst (λ o. IsWalk s t o i.0) c.in-Some.is i.1) }

pub loop-count-preserved : goal.loop-count-preserved
loop-count-preserved g c w h =
    let s = along g.N.NodeStore.node in
    let t = (g.N.NodeStore.table c.args.links.now).entry in
    let i = c.loop-count.invariant w h in
    let more = walk_more {s = s} t c.in-Some.place i.0 (subst (λ o. IsWalk s t o i.0) c.in-Some.is i.1) in
    (more.0, subst (λ o. IsWalk s t o more.0) (sym c.right-at.ensures) more.2, omega (arith, i.2, ap length more.1))

pub returns : goal.returns
returns g c s h =
    let i = c.loop-count.invariant s h in absurd (omega (arith, i.2, few_places s h.part.distinct, c.loop-count-test.false))
