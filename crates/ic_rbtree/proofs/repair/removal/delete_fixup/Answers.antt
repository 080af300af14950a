use Rattle.std.proofs.Common.{arith}
use Rattle.ic_rbtree.proofs.ParentClimbs.{short_at, short_ended, next_each}
use Rattle.ic_rbtree.proofs.Closed.{in_there, in_parent, in_linked}
use Rattle.ic_rbtree.proofs.repair.removal.delete_fixup.Goals as goal

pub loop-init : goal.loop-init
loop-init g c = record { each = λ k h few. (k.frames, k.subtree, h, few); safe = λ S h i. (h, i); keeps_links = g.met.N.NodeStore.keeps_links_still _ }

pub delete_fixup_step-requires : goal.delete_fixup_step-requires
delete_fixup_step-requires g c =
    let r = c.requires in
    let k = c.loop.invariant.safe r.0 r.1 r.2.0 in
    (r.0, k.0, (in_there r.0 k.1 c.in-Some.is, tt))

pub parent-parent-requires : goal.parent-parent-requires
parent-parent-requires g c =
    let r = c.requires in
    let k = c.loop.invariant.safe r.0 r.1 r.2.0 in
    let there = in_there r.0 k.1 c.in-Some.is in
    record { linked = (c.delete_fixup_step.ensures.safe r.0 k.0 (there, tt)).0.linked c.in-Some.place there }

pub side_below-side-requires : goal.side_below-side-requires
side_below-side-requires g c q e =
    let n = g.N.NodeStore.node in
    let r = c.requires in
    let k = c.loop.invariant.safe r.0 r.1 r.2.0 in
    let there = in_there r.0 k.1 c.in-Some.is in
    let h = (c.delete_fixup_step.ensures.safe r.0 k.0 (there, tt)).0 in
    in_linked n h (in_parent n h c.in-Some.place there c.parent-parent.ensures) q e

pub loop-preserved : goal.loop-preserved
loop-preserved g c = record {
  each = λ k h few.
      let i = c.loop.invariant.each k h few in
      let x = next_each g.N.NodeStore.node c.in-Some.place c.in-Some.is c.delete_fixup_step.result c.delete_fixup_step.ensures.restored c.if-delete_fixup_step.false c.parent-parent.ensures c.side_below-side.result c.side_below-side.ensures
      (record k { frames = i.0; subtree = i.1 }) i.2 in
      (x.0, x.1, x.2, omega (arith, i.3, x.3));
  safe = λ S h i.
      let k = c.loop.invariant.safe S h i in
      let there = in_there S k.1 c.in-Some.is in
      let e = c.delete_fixup_step.ensures.safe S k.0 (there, tt) in
      (e.0, in_parent g.N.NodeStore.node e.0 c.in-Some.place there c.parent-parent.ensures);
  keeps_links = g.met.N.NodeStore.keeps_links_on _ _ _ c.loop.invariant.keeps_links c.delete_fixup_step.ensures.keeps_links;
}

pub returns-in_default-clause-restored : goal.returns-in_default-clause-restored
returns-in_default-clause-restored g c k h few =
    let i = c.loop.invariant.each k h few in short_ended g.N.NodeStore.node (record k { frames = i.0; subtree = i.1 }) c.in_default.is i.2

pub returns-in_default-clause-safe : goal.returns-in_default-clause-safe
returns-in_default-clause-safe g c S h i = ((c.loop.invariant.safe S h i.0).0, tt)

pub returns-then-delete_fixup_step-clause-restored : goal.returns-then-delete_fixup_step-clause-restored
returns-then-delete_fixup_step-clause-restored g c k h few =
    let i = c.loop.invariant.each k h few in
    let a = short_at g.N.NodeStore.node c.in-Some.place (record k { frames = i.0; subtree = i.1 }) c.in-Some.is i.2 in
    (c.delete_fixup_step.ensures.restored a.0 a.1 (record k { frames = a.2; subtree = i.1 }) a.3).0 c.if-delete_fixup_step.true

pub returns-then-delete_fixup_step-clause-safe : goal.returns-then-delete_fixup_step-clause-safe
returns-then-delete_fixup_step-clause-safe g c S h i =
    let k = c.loop.invariant.safe S h i.0 in
    c.delete_fixup_step.ensures.safe S k.0 (in_there S k.1 c.in-Some.is, tt)

pub returns-clause-safe : goal.returns-clause-safe
returns-clause-safe g c S h i = ((c.loop.invariant.safe S h i.0).0, tt)
