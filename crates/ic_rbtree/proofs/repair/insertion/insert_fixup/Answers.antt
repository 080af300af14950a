use Rattle.std.proofs.Common.{refl, arith}
use Rattle.ic_rbtree.proofs.Closed.{in_parent}
use Rattle.ic_rbtree.proofs.RedPairs.{red_parent, red_below, grown_is}
use Rattle.ic_rbtree.proofs.repair.insertion.insert_fixup.Goals as goal

pub loop-init : goal.loop-init
loop-init g c = record { each = λ k h up few. (k.frames, k.subtree, h, up, few, refl); safe = λ S h i. (h, i); keeps_links = g.met.N.NodeStore.keeps_links_still _ }

pub fix_red_parent-requires : goal.fix_red_parent-requires
fix_red_parent-requires g c = let r = c.requires in let k = c.loop.invariant.safe r.0 r.1 r.2 in (r.0, k.0, k.1)

pub parent-parent-requires : goal.parent-parent-requires
parent-parent-requires g c =
    let r = c.requires in
    let k = c.loop.invariant.safe r.0 r.1 r.2 in
    let e = c.in-Some.ensures.safe r.0 k.0 k.1 in
    record { linked = e.0.linked c.in-Some.upper e.1.0 }

pub loop-preserved : goal.loop-preserved
loop-preserved g c = record {
  each = λ k h up few.
      let i = c.loop.invariant.each k h up few in
      let r = c.in-Some.ensures.fixed (record k { frames = i.0; subtree = i.1 }) i.2 i.3 in
      (r.0, r.1, r.2, red_parent g.N.NodeStore.node r.2 _ c.parent-parent.ensures, omega (arith, i.4, r.3), omega (arith, i.5, r.4, red_below i.0 r.3));
  safe = λ S h i.
      let k = c.loop.invariant.safe S h i in
      let e = c.in-Some.ensures.safe S k.0 k.1 in
      (e.0, (e.1.0, (in_parent g.N.NodeStore.node e.0 c.in-Some.upper e.1.0 c.parent-parent.ensures, tt)));
  keeps_links = g.met.N.NodeStore.keeps_links_on _ _ _ c.loop.invariant.keeps_links c.fix_red_parent.ensures.keeps_links;
}

pub returns-in_default-clause-restored : goal.returns-in_default-clause-restored
returns-in_default-clause-restored g c k h up few =
    let i = c.loop.invariant.each k h up few in
    let r = c.in_default.ensures.fixed (record k { frames = i.0; subtree = i.1 }) i.2 i.3 in
    (r.0, omega (arith, i.5, r.1, grown_is i.0 c.loop.parent c.is_none.result i.3 c.is_none.ensures))

pub returns-in_default-clause-safe : goal.returns-in_default-clause-safe
returns-in_default-clause-safe g c S h i = let k = c.loop.invariant.safe S h i in ((c.fix_red_parent.ensures.safe S k.0 k.1).0, tt)

pub returns-clause-safe : goal.returns-clause-safe
returns-clause-safe g c S h i = ((c.loop.invariant.safe S h i).0, tt)
