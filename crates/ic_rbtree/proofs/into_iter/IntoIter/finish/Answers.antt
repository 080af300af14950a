use Rattle.std.proofs.Common.{[], ◌∷◌, sym, ◌∙◌}
use Rattle.ic_link_ops.proofs.StepLemmas.{releases_append}
use Rattle.ic_rbtree.proofs.RemainingMembers.{finish_starts, finish_more, finish_all, finish_falls}
use Rattle.ic_rbtree.proofs.Members.{nodes_covered}
use Rattle.ic_rbtree.proofs.into_iter.IntoIter.finish.Goals as goal

pub loop-init : goal.loop-init
loop-init g c w shown =
    let k = finish_starts g.L.RBTreeOps.node _ c.args.self.front c.args.self.back w shown in (k.0, rw k.1 (g.met.L.LinkOps.does_nothing _))

pub take_end-requires : goal.take_end-requires
take_end-requires g c =
    let s = c.requires.can_take in
    let k = c.loop.invariant s.0 s.1 in
    record { shown = (k.0.rest, k.0.left) }

pub loop-smaller : goal.loop-smaller
loop-smaller g c =
    let s = c.requires.can_take in
    let k = (c.loop.invariant s.0 s.1).0 in
    let covered = nodes_covered g.L.RBTreeOps.node g.L.LinkOps.table g.met.L.LinkOps.linked_is_covered g.met.L.RBTreeOps.linked_alike in
    finish_falls g.L.RBTreeOps.node k (covered c.loop.links) (covered c.take_end.new.links) c.in-Some.field-0
    (sym c.in-Some.is ∙ c.take_end.ensures.answer k.rest k.left) (c.take_end.ensures.removed k.rest k.left)

pub loop-preserved : goal.loop-preserved
loop-preserved g c w shown =
    let k = c.loop.invariant w shown in
    let more = finish_more g.L.RBTreeOps.node k.0 c.in-Some.field-0 (sym c.in-Some.is ∙ c.take_end.ensures.answer k.0.rest k.0.left)
    (c.take_end.ensures.removed k.0.rest k.0.left) (c.take_end.ensures.frame k.0.rest k.0.left) in
    let steps = g.met.L.LinkOps.does_on _ _ _ _ _ k.1 c.in-Some.ensures.released in
    (more.0, rw (more.1, releases_append k.0.done (c.in-Some.field-0 ∷ [])) steps)

pub returns-clause-released : goal.returns-clause-released
returns-clause-released g c w shown =
    let k = c.loop.invariant w shown in
    rw (c.in_default.ensures.empty.2, ← finish_all g.L.RBTreeOps.node k.0 (sym c.in_default.is ∙ c.take_end.ensures.answer k.0.rest k.0.left)) k.1

pub returns-clause-frame : goal.returns-clause-frame
returns-clause-frame g c w shown =
    let k = c.loop.invariant w shown in rw c.in_default.ensures.empty.2 k.0.frame
