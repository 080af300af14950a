use Rattle.std.proofs.Common.{[], ◌∷◌, refl, sym, subst, ◌∙◌, Option, IfSome}
use Rattle.ic_link_ops.specs.Prelude.{Place, releases}
use Rattle.ic_link_ops.proofs.DoublyLists.{neighbors_covered}
use Rattle.ic_link_ops.proofs.Prelude.{releases_fewer, releases_append}
use Rattle.ic_ring.proofs.OtherRings.{others_same, others_then}
use Rattle.ic_ring.proofs.RingWalks.{members_represented}
use Rattle.ic_ring.proofs.Clearance.{clears_none, clears_more, clears_all, none_is}
use Rattle.ic_ring.proofs.ring.Ring.clear.Goals as goal

pub loop-init : goal.loop-init
unfolding clears_none
loop-init g c = record { cleared = λ s shown. (clears_none shown, g.met.L.LinkOps.does_nothing _); others = others_same (c.args.self.now ∷ []) refl }

pub loop-smaller : goal.loop-smaller
loop-smaller g c =
    let was = c.loop.invariant.cleared c.requires.shown.0 c.requires.shown.1 in
    let more = clears_more was.0 (sym c.is_some.ensures ∙ c.if-is_some.true) c.pop_front.ensures.answer c.pop_front.ensures.removed c.pop_front.ensures.frame in
    let covered = neighbors_covered g.L.LinkedListOps.neighbors g.L.LinkOps.table g.met.L.LinkOps.linked_is_covered g.met.L.LinkedListOps.linked_alike in
    releases_fewer (members_represented (g.L.LinkOps.table c.loop.links) (covered c.loop.links) c.args.self.now was.0.rest was.0.shown)
    (members_represented (g.L.LinkOps.table c.pop_front.new.links) (covered c.pop_front.new.links) c.args.self.now more.2.rest more.2.shown) more.3

pub loop-preserved : goal.loop-preserved
loop-preserved g c = record {
  cleared = λ s shown.
      let was = c.loop.invariant.cleared s shown in
      let more = clears_more was.0 (sym c.is_some.ensures ∙ c.if-is_some.true) c.pop_front.ensures.answer c.pop_front.ensures.removed c.pop_front.ensures.frame in
      let released = subst (λ (r : Option Place). IfSome r (λ object. g.L.LinkOps.Trace c.loop.links c.pop_front.new.links (releases object ∷ []))) more.1 c.pop_front.ensures.released in
      (more.2, rw (more.4, releases_append was.0.done (more.0 ∷ [])) (g.met.L.LinkOps.does_on _ _ _ _ _ was.1 released));
  others = others_then c.loop.invariant.others c.pop_front.ensures.others;
}

pub returns-clause-released : goal.returns-clause-released
returns-clause-released g c s shown =
    let was = c.loop.invariant.cleared s shown in
    let none = none_is c.pop_front.result (sym c.is_some.ensures ∙ c.if-is_some.false) in
    let same = rw none at c.pop_front.ensures.empty in
    rw same (rw (clears_all was.0 none c.pop_front.ensures.answer) at was.1)
