use Rattle.collections_tests.proofs.Ready.{removed_ready}
use Rattle.collections_tests.proofs.tree.summaries.SummedTree.remove.Goals as goal

pub member_at-member-requires : goal.member_at-member-requires
member_at-member-requires g c = let q = c.self.invariant.ready in record { shown = (q.members, q.shown) }

pub invariant_of-self : goal.invariant_of-self
invariant_of-self g c =
    let q = c.self.invariant.ready in
    let e = c.remove.ensures in
    let m = c.member_at-member.ensures.member in
    record { placed = c.self.invariant.placed; ready = removed_ready g.E.TreeHead.kept q e.released (e.frame q.members q.shown).extent m.front m.back m.shown (e.removed m.front m.back m.shown) }
