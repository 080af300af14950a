use Rattle.std.proofs.Common.{rules, ◌∷◌, ◌∙◌, sym}
use Rattle.ic_link_ops.specs.Sequences.{Cut}
use Rattle.collections_tests.specs.Ready.{IsReady}
use Rattle.collections_tests.proofs.Ready.{at_some, if_some, removed_ready}
use Rattle.collections_tests.proofs.tree.summaries.SummedTree.remove_by_cursor.Goals as goal

pub member_at-member-requires : goal.member_at-member-requires
member_at-member-requires g c = let q = c.self.invariant.ready in record { shown = (q.members, q.shown) }

pub invariant_of-self : goal.invariant_of-self
invariant_of-self g c =
    let q = c.self.invariant.ready in
    let m = c.member_at-member.ensures.member in
    let b = c.cursor_mut_from_ptr-cursor.ensures.borrows in
    let at = c.cursor_mut_from_ptr-cursor.ensures.position in
    let i = c.remove.ensures.removed in
    let gap : Cut = record { front = m.front; back = c.member_at-member.result ∷ m.back } in
    let put = at_some c.remove.result (i.answer ∙ at) (i.removed gap (rw (b.2, b.3) m.shown) at) in
    let steps = if_some _ c.remove.result (i.answer ∙ at) i.released in
    let done : IsReady g.E.TreeHead.kept g.L.RBTreeOps.node g.L.LinkOps.table g.M.Summaries.summaries g.M.Summaries.Covers c.remove.new.self.list.now c.remove.new.self.links.now
    = removed_ready g.E.TreeHead.kept q (rw b.3 at steps) (rw b.3 at put.frame.extent) m.front m.back m.shown put.shows in
    record { placed = c.self.invariant.placed; ready = search rules }
