use Rattle.std.proofs.Common.{◌≡◌, ◌∙◌, ◌∷◌, true, sym, rules}
use Rattle.ic_link_ops.specs.Sequences.{Cut}
use Rattle.collections_tests.specs.Ready.{IsReady}
use Rattle.collections_tests.proofs.Ready.{on_ok, if_ok, replaced_ready}
use Rattle.collections_tests.proofs.tree.summaries.SummedTree.replace.Goals as goal

pub member_at-member-requires : goal.member_at-member-requires
member_at-member-requires g c = let q = c.self.invariant.ready in record { shown = (q.members, q.shown) }

pub replace_with-replaced-requires-clause-covered : goal.replace_with-replaced-requires-clause-covered
replace_with-replaced-requires-clause-covered g c = rw (c.cursor_mut_from_ptr-cursor.ensures.borrows.3, c.self.invariant.ready.covers) c.eighth-object.ensures

pub invariant_of-self : goal.invariant_of-self
invariant_of-self g c =
    let q = c.self.invariant.ready in
    let m = c.member_at-member.ensures.member in
    let b = c.cursor_mut_from_ptr-cursor.ensures.borrows in
    let at = c.cursor_mut_from_ptr-cursor.ensures.position in
    let i = c.replace_with-replaced.ensures.replaced in
    let is : c.is_ok.result ≡ true = search rules in
    let ok = sym c.is_ok.ensures.value ∙ is in
    let gap : Cut = record { front = m.front; back = c.member_at-member.result ∷ m.back } in
    let put = on_ok c.replace_with-replaced.result ok (i.replaced gap (rw (b.2, b.3) m.shown) at) in
    let steps = if_ok _ c.replace_with-replaced.result ok i.answer at i.exchanged in
    let done : IsReady g.E.TreeHead.kept g.L.RBTreeOps.node g.L.LinkOps.table g.M.Summaries.summaries g.M.Summaries.Covers c.replace_with-replaced.new.self.list.now c.replace_with-replaced.new.self.links.now
    = replaced_ready g.E.TreeHead.kept q (rw b.3 at steps) (rw b.3 at put.frame.extent) m.front m.back m.shown put.shows in
    record { placed = c.self.invariant.placed; ready = search rules }
