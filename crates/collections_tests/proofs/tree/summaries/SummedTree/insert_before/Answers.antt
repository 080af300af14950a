use Rattle.std.proofs.Common.{◌≡◌, ◌∙◌, ◌∷◌, true, sym, rules}
use Rattle.ic_link_ops.specs.Sequences.{Cut}
use Rattle.collections_tests.specs.Ready.{IsReady}
use Rattle.collections_tests.proofs.Ready.{on_ok, inserted_ready}
use Rattle.collections_tests.proofs.tree.summaries.SummedTree.insert_before.Goals as goal

pub member_at-member-requires : goal.member_at-member-requires
member_at-member-requires g c = let q = c.self.invariant.ready in record { shown = (q.members, q.shown) }

pub insert_before-inserted-requires-clause-covered : goal.insert_before-inserted-requires-clause-covered
insert_before-inserted-requires-clause-covered g c = rw (c.cursor_mut_from_ptr-cursor.ensures.borrows.3, c.self.invariant.ready.covers) c.eighth-object.ensures

pub invariant_of-self : goal.invariant_of-self
invariant_of-self g c =
    let q = c.self.invariant.ready in
    let m = c.member_at-member.ensures.member in
    let b = c.cursor_mut_from_ptr-cursor.ensures.borrows in
    let i = c.insert_before-inserted.ensures.inserted in
    let is : c.is_ok.result ≡ true = search rules in
    let ok = sym c.is_ok.ensures.value ∙ is in
    let gap : Cut = record { front = m.front; back = c.member_at-member.result ∷ m.back } in
    let put = on_ok c.insert_before-inserted.result ok (i.inserted gap (rw (b.2, b.3) m.shown) c.cursor_mut_from_ptr-cursor.ensures.position) in
    let done : IsReady g.E.TreeHead.kept g.L.RBTreeOps.node g.L.LinkOps.table g.M.Summaries.summaries g.M.Summaries.Covers c.insert_before-inserted.new.self.list.now c.insert_before-inserted.new.self.links.now
    = inserted_ready g.E.TreeHead.kept q (rw b.3 at (on_ok c.insert_before-inserted.result ok i.acquired)) gap m.shown (rw b.3 at put) in
    record { placed = c.self.invariant.placed; ready = search rules }
