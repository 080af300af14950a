use Rattle.std.proofs.Common.{rules, Some, [], ◌∷◌, sym, ap, ◌∙◌}
use Rattle.ic_link_ops.specs.Prelude.{object_at}
use Rattle.ic_link_ops.proofs.SequenceLemmas.{some_same}
use Rattle.ic_ring.specs.Rings.{Represents}
use Rattle.structure_tests.proofs.Rings.{on_first, holds_there}
use Rattle.structure_tests.proofs.ring.connections.close_first.Goals as goal

pub returns-clause-closed : goal.returns-clause-closed
returns-clause-closed g c one s shown =
    let k = c.cursor_mut-cursor.ensures in
    let m = c.move_next.ensures in
    let e = c.remove-closed.ensures in
    let on = m.moved (record { front = []; back = one ∷ s }) (rw (k.borrows.1, k.head) shown) (ap Some (k.at ∙ sym k.head)) in
    let closed = on_first c.args.queue.now _ (m.same.0 ∙ k.head) (one ∷ s) c.remove-closed.result e.answer on shown.distinct.0 in
    let left = holds_there c.remove-closed.result closed (e.removed (record { front = []; back = one ∷ s }) (rw (m.links, k.borrows.1, m.same.0, k.head) shown) on) in
    let next = rw (m.same.0, k.head) at (e.moved (record { front = []; back = one ∷ s }) (rw (m.links, k.borrows.1, m.same.0, k.head) shown) on) in
    let done : Represents g.L.LinkedListOps.neighbors (g.L.LinkOps.table c.remove-closed.new.self.links.now) c.args.queue.now s = rw (e.kept.same.0, m.same.0, k.head) at left in
    (closed, search (rules, done), on_first c.args.queue.now _ (e.kept.same.0 ∙ m.same.0 ∙ k.head) s c.get_ptr.result c.get_ptr.ensures next shown.distinct.0.1)

pub returns-clause-number : goal.returns-clause-number
returns-clause-number g c one next s shown =
    let k = c.cursor_mut-cursor.ensures in
    let m = c.move_next.ensures in
    let e = c.remove-closed.ensures in
    let on = m.moved (record { front = []; back = one ∷ next ∷ s }) (rw (k.borrows.1, k.head) shown) (ap Some (k.at ∙ sym k.head)) in
    let is_next = some_same (e.moved (record { front = []; back = one ∷ next ∷ s }) (rw (m.links, k.borrows.1, m.same.0, k.head) shown) on) in
    let found = c.get.ensures.on (λ h. shown.distinct.0.1.0 (sym (e.kept.same.0 ∙ m.same.0 ∙ k.head) ∙ sym h ∙ is_next)) in
    c.copied.ensures ∙ found ∙ ap (object_at c.args.objects.now) is_next
