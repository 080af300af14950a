use Rattle.std.proofs.Common.{rules, [], ◌++◌, ap, sym, subst, ◌∙◌}
use Rattle.ic_link_ops.specs.Sequences.{IsAbsent, join, splice}
use Rattle.ic_link_ops.proofs.SequenceLemmas.{absent_both, absent_right}
use Rattle.ic_ring.specs.Rings.{Represents}
use Rattle.structure_tests.specs.TwoRings.{TwoRings}
use Rattle.structure_tests.proofs.Rings.{places_of, kept_by, gap_before, both_represented}
use Rattle.structure_tests.proofs.ring.calls.call_by_cursor.Goals as goal
use Rattle.structure_tests.proofs.ring.calls.call_by_cursor.Goals.{in-FirstSpliceAfter, in-LastSpliceBefore, in-FirstSplitAfter}

pub returns-in-FirstInsertAfter : goal.returns-in-FirstInsertAfter
returns-in-FirstInsertAfter g c =
    let k = c.cursor_mut_at-cursor.ensures in
    let m = c.move_next.ensures in
    let e = c.insert_after.ensures in
    let head = m.same.0 ∙ k.head in
    let done : TwoRings g.L.LinkedListOps.neighbors (g.L.LinkOps.table c.insert_after.new.self.links.now) c.args.ring.now c.args.other.now =
    kept_by g.L.LinkedListOps.neighbors (g.L.LinkOps.table c.move_next.new.self.links.now) _ (join e.kept.stands.0) head (e.kept.same.0 ∙ head)
    (subst (λ l. TwoRings g.L.LinkedListOps.neighbors (g.L.LinkOps.table l) c.args.ring.now c.args.other.now) (sym (m.links ∙ k.borrows.1)) c.requires.two) (e.kept.frame _ m.stands.1).extent e.kept.stands.1 e.kept.others in
    record { two = search (rules, done) }

pub returns-in-LastInsertBefore : goal.returns-in-LastInsertBefore
returns-in-LastInsertBefore g c =
    let k = c.cursor_mut_at-cursor.ensures in
    let m = c.move_prev.ensures in
    let e = c.insert_before.ensures in
    let head = m.same.0 ∙ k.head in
    let done : TwoRings g.L.LinkedListOps.neighbors (g.L.LinkOps.table c.insert_before.new.self.links.now) c.args.ring.now c.args.other.now =
    kept_by g.L.LinkedListOps.neighbors (g.L.LinkOps.table c.move_prev.new.self.links.now) _ (join e.kept.stands.0) head (e.kept.same.0 ∙ head)
    (subst (λ l. TwoRings g.L.LinkedListOps.neighbors (g.L.LinkOps.table l) c.args.ring.now c.args.other.now) (sym (m.links ∙ k.borrows.1)) c.requires.two) (e.kept.frame _ m.stands.1).extent e.kept.stands.1 e.kept.others in
    record { two = search (rules, done) }

pub returns-in-FirstRemove : goal.returns-in-FirstRemove
returns-in-FirstRemove g c =
    let k = c.cursor_mut_at-cursor.ensures in
    let m = c.move_next-in-FirstRemove.ensures in
    let e = c.remove.ensures in
    let head = m.same.0 ∙ k.head in
    let done : TwoRings g.L.LinkedListOps.neighbors (g.L.LinkOps.table c.remove.new.self.links.now) c.args.ring.now c.args.other.now =
    kept_by g.L.LinkedListOps.neighbors (g.L.LinkOps.table c.move_next-in-FirstRemove.new.self.links.now) _ (join e.kept.stands.0) head (e.kept.same.0 ∙ head)
    (subst (λ l. TwoRings g.L.LinkedListOps.neighbors (g.L.LinkOps.table l) c.args.ring.now c.args.other.now) (sym (m.links ∙ k.borrows.1)) c.requires.two) (e.kept.frame _ m.stands.1).extent e.kept.stands.1 e.kept.others in
    record { two = search (rules, done) }

pub returns-in-LastReplaceWith : goal.returns-in-LastReplaceWith
returns-in-LastReplaceWith g c =
    let k = c.cursor_mut_at-cursor.ensures in
    let m = c.move_prev-in-LastReplaceWith.ensures in
    let e = c.replace_with.ensures in
    let head = m.same.0 ∙ k.head in
    let done : TwoRings g.L.LinkedListOps.neighbors (g.L.LinkOps.table c.replace_with.new.self.links.now) c.args.ring.now c.args.other.now =
    kept_by g.L.LinkedListOps.neighbors (g.L.LinkOps.table c.move_prev-in-LastReplaceWith.new.self.links.now) _ (join e.kept.stands.0) head (e.kept.same.0 ∙ head)
    (subst (λ l. TwoRings g.L.LinkedListOps.neighbors (g.L.LinkOps.table l) c.args.ring.now c.args.other.now) (sym (m.links ∙ k.borrows.1)) c.requires.two) (e.kept.frame _ m.stands.1).extent e.kept.stands.1 e.kept.others in
    record { two = search (rules, done) }

pub returns : goal.returns
returns g c =
    let two = c.requires.two in
    let a = two.apart in
    let k = c.cursor_mut_at-cursor.ensures in
    let done : TwoRings g.L.LinkedListOps.neighbors (g.L.LinkOps.table c.match-call.cursor.links.now) c.args.ring.now c.args.other.now = elim c.match-call.branch [
      | in-FirstSpliceAfter w ↦
          let m = w.move_next-in-FirstSpliceAfter.ensures in
          let e = w.splice_after.ensures in
          let same = m.links ∙ k.borrows.1 in
          let head = m.same.0 ∙ k.head in
          let other : Represents g.L.LinkedListOps.neighbors (g.L.LinkOps.table w.move_next-in-FirstSpliceAfter.new.self.links.now) c.args.other.now a.0 = subst (λ l. Represents g.L.LinkedListOps.neighbors (g.L.LinkOps.table l) c.args.other.now a.0) (sym same) a.1 in
          let parts = e.spliced m.stands.0 a.0 m.stands.1 m.stands.2 other in
          rw w.cursor-is (both_represented g.L.LinkedListOps.neighbors (g.L.LinkOps.table w.splice_after.new.self.links.now) (splice m.stands.0 a.0) ([]) (e.same.0 ∙ head)
          (places_of ((e.frame a.0 other _ m.stands.1).extent ∙ ap (λ l. (g.L.LinkOps.table l).extent) same) two.covers) parts.0 parts.1 (a.2.0, tt))
      | in-LastSpliceBefore w ↦
          let m = w.move_prev-in-LastSpliceBefore.ensures in
          let e = w.splice_before.ensures in
          let same = m.links ∙ k.borrows.1 in
          let head = m.same.0 ∙ k.head in
          let other : Represents g.L.LinkedListOps.neighbors (g.L.LinkOps.table w.move_prev-in-LastSpliceBefore.new.self.links.now) c.args.other.now a.0 = subst (λ l. Represents g.L.LinkedListOps.neighbors (g.L.LinkOps.table l) c.args.other.now a.0) (sym same) a.1 in
          let gap = gap_before w.move_prev-in-LastSpliceBefore.new.self.head m.stands.0.front m.stands.0.back m.stands.2 in
          let parts = e.spliced gap.0 a.0 (subst (Represents g.L.LinkedListOps.neighbors (g.L.LinkOps.table w.move_prev-in-LastSpliceBefore.new.self.links.now) w.move_prev-in-LastSpliceBefore.new.self.head) (sym gap.1) m.stands.1) gap.2 other in
          rw w.cursor-is (both_represented g.L.LinkedListOps.neighbors (g.L.LinkOps.table w.splice_before.new.self.links.now) (splice gap.0 a.0) ([]) (e.same.0 ∙ head)
          (places_of ((e.frame a.0 other _ m.stands.1).extent ∙ ap (λ l. (g.L.LinkOps.table l).extent) same) two.covers) parts.0 parts.1 (a.2.0, tt))
      | in-FirstSplitAfter w ↦
          let m = w.move_next-in-FirstSplitAfter.ensures in
          let e = w.split_after.ensures in
          let same = m.links ∙ k.borrows.1 in
          let head = m.same.0 ∙ k.head in
          let other : Represents g.L.LinkedListOps.neighbors (g.L.LinkOps.table w.move_next-in-FirstSplitAfter.new.self.links.now) c.args.other.now a.0 = subst (λ l. Represents g.L.LinkedListOps.neighbors (g.L.LinkOps.table l) c.args.other.now a.0) (sym same) a.1 in
          let parts = e.split m.stands.0 a.0 m.stands.1 m.stands.2 other in
          rw w.cursor-is (both_represented g.L.LinkedListOps.neighbors (g.L.LinkOps.table w.split_after.new.self.links.now) (m.stands.0.front) (m.stands.0.back ++ a.0) (e.same.0 ∙ head)
          (places_of ((e.frame a.0 other _ m.stands.1).extent ∙ ap (λ l. (g.L.LinkOps.table l).extent) same) two.covers) parts.0 parts.1 (a.2.0, absent_both c.args.ring.now m.stands.0.back a.0 (subst (λ h. IsAbsent h m.stands.0.back) head (absent_right _ m.stands.0.front m.stands.0.back m.stands.1.distinct.0)) a.2.1))
    ] in
    record { two = search (rules, done) }
