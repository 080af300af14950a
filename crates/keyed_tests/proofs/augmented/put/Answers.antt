use Rattle.std.proofs.Common.{sym, ◌∙◌}
use Rattle.keyed_tests.proofs.Ready.{after_insert, room_covered, room_linked}
use Rattle.keyed_tests.proofs.augmented.put.Goals as goal

pub insert_keyed-requires-clause-shown : goal.insert_keyed-requires-clause-shown
insert_keyed-requires-clause-shown g c = let q = c.requires.ready in (q.members, q.shown.shows)

pub refresh-requires : goal.refresh-requires
refresh-requires g c =
    let n = g.L.RBTreeOps.node in
    let e = c.insert_keyed.ensures in
    let q = c.requires.ready in
    let x = after_insert g.L.LinkOps.Trace g.L.RBTreeOps.node g.L.LinkOps.table g.M.Summaries.summaries g.M.Summaries.Covers g.L.LinkOps.Refused g.met.L.LinkOps.refused_keeps c.args.summed.now c.insert_keyed.new.links
    c.args.tree.now c.insert_keyed.new.self c.args.object _ _ c.insert_keyed.result q.members q.consistent (e.inserted q.members q.consistent.0) e.acquired e.refused e.unchanged in
    record {
      shown = (x.members, x.right.0);
      covered = λ p is. x.covers p (room_linked n g.L.LinkOps.table g.L.LinkOps.linked g.met.L.RBTreeOps.linked_alike g.met.L.LinkOps.linked_is_covered (g.M.Summaries.Covers c.args.summed.now.summaries) c.args.summed.now.links q.room
          c.insert_keyed.new.links.links x.extent p is);
    }

pub returns : goal.returns
returns g c =
    let n = g.L.RBTreeOps.node in
    let e = c.insert_keyed.ensures in
    let q = c.requires.ready in
    let x = after_insert g.L.LinkOps.Trace g.L.RBTreeOps.node g.L.LinkOps.table g.M.Summaries.summaries g.M.Summaries.Covers g.L.LinkOps.Refused g.met.L.LinkOps.refused_keeps c.args.summed.now c.insert_keyed.new.links
    c.args.tree.now c.insert_keyed.new.self c.args.object _ _ c.insert_keyed.result q.members q.consistent (e.inserted q.members q.consistent.0) e.acquired e.refused e.unchanged in
    record {
      ready = record {
        members = x.members;
        shown = c.refresh.ensures.summed x.members x.right;
        consistent = c.refresh.ensures.consistent x.members x.right;
        room = λ p covered. c.refresh.ensures.covers p (x.covers p (room_covered n g.L.LinkOps.table g.L.LinkOps.linked g.met.L.RBTreeOps.linked_alike g.met.L.LinkOps.linked_is_covered
            (g.M.Summaries.Covers c.args.summed.now.summaries) c.args.summed.now.links q.room c.insert_keyed.new.links.links x.extent p (rw c.refresh.ensures.links at covered)));
      };
      extent = rw c.refresh.ensures.links x.extent;
    }
