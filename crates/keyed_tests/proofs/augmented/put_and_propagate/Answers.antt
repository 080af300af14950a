use Rattle.std.proofs.Common.{◌≡◌, ◌∙◌, ◌++◌, ◌∷◌, true, sym, rules}
use Rattle.ic_augmented.specs.Consistent.{RepresentsConsistent}
use Rattle.ic_augmented.proofs.StepLemmas.{inserted_right}
use Rattle.keyed_tests.proofs.Ready.{on_ok, room_covered, room_linked}
use Rattle.keyed_tests.proofs.augmented.put_and_propagate.Goals as goal

pub insert_keyed-inserted-requires-clause-shown : goal.insert_keyed-inserted-requires-clause-shown
insert_keyed-inserted-requires-clause-shown g c = let q = c.requires.ready in (q.members, q.shown.shows)

pub propagate-requires : goal.propagate-requires
propagate-requires g c =
    let n = g.L.RBTreeOps.node in
    let e = c.insert_keyed-inserted.ensures in
    let q = c.requires.ready in
    let is : c.is_ok.result ≡ true = search rules in
    let ok = sym c.is_ok.ensures.value ∙ is in
    let d = on_ok c.insert_keyed-inserted.result ok e.acquired in
    let x = inserted_right d q.consistent.1 (on_ok c.insert_keyed-inserted.result ok (e.inserted q.members q.consistent.0)) in
    let extent = x.inserted.frame.extent in
    record {
      member = (c.insert_keyed-inserted.new.self.head, record { front = x.gap.front; back = x.gap.back; shown = rw c.place-place.ensures x.inserted.shows.0 });
      covered = λ p is. d.covers p (room_linked n g.L.LinkOps.table g.L.LinkOps.linked g.met.L.RBTreeOps.linked_alike g.met.L.LinkOps.linked_is_covered (g.M.Summaries.Covers c.args.summed.now.summaries) c.args.summed.now.links q.room
          c.insert_keyed-inserted.new.links.links extent p is);
    }

pub returns : goal.returns
returns g c =
    let n = g.L.RBTreeOps.node in
    let e = c.insert_keyed-inserted.ensures in
    let q = c.requires.ready in
    let is : c.is_ok.result ≡ true = search rules in
    let ok = sym c.is_ok.ensures.value ∙ is in
    let d = on_ok c.insert_keyed-inserted.result ok e.acquired in
    let x = inserted_right d q.consistent.1 (on_ok c.insert_keyed-inserted.result ok (e.inserted q.members q.consistent.0)) in
    let extent = x.inserted.frame.extent in
    let place = c.place-place.result in
    let right : RepresentsConsistent n (g.M.Summaries.summaries c.insert_keyed-inserted.new.links.summaries) (g.L.LinkOps.table c.insert_keyed-inserted.new.links.links) c.insert_keyed-inserted.new.self.head (x.gap.front ++ place ∷ x.gap.back)
    = rw c.place-place.ensures x.inserted.shows in
    record {
      ready = record {
        members = x.gap.front ++ place ∷ x.gap.back;
        shown = c.propagate.ensures.summed _ x.gap.front x.gap.back right;
        consistent = c.propagate.ensures.consistent _ x.gap.front x.gap.back right;
        room = λ p covered. c.propagate.ensures.covers p (d.covers p (room_covered n g.L.LinkOps.table g.L.LinkOps.linked g.met.L.RBTreeOps.linked_alike g.met.L.LinkOps.linked_is_covered
            (g.M.Summaries.Covers c.args.summed.now.summaries) c.args.summed.now.links q.room c.insert_keyed-inserted.new.links.links extent p (rw c.propagate.ensures.links at covered)));
      };
      extent = rw c.propagate.ensures.links extent;
    }
