use Rattle.std.proofs.Common.{◌≡◌, ◌<◌, sym, subst, ◌++◌, ◌∷◌}
use Rattle.ic_link_ops.specs.Prelude.{Place, index_of}
use Rattle.ic_link_ops.specs.RedBlackTree.{Represents}
use Rattle.ic_augmented.specs.Prelude.{RepresentsConsistent, counts, room_of}
use Rattle.ic_augmented.proofs.StepLemmas.{removed_right}
use Rattle.keyed_tests.proofs.Positions.{at_position}
use Rattle.keyed_tests.proofs.Ready.{room_covered, room_linked}
use Rattle.keyed_tests.proofs.augmented.take_nth.Goals as goal

pub nth-requires : goal.nth-requires
nth-requires g c = (c.requires.ready.members, c.requires.ready.shown)

pub remove-requires : goal.remove-requires
remove-requires g c =
    let q = c.requires.ready in
    let a = at_position q.members c.args.position (c.in-Some.ensures q.members q.shown) in
    let same = subst (λ (p : Place). q.members ≡ a.front ++ p ∷ a.back) (sym c.new.ensures) a.same in
    record { member = record { front = a.front; back = a.back; shown = subst (Represents g.L.RBTreeOps.node (g.L.LinkOps.table c.args.summed.now.links) c.args.tree.now.head) same q.shown.shows } }

pub refresh-requires : goal.refresh-requires
refresh-requires g c =
    let n = g.L.RBTreeOps.node in
    let q = c.requires.ready in
    let e = c.remove.ensures in
    let a = at_position q.members c.args.position (c.in-Some.ensures q.members q.shown) in
    let same = subst (λ (p : Place). q.members ≡ a.front ++ p ∷ a.back) (sym c.new.ensures) a.same in
    let old = subst (RepresentsConsistent n (counts c.args.summed.now.summaries) (g.L.LinkOps.table c.args.summed.now.links) c.args.tree.now.head) same q.consistent in
    let d = e.released in
    let extent = (e.frame q.members q.shown.shows).extent in
    let right : RepresentsConsistent n (counts c.remove.new.links.summaries) (g.L.LinkOps.table c.remove.new.links.links) c.remove.new.self.head (a.front ++ a.back)
    = (e.removed a.front a.back old.0, removed_right a.front a.back d old.1) in
    record {
      shown = (_, right.0);
      covered = λ p is. d.covers p (room_linked n g.L.LinkOps.table g.L.LinkOps.linked g.met.L.RBTreeOps.linked_alike g.met.L.LinkOps.linked_is_covered (λ p. index_of p < room_of c.args.summed.now.summaries)
          c.args.summed.now.links q.room c.remove.new.links.links extent p is);
    }

pub returns : goal.returns
returns g c =
    let n = g.L.RBTreeOps.node in
    let q = c.requires.ready in
    let e = c.remove.ensures in
    let a = at_position q.members c.args.position (c.in-Some.ensures q.members q.shown) in
    let same = subst (λ (p : Place). q.members ≡ a.front ++ p ∷ a.back) (sym c.new.ensures) a.same in
    let old = subst (RepresentsConsistent n (counts c.args.summed.now.summaries) (g.L.LinkOps.table c.args.summed.now.links) c.args.tree.now.head) same q.consistent in
    let d = e.released in
    let extent = (e.frame q.members q.shown.shows).extent in
    let right : RepresentsConsistent n (counts c.remove.new.links.summaries) (g.L.LinkOps.table c.remove.new.links.links) c.remove.new.self.head (a.front ++ a.back)
    = (e.removed a.front a.back old.0, removed_right a.front a.back d old.1) in
    record {
      ready = record {
        members = a.front ++ a.back;
        shown = c.refresh.ensures.summed (a.front ++ a.back) right;
        consistent = c.refresh.ensures.consistent (a.front ++ a.back) right;
        room = λ p covered. c.refresh.ensures.covers p (d.covers p (room_covered n g.L.LinkOps.table g.L.LinkOps.linked g.met.L.RBTreeOps.linked_alike g.met.L.LinkOps.linked_is_covered
            (λ p. index_of p < room_of c.args.summed.now.summaries) c.args.summed.now.links q.room c.remove.new.links.links extent p (rw c.refresh.ensures.links at covered)));
      };
    }
