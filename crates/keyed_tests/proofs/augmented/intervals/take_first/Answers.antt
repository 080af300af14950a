use Rattle.std.proofs.Common.{◌≡◌, ◌<◌, ◌∙◌, ◌++◌, ◌∷◌, sym, subst}
use Rattle.ic_link_ops.specs.Prelude.{Place, index_of, Objects, Extent, HasMember}
use Rattle.ic_link_ops.specs.RedBlackTree.{Represents}
use Rattle.ic_link_ops.proofs.RepresentedTrees.{one_sequence}
use Rattle.ic_rbtree.specs.Prelude.{RepresentsSorted, root_of}
use Rattle.ic_rbtree.proofs.SortedKeys.{sorted_less}
use Rattle.ic_augmented.specs.Prelude.{RepresentsConsistent, greatest}
use Rattle.ic_augmented.proofs.AllOverlaps.{first_found}
use Rattle.ic_augmented.proofs.StepLemmas.{removed_right}
use Rattle.keyed_tests.proofs.Intervals.{own, in_order_at}
use Rattle.keyed_tests.proofs.augmented.intervals.take_first.Goals as goal

pub first_overlap-requires : goal.first_overlap-requires
first_overlap-requires g c = let p = c.requires.intervals.sorted.placed in (p.members, p.shown, p.placed)

pub remove-requires : goal.remove-requires
remove-requires g c =
    let q = c.requires.intervals in
    let a = first_found _ q.ready.members c.in_ok-place.place (sym (c.first_overlap.ensures q.ready.members q.ready.shown (in_order_at q.ready.shown.shows q.sorted).1) ∙ c.in_ok-place.was) in
    let same = subst (λ (p : Place). q.ready.members ≡ a.front ++ p ∷ a.back) (sym c.new.ensures) a.same in
    record { member = record { front = a.front; back = a.back; shown = subst (Represents g.L.RBTreeOps.node (g.L.LinkOps.table c.args.summed.now.links) c.args.tree.now.head) same q.ready.shown.shows } }

pub refresh-requires-clause-shown : goal.refresh-requires-clause-shown
refresh-requires-clause-shown g c =
    let q = c.requires.intervals in
    let a = first_found _ q.ready.members c.in_ok-place.place (sym (c.first_overlap.ensures q.ready.members q.ready.shown (in_order_at q.ready.shown.shows q.sorted).1) ∙ c.in_ok-place.was) in
    let same = subst (λ (p : Place). q.ready.members ≡ a.front ++ p ∷ a.back) (sym c.new.ensures) a.same in
    let old = subst (Represents g.L.RBTreeOps.node (g.L.LinkOps.table c.args.summed.now.links) c.args.tree.now.head) same q.ready.shown.shows in
    (_, c.remove.ensures.removed a.front a.back old)

pub returns-clause-intervals : goal.returns-clause-intervals
returns-clause-intervals g c =
    let n = g.L.RBTreeOps.node in
    let q = c.requires.intervals in
    let e = c.remove.ensures in
    let place = c.new.result in
    let before = c.args.summed.now.links in
    let after = c.remove.new.links.links in
    let a = first_found _ q.ready.members c.in_ok-place.place (sym (c.first_overlap.ensures q.ready.members q.ready.shown (in_order_at q.ready.shown.shows q.sorted).1) ∙ c.in_ok-place.was) in
    let same = subst (λ (p : Place). q.ready.members ≡ a.front ++ p ∷ a.back) (sym c.new.ensures) a.same in
    let old = subst (RepresentsConsistent n (greatest c.args.summed.now.summaries) (g.L.LinkOps.table before) c.args.tree.now.head) same q.ready.consistent in
    let d = e.released in
    let right : RepresentsConsistent n (greatest c.remove.new.links.summaries) (g.L.LinkOps.table after) c.remove.new.self.head (a.front ++ a.back)
    = (e.removed a.front a.back old.0, removed_right a.front a.back d old.1) in
    let extent = (e.frame q.ready.members q.ready.shown.shows).extent in
    let member : HasMember (Represents n (g.L.LinkOps.table before) (root_of c.args.tree.now)) place = record { front = a.front; back = a.back; shown = old.0 } in
    let sorted : RepresentsSorted own (Represents n (g.L.LinkOps.table after) (root_of c.remove.new.self)) (g.L.Values.values before) =
    sorted_less own (g.L.Values.values before) (λ s u shown other. one_sequence shown other) member e.removed q.sorted in
    record {
      ready = record {
        members = a.front ++ a.back;
        shown = c.refresh.ensures.summed (a.front ++ a.back) right;
        consistent = c.refresh.ensures.consistent (a.front ++ a.back) right;
        room = λ p covered. c.refresh.ensures.covers p (d.covers p (q.ready.room p (subst (λ (x : Extent). index_of p < x.places) extent (rw c.refresh.ensures.links at covered))));
      };
      sorted = rw c.refresh.ensures.links (subst (λ (o : Objects _). RepresentsSorted own (Represents n (g.L.LinkOps.table after) (root_of c.remove.new.self)) o) (sym (g.met.L.LinkValues.values_stay before after extent)) sorted);
    }

pub returns-clause-extent : goal.returns-clause-extent
returns-clause-extent g c = let q = c.requires.intervals.ready in rw c.refresh.ensures.links (c.remove.ensures.frame q.members q.shown.shows).extent
