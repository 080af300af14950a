use Rattle.std.proofs.Common.{◌≡◌, ◌<◌, ◌∙◌, true, sym, subst, rules}
use Rattle.ic_link_ops.specs.Prelude.{index_of, Objects, insert, Extent, IsCovered}
use Rattle.ic_link_ops.specs.RedBlackTree.{Represents}
use Rattle.ic_rbtree.specs.Prelude.{RepresentsSorted, root_of}
use Rattle.ic_rbtree.proofs.SortedKeys.{sorted_inserted}
use Rattle.ic_augmented.specs.Prelude.{RepresentsConsistent, greatest}
use Rattle.ic_augmented.proofs.PooledTrees.{inserts_represented, inserts_consistent, consistent_in}
use Rattle.keyed_tests.proofs.Intervals.{own}
use Rattle.keyed_tests.proofs.Ready.{on_ok, on_ok_map, if_err_map}
use Rattle.keyed_tests.proofs.augmented.intervals.put.Goals as goal

pub set_value-requires : goal.set_value-requires
set_value-requires g c = record { covered = rw c.place.ensures (c.requires.intervals.ready.room c.args.interval c.requires.covered) }

pub insert_fresh-inserted-requires : goal.insert_fresh-inserted-requires
insert_fresh-inserted-requires g c =
    let q = c.requires.intervals.ready in
    let e = c.set_value.ensures in
    record {
      covered = rw e.links c.requires.covered;
      shown = (q.members, rw e.links q.shown.shows);
      room = λ p is. e.covers p (q.room p (rw e.links at is));
    }

pub returns-clause-intervals : goal.returns-clause-intervals
returns-clause-intervals g c =
    let n = g.L.RBTreeOps.node in
    let q = c.requires.intervals in
    let e = c.set_value.ensures in
    let f = c.insert_fresh-inserted.ensures in
    let now = c.set_value.new.summed.links in
    let after = c.insert_fresh-inserted.new.summed.links in
    let m = q.sorted.placed.members in
    let is : c.is_ok.result ≡ true = search rules in
    let ok = sym c.is_ok.ensures.value ∙ is in
    let before : RepresentsConsistent n (greatest c.set_value.new.summed.summaries) (g.L.LinkOps.table now) c.args.tree.now.head m
    = (rw e.links q.sorted.placed.shown, e.consistent m (consistent_in n m q.ready.consistent q.sorted.placed.shown)) in
    let fresh = on_ok c.insert_fresh-inserted.result ok (f.inserted m before) in
    let all = fresh.inserted.shows in
    let covered : IsCovered (g.L.LinkOps.table now) c.args.interval = rw e.links c.requires.covered in
    let sorted : RepresentsSorted own (Represents n (g.L.LinkOps.table now) (root_of c.args.tree.now)) (g.L.Values.values now) =
    record { placed = record { members = m; shown = rw e.links q.sorted.placed.shown; placed = rw e.links q.sorted.placed.placed }; sorted = rw e.links q.sorted.sorted } in
    record {
      ready = record {
        members = insert fresh.gap c.args.interval;
        shown = all.summed;
        consistent = (all.summed.shows, consistent_in n _ all.consistent all.summed.shows);
        room = λ p covered. f.beside.covers p (e.covers p (q.ready.room p (rw e.links at (subst (λ (x : Extent). index_of p < x.places) f.beside.extent covered))));
      };
      sorted = subst (λ (o : Objects _). RepresentsSorted own (Represents n (g.L.LinkOps.table after) (root_of c.insert_fresh-inserted.new.tree)) o) (sym (g.met.L.LinkValues.values_stay _ _ f.beside.extent))
          (sorted_inserted own (g.L.Values.values now) g.met.L.LinkOps.refused_keeps c.args.tree.now c.insert_fresh-inserted.new.tree c.args.interval (g.met.L.LinkValues.covered_has_value _ _ covered) sorted
          c.insert_fresh-inserted.result (on_ok_map (λ i. inserts_represented n (inserts_consistent n i)) c.insert_fresh-inserted.result (f.inserted m before)) f.refused (if_err_map (λ y same. (same.0, same.1)) c.insert_fresh-inserted.result f.unchanged));
    }
