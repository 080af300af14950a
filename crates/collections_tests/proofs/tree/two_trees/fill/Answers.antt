use Rattle.std.proofs.Common.{◌≡◌, ◌∙◌, true, sym, arith, rules}
use Rattle.ic_augmented.proofs.EditLemmas.{still_consistent}
use Rattle.collections_tests.proofs.Ready.{on_ok}
use Rattle.collections_tests.proofs.TwoTrees.{filled_more, filled_on}
use Rattle.collections_tests.proofs.tree.two_trees.fill.Goals as goal

pub loop-index-init : goal.loop-index-init
loop-index-init g c = record { low = omega arith; filled = c.requires.none }

pub insert_fresh-put-requires-clause-covered : goal.insert_fresh-put-requires-clause-covered
insert_fresh-put-requires-clause-covered g c = rw c.loop-index.invariant.filled.covers (omega (arith, c.reference-next.ensures, c.loop-index-test.true, c.requires.few))

pub insert_fresh-put-requires-clause-shown : goal.insert_fresh-put-requires-clause-shown
insert_fresh-put-requires-clause-shown g c = let f = c.loop-index.invariant.filled in (f.members, f.shown.shows)

pub insert_fresh-put-requires-clause-room : goal.insert_fresh-put-requires-clause-room
insert_fresh-put-requires-clause-room g c = c.loop-index.invariant.filled.room

pub loop-index-preserved : goal.loop-index-preserved
loop-index-preserved g c =
    let f = c.loop-index.invariant.filled in
    let e = c.insert_fresh-put.ensures in
    let is : c.is_ok.result ≡ true = search rules in
    let put = on_ok c.insert_fresh-put.result (sym c.is_ok.ensures.value ∙ is) (e.inserted f.members (still_consistent g.L.RBTreeOps.node _ _ _ f.members f.shown)) in
    record {
      low = omega (arith, c.loop-index-test.true);
      filled = filled_more f {new = c.insert_fresh-put.new.summed} c.reference-next.ensures put e.beside.extent e.beside.covers e.beside.same;
    }

pub returns : goal.returns
returns g c = let l = c.loop-index.invariant in record { filled = filled_on l.low l.filled }
