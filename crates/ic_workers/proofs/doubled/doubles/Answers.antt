use Rattle.std.proofs.Common.{arith}
use Rattle.ic_workers.specs.SharedOut.{places_in}
use Rattle.ic_workers.proofs.Searching.{found_one, found_none}
use Rattle.ic_workers.proofs.doubled.doubles.Goals as goal
use Rattle.ic_workers.proofs.doubled.doubles.Goals.{then-lists_with-gt1, else-lists_with-gt1}

pub loop-index-preserved : goal.loop-index-preserved
loop-index-preserved g c =
    let was = c.loop-index.invariant in
    let ls = places_in c.args.lists.now in
    elim c.if-lists_with-gt1.branch [
      | then-lists_with-gt1 w ↦
          let one = found_one c.loop-index.index ls (let t = w.if-lists_with-gt1.true in omega (arith, t, c.lists_with.ensures)) in
          record { counted = omega (arith, w.found-is, was.counted, one); few = omega (arith, w.found-is, was.few) }
      | else-lists_with-gt1 w ↦
          let none = found_none c.loop-index.index ls (let t = w.if-lists_with-gt1.false in omega (arith, t, c.lists_with.ensures)) in
          record { counted = omega (arith, w.found-is, was.counted, none); few = omega (arith, w.found-is, was.few) }
    ]
