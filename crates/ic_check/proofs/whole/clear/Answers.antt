use Rattle.std.proofs.Common.{false, ◌∙◌, arith, length-set}
use Rattle.ic_unsafe_ref.specs.Places.{index_of}
use Rattle.ic_check.proofs.Marking.{cleared_more, cleared_all, none_marked}
use Rattle.ic_check.proofs.whole.clear.Goals as goal

pub loop-index-preserved : goal.loop-index-preserved
loop-index-preserved c =
    let k = c.loop-index.invariant in
    record {
      long = length-set c.loop-index.marks c.loop-index.index false ∙ k.long;
      cleared = cleared_more c.loop-index.marks c.loop-index.index (omega (arith, c.loop-index-test.true, k.long)) k.cleared;
    }

pub returns-clause-cleared : goal.returns-clause-cleared
returns-clause-cleared c p =
    let k = c.loop-index.invariant in
    cleared_all c.loop-index.marks c.loop-index.index (omega (arith, c.loop-index-test.false, k.long)) k.cleared (index_of p)

pub returns-clause-none : goal.returns-clause-none
returns-clause-none c =
    let k = c.loop-index.invariant in
    none_marked c.loop-index.marks (cleared_all c.loop-index.marks c.loop-index.index (omega (arith, c.loop-index-test.false, k.long)) k.cleared)
