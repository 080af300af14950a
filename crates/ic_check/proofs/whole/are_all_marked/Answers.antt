use Rattle.ic_check.proofs.Marking.{marked_more}
use Rattle.ic_check.proofs.whole.are_all_marked.Goals as goal

pub loop-index-preserved : goal.loop-index-preserved
loop-index-preserved g c = record {
  marked = marked_more g.L.LinkOps.linked (g.L.LinkOps.table c.args.links.now) c.args.marks.now c.loop-index.invariant.marked
      (λ missed. let met = c.is_missed.ensures.1 missed in cc met);
}
