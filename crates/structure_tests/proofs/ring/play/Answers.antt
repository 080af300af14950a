use Rattle.std.proofs.Common.{[], sym}
use Rattle.structure_tests.proofs.ring.play.Goals as goal

pub loop-rows-init : goal.loop-rows-init
loop-rows-init g c =
    let q = c.opened-ring.ensures.ring in
    let kept = c.opened-other.ensures.others _ q.1 in record {
      placed = c.requires.placed;
      two = record { covers = c.opened-other.ensures.covers; shown = (q.0, kept.0); apart = ([], c.opened-other.ensures.shown, ((λ e. kept.1.0 (sym e)), tt)) };
    }
