use Rattle.std.proofs.Common.{rules, ◌∙◌}
use Rattle.scheduler.proofs.Ticking.{none_moved, moved_one, moved_few, all_moved}
use Rattle.scheduler.proofs.due.move_due.Goals as goal

pub loop-moved-init : goal.loop-moved-init
loop-moved-init g c =
    let b = c.front_mut-cursor.ensures.borrows in
    record {
      borrows = search rules;
      kept = rw (b.2, b.3) c.requires.kept;
      first_is = rw (b.2, b.3) c.front_mut-cursor.ensures.position;
      moved = rw (b.2, b.3) (none_moved _ _);
      few = search rules;
    }

pub loop-moved-preserved : goal.loop-moved-preserved
loop-moved-preserved g c =
    let k = c.loop-moved.invariant in
    let e = c.loop-moved-test.ensures in
    record {
      borrows = (e.borrows.0 ∙ k.borrows.0, e.borrows.1 ∙ k.borrows.1);
      kept = e.kept;
      first_is = e.front;
      moved = moved_one k.moved e.moved;
      few = λ some. moved_few k.moved 8589934591 k.few e.few;
    }

pub returns-clause-ticks : goal.returns-clause-ticks
returns-clause-ticks g c = let ticks = all_moved c.loop-moved.invariant.moved c.loop-moved-test.ensures.unchanged c.loop-moved-test.ensures.none_due in search rules
