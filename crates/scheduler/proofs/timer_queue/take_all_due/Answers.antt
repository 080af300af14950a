use Rattle.std.proofs.Common.{rules, ◌∙◌, refl, sym, ap, arith, List, ◌++◌, append-nil}
use Rattle.ic_unsafe_ref.specs.declared.place.Place.{Place}
use Rattle.scheduler.specs.Timers.{handed_back}
use Rattle.scheduler.proofs.Outcomes.{room_refused}
use Rattle.scheduler.proofs.TimersDue.{takes_none, takes_one, fewer}
use Rattle.scheduler.proofs.timer_queue.take_all_due.Goals as goal

pub loop-timer-init : goal.loop-timer-init
loop-timer-init g c =
    let e = c.front_mut-cursor.ensures in
    record {
      borrows = (refl, refl);
      front = record { queue = rw (e.borrows.3, e.borrows.2) c.requires.queue; first_is = λ s shown. e.position s (rw (e.borrows.3, e.borrows.2) at shown) };
      takes = λ s shown. rw (e.borrows.3, e.borrows.2) (takes_none (g.met.L.LinkOps.does_nothing _) shown);
      room = omega arith;
    }

pub loop-timer-smaller : goal.loop-timer-smaller
loop-timer-smaller g c =
    let p = c.requires.queue.placed in
    let k = c.loop-timer.invariant.takes p.members p.shown in
    let e = c.in-Some.ensures in
    fewer k (e.due k.rest k.shown) (λ l q h. g.met.L.LinkOps.linked_is_covered l q (sym (g.met.L.RBTreeOps.linked_alike _) ∙ h)) (e.taken k.rest k.shown)

pub loop-timer-preserved : goal.loop-timer-preserved
loop-timer-preserved g c =
    let i = c.loop-timer.invariant in
    let e = c.in-Some.ensures in
    record {
      borrows = (e.borrows.0 ∙ i.borrows.0, e.borrows.1 ∙ i.borrows.1);
      front = c.take_due_at.ensures.front;
      takes = λ s shown. let k = i.takes s shown in
          takes_one k (e.due k.rest k.shown) g.met.L.LinkOps.does_on {new_held = c.push.new.self.items} c.in_ok-push.ensures.items (e.taken k.rest k.shown) e.released;
      room = omega (arith, i.room, c.push.ensures.capacity);
    }

pub returns-in_err-push-clause-taken : goal.returns-in_err-push-clause-taken
returns-in_err-push-clause-taken g c s shown =
    let k = c.loop-timer.invariant.takes s shown in
    let e = c.in-Some.ensures in
    let t = takes_one k (e.due k.rest k.shown) g.met.L.LinkOps.does_on refl (e.taken k.rest k.shown) e.released in
    let back = room_refused c.from_residual.result c.from_residual.ensures.1 c.in_err-push.ensures.value_returned in
    let held = ap (λ (x : List Place). x ++ handed_back c.from_residual.result) c.in_err-push.ensures.items ∙ ap (λ (x : List Place). c.loop-timer.due.items ++ x) back ∙ t.held_is in
    let left = t.shown in
    let steps = t.steps in
    (t.taken, t.rest, t.stood, held, search rules, search rules)

pub returns-in_err-push-clause-frame : goal.returns-in_err-push-clause-frame
returns-in_err-push-clause-frame g c s shown =
    let k = c.loop-timer.invariant.takes s shown in
    let e = c.in-Some.ensures in
    let kept = (takes_one k (e.due k.rest k.shown) g.met.L.LinkOps.does_on refl (e.taken k.rest k.shown) e.released).frame in
    search rules

pub returns-clause-taken : goal.returns-clause-taken
returns-clause-taken g c s shown =
    let k = c.loop-timer.invariant.takes s shown in
    let e = c.in_default.ensures.unchanged in
    let left = rw (← e.0, ← e.1) at k.shown in
    let steps = rw (← e.1) at k.steps in
    (k.taken, k.rest, k.stood, append-nil c.loop-timer.due.items ∙ k.held_is, search rules, search rules)

pub returns-clause-frame : goal.returns-clause-frame
returns-clause-frame g c s shown =
    let kept = rw (← c.in_default.ensures.unchanged.1) at (c.loop-timer.invariant.takes s shown).frame in
    search rules

pub returns-in_err-push-clause-queue : goal.returns-in_err-push-clause-queue
returns-in_err-push-clause-queue g c =
    let q = c.take_due_at.ensures.front.queue in
    let shown = q.placed.shown in
    record { placed = record { members = q.placed.members; shown = search rules; placed = q.placed.placed }; sorted = q.sorted }

pub returns-clause-queue : goal.returns-clause-queue
returns-clause-queue g c =
    let q = c.take_due_at.ensures.front.queue in
    let shown = q.placed.shown in
    record { placed = record { members = q.placed.members; shown = search rules; placed = q.placed.placed }; sorted = q.sorted }
