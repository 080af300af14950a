use Rattle.std.proofs.Common.{length, not, filter, ap, ◌∙◌, subst}
use Rattle.scheduler.specs.Schedule.{IsByDeadline, is_due}
use Rattle.uses_tests.proofs.SecondTicks.{none_of_others, nothing_by_deadline}
use Rattle.uses_tests.proofs.schedule.calls.tick_twice.Goals as goal

pub returns : goal.returns
returns g c =
    let now = c.args.now in
    let waiting = c.args.tasks.now.waiting in
    let first = c.tick-moved.ensures in
    let second = c.tick-again.ensures in
    let left = first.others waiting c.stands_for_what_waits.ensures in
    let due = second.in_order (filter (λ task. not (is_due now task)) waiting) left in
    second.count ∙ ap length (nothing_by_deadline second.due (subst (IsByDeadline second.due) (none_of_others (is_due now) waiting) due))
