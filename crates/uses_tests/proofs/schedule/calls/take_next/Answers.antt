use Rattle.std.proofs.Common.{◌∷◌, subst}
use Rattle.ic_link_ops.specs.Sequences.{IsDisjoint}
use Rattle.ic_link_ops.proofs.SequenceLemmas.{disjoint_sym}
use Rattle.scheduler.specs.Schedule.{places_at}
use Rattle.uses_tests.proofs.schedule.calls.take_next.Goals as goal

pub returns : goal.returns
returns g c p s there =
    let once = c.each_task_is_once.ensures in
    let now = c.args.tasks.now in (
      (disjoint_sym now.waiting_at (p ∷ s) (subst (IsDisjoint now.waiting_at) there (once.never_both c.args.queue))).0,
      (λ other ne. (subst (λ l. IsDisjoint l (places_at now other)) there (once.never_two c.args.queue other ne)).0),
    )
