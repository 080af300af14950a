use Rattle.std.proofs.Common.{◌∙◌, ◌++◌, [], ◌∷◌, map as map_list, refl, sym, ap, subst, append-nil, append_assoc, arith}
use Rattle.std.proofs.lemmas.List.{take_all}
use Rattle.ic_world.specs.Prelude.{reply_in, Runs}
use Rattle.ic_world.proofs.Steps.{if_ok}
use Rattle.ic_world.proofs.Runs.{runs_next}
use Rattle.ic_world.proofs.world.World.run.Goals as goal

pub loop-command-init : goal.loop-command-init
loop-command-init g c =
    ([], c.try_reserve.ensures.items ∙ sym (append-nil c.args.answers.now.items), refl, omega (arith, c.in_default.ensures.ok))

pub loop-command-preserved : goal.loop-command-preserved
loop-command-preserved g c =
    let done = c.loop-command.invariant in
    let answer = c.answer-answer.result in
    let here = c.loop-command-test.true in
    let e = c.push.ensures in
    let pushed = e.items ∙ if_ok c.push.result _ _ (e.succeeds (omega (arith, done.3, here))) in (
      done.0 ++ answer ∷ [],
      pushed ∙ ap (λ s. s ++ answer ∷ []) done.1 ∙ append_assoc c.args.answers.now.items done.0 (answer ∷ []),
      runs_next g.A.Key.Ord.cmp g.A.KeyAdapter.key_of reply_in c.args.commands.now c.loop-command.command-index c.command-item.result done.0 answer c.args.self.now c.loop-command.self c.answer-answer.new.self
          here c.command-item.is done.2 c.answer-answer.ensures,
      omega (arith, done.3, here, e.capacity, e.upper_bound),
    )

pub returns-clause-ran : goal.returns-clause-ran
returns-clause-ran g c =
    let done = c.loop-command.invariant in (
      done.0,
      done.1,
      subst (λ calls. Runs g.A.Key.Ord.cmp g.A.KeyAdapter.key_of c.args.self.now calls (map_list reply_in done.0) c.loop-command.self)
          (take_all c.loop-command.command-index c.args.commands.now c.loop-command-test.false) done.2,
    )
