use Rattle.std.proofs.Common.{◌≡◌, ◌+◌, suc, [], ◌∷◌, ◌++◌, take, sym, ap, ◌∙◌}
use Rattle.std.proofs.Math.Seq.{take-suc}
use Rattle.ic_program.specs.Printed.{worker_line}
use Rattle.ic_program.proofs.WorkerLines.{line_put}
use Rattle.ic_program.proofs.workers.workers_text_of.Goals as goal

pub loop-before-preserved : goal.loop-before-preserved
loop-before-preserved g c =
    let i = c.loop-before.before in
    let list = c.index-lists-before.result in
    let cut : take (suc i) c.args.lists.now ≡ take i c.args.lists.now ++ list ∷ [] =
    take-suc c.args.lists.now i list c.loop-before-test.true ∙ ap (λ l. take i c.args.lists.now ++ l ∷ []) (sym c.index-lists-before.is) in
    line_put c.args.lists.now i list c.loop-before-test.true cut _ _ c.loop-before.invariant
    (c.in_ok-push_worker.ensures ∙ ap (λ s. c.loop-before.text.items ++ worker_line (i + 1) s) c.deref.ensures.value)
