use Rattle.std.proofs.Common.{subst}
use Rattle.std.specs.Io.KnownBytes.{Keeps}
use Rattle.ic_program.proofs.RunEnds.{finished_run, so_far}
use Rattle.ic_program.proofs.SharedLemmas.{all_shared, some_shared}
use Rattle.ic_program.proofs.program.run_program.Goals as goal
use Rattle.ic_program.proofs.program.run_program.Goals.{in-Some+in-Ok, in-Some+in-Err, in-None}

pub returns-then-is_empty-clause-finished : goal.returns-then-is_empty-clause-finished
returns-then-is_empty-clause-finished g c =
    λ _. finished_run _ _ _ c.run_lines.result c.status_of.result _ c.status_of.ensures c.run_lines.ensures.run c.run_lines.ensures.read

pub returns-then-is_empty-clause-always : goal.returns-then-is_empty-clause-always
returns-then-is_empty-clause-always g c = λ _. so_far _ _ _ c.run_lines.result c.run_lines.ensures.run

pub returns-clause-workers_always : goal.returns-clause-workers_always
returns-clause-workers_always g c = λ asked ask.
    elim c.match-workers_of.branch [
      | in-Some+in-Ok w ↦
          all_shared c.args.words.now w.in-Some.asked asked w.in-Some.ensures.asked ask _ (g.W.Write.contents w.run_workers.new.writer) _
          (subst (λ x. Keeps (g.W.Write.contents x) (g.W.Write.contents c.flush-flushed.new.self)) w.writer-is c.flush-flushed.ensures.bytes) w.in-Ok.ensures.shared
      | in-Some+in-Err w ↦
          some_shared c.args.words.now w.in-Some.asked asked w.in-Some.ensures.asked ask _ (g.W.Write.contents w.run_workers.new.writer) _
          (subst (λ x. Keeps (g.W.Write.contents x) (g.W.Write.contents c.flush-flushed.new.self)) w.writer-is c.flush-flushed.ensures.bytes) w.in-Err.ensures.cut
      | in-None w ↦ absurd (w.in-None.ensures.none asked ask)
    ]
