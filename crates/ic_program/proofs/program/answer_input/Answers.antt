use Rattle.std.proofs.Common.{OnSome, subst}
use Rattle.std.specs.Io.KnownBytes.{IsAtEnd}
use Rattle.ic_program.specs.HowFar.{EndsStopped}
use Rattle.ic_program.proofs.AnsweredLemmas.{far_short, unless_loss_map}
use Rattle.ic_program.proofs.CutLemmas.{cut_kept, cut_more}
use Rattle.ic_program.proofs.RunEnds.{round, last_round, short_round, lost_answers, no_run, run_begins, run_on, run_finished, run_endless, stopped_run, stopped_not_finished, still_known, known_on, known_itself}
use Rattle.ic_program.proofs.program.answer_input.Goals as goal

pub loop-round-init : goal.loop-round-init
loop-round-init g c =
    (c.in-Ok.ensures.0, run_begins (g.R.Read.remaining c.args.reader.now) _ _ c.new-cut.result.items _ c.in-Ok.ensures.2 c.new-cut.ensures.items, c.in-Ok.ensures.1, known_itself (g.R.Read.remaining c.args.reader.now))

pub returns-in-Ok-false-clause-run : goal.returns-in-Ok-false-clause-run
returns-in-Ok-false-clause-run g c =
    let going = c.loop-round.invariant in
    run_finished (g.R.Read.remaining c.args.reader.now) _ _ _ c.answer_next-read.new.cut.items (g.R.Read.remaining c.answer_next-read.new.reader) c.in-Ok-false.field-0 _ _ going.0 c.in-Ok-false.field-0-test
    (round (g.R.Read.remaining c.args.reader.now) (g.R.Read.remaining c.loop-round.reader) (g.R.Read.remaining c.answer_next-read.new.reader) c.loop-round.cut.items c.answer_next-read.new.cut.items _ _ _ _ _ _ _ _
    (g.W.Write.contents c.answer_next-read.new.writer) _ c.loop-round.session.answers.items c.answer_next-read.new.session.answers.items going.1 going.2 c.in-Ok-false.ensures.answered c.in_ok-write.ensures.written)

pub returns-in-Ok-false-clause-read : goal.returns-in-Ok-false-clause-read
returns-in-Ok-false-clause-read g c =
    let end : OnSome (g.R.Read.remaining c.loop-round.reader) (IsAtEnd (g.R.Read.remaining c.answer_next-read.new.reader)) = c.in-Ok-false.ensures.end (cc (c.in-Ok-false.field-0-test)) in
    λ _. still_known _ _ _ c.loop-round.invariant.3 end

pub returns-in-Err-clause-run : goal.returns-in-Err-clause-run
returns-in-Err-clause-run g c =
    let going = c.loop-round.invariant in
    stopped_run (g.R.Read.remaining c.args.reader.now) _ (g.W.Write.contents c.write.new.writer) _ c.in-Err.stop _ c.stopped.result _ c.answer_next-read.new.session.world going.0
    (unless_loss_map c.in-Err.stop
    (λ short. short_round (g.R.Read.remaining c.args.reader.now) (g.R.Read.remaining c.loop-round.reader) c.loop-round.cut.items _ _ _ _ _ (g.W.Write.contents c.answer_next-read.new.writer) _
    c.loop-round.session.answers.items c.answer_next-read.new.session.answers.items going.1 going.2 short (cut_kept _ _ c.in_ok-write.ensures.written))
    (λ answered. last_round (g.R.Read.remaining c.args.reader.now) (g.R.Read.remaining c.loop-round.reader) c.loop-round.cut.items c.in-Err.stop _ _ _ _ _ _ _
    (g.W.Write.contents c.answer_next-read.new.writer) _ c.loop-round.session.answers.items c.answer_next-read.new.session.answers.items going.1 going.2 answered c.in_ok-write.ensures.written)
    c.in-Err.ensures.answered)
    (subst (λ n. EndsStopped c.in-Err.stop n c.stopped.result (g.W.Write.contents c.write.new.writer) (g.W.Write.contents c.stopped.new.writer)) c.in_ok-write.ensures.lines c.stopped.ensures)

pub returns-in-Err-clause-read : goal.returns-in-Err-clause-read
returns-in-Err-clause-read g c = λ is. absurd (stopped_not_finished c.in-Err.stop _ c.stopped.result _ _ c.stopped.ensures is)

pub returns-in_err-write-clause-run : goal.returns-in_err-write-clause-run
returns-in_err-write-clause-run g c =
    let going = c.loop-round.invariant in
    lost_answers (g.R.Read.remaining c.args.reader.now) _ _ _ _ _ c.from_residual.ensures c.in_err-write.ensures.lost going.0
    (short_round (g.R.Read.remaining c.args.reader.now) (g.R.Read.remaining c.loop-round.reader) c.loop-round.cut.items _ _ _ _ _ (g.W.Write.contents c.answer_next-read.new.writer) _
    c.loop-round.session.answers.items c.answer_next-read.new.session.answers.items going.1 going.2
    (far_short c.answer_next-read.result _ _ _ _ _ _ _ _ c.answer_next-read.ensures.answered) c.in_err-write.ensures.cut)

pub returns-in_err-flush-in-Ok-true-clause-run : goal.returns-in_err-flush-in-Ok-true-clause-run
returns-in_err-flush-in-Ok-true-clause-run g c =
    let going = c.loop-round.invariant in
    lost_answers (g.R.Read.remaining c.args.reader.now) _ _ _ _ _ c.from_residual-in_err-flush-in-Ok-true.ensures c.in_err-flush-in-Ok-true.ensures.lost going.0
    (short_round (g.R.Read.remaining c.args.reader.now) (g.R.Read.remaining c.loop-round.reader) c.loop-round.cut.items _ _ _ _ _ (g.W.Write.contents c.answer_next-read.new.writer) _
    c.loop-round.session.answers.items c.answer_next-read.new.session.answers.items going.1 going.2
    (far_short c.answer_next-read.result _ _ _ _ _ _ _ _ c.answer_next-read.ensures.answered)
    (cut_more _ _ _ (cut_kept _ _ c.in_ok-write.ensures.written) (cut_kept _ _ c.flush.ensures.kept)))

pub returns-in_default-clause-run : goal.returns-in_default-clause-run
returns-in_default-clause-run g c = no_run (g.R.Read.remaining c.args.reader.now) (g.W.Write.contents c.args.writer.now)

pub loop-round-preserved : goal.loop-round-preserved
loop-round-preserved g c =
    let going = c.loop-round.invariant in (
      going.0,
      run_on (g.R.Read.remaining c.args.reader.now) _ _ _ _ _ c.answer_next-read.new.cut.items (g.R.Read.remaining c.answer_next-read.new.reader) c.in-Ok-true.field-0 _ _ _ c.in-Ok-true.field-0-test
          c.in_ok-write.ensures.lines c.in_ok-write.ensures.world
          (round (g.R.Read.remaining c.args.reader.now) (g.R.Read.remaining c.loop-round.reader) (g.R.Read.remaining c.answer_next-read.new.reader) c.loop-round.cut.items c.answer_next-read.new.cut.items _ _ _ _ _ _ _ _
          (g.W.Write.contents c.answer_next-read.new.writer) _ c.loop-round.session.answers.items c.answer_next-read.new.session.answers.items going.1 going.2 c.in-Ok-true.ensures.answered c.in_ok-write.ensures.written)
          c.flush.ensures.kept,
      c.write.ensures.none,
      known_on _ _ _ going.3 c.answer_next-read.ensures.known,
    )

pub returns-clause-run : goal.returns-clause-run
returns-clause-run g c =
    run_endless (g.R.Read.remaining c.args.reader.now) _ _ _ c.loop-round.cut.items (g.R.Read.remaining c.loop-round.reader) _ _ c.loop-round.invariant.0 c.loop-round.invariant.1
