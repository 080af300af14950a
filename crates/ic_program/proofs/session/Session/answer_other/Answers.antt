use Rattle.std.proofs.Common.{◌≡◌, arith, sym, drop, ◌∙◌}
use Rattle.ic_program.specs.Text.{after_line}
use Rattle.ic_program.proofs.LinesLemmas.{after_drop, some_taken}
use Rattle.ic_program.proofs.AnsweredLemmas.{empty_first, call_first, lost_far, short_kept, stop_first}
use Rattle.ic_program.proofs.session.Session.answer_other.Goals as goal

pub returns-in_err-call-in-Call-clause-answered : goal.returns-in_err-call-in-Call-clause-answered
returns-in_err-call-in-Call-clause-answered g c = lost_far _ _ _ _ _ _ _ _ _ _ c.from_residual.ensures c.in_err-call-in-Call.ensures.lost
    (short_kept _ _ _ _ c.in_err-call-in-Call.ensures.none)

pub returns-in-Empty-clause-answered : goal.returns-in-Empty-clause-answered
returns-in-Empty-clause-answered g c =
    let after : drop c.saturating_sub-taken.result c.args.text.now ≡ after_line c.args.text.now =
    after_drop c.args.text.now c.first_of-said.result.1.now c.saturating_sub-taken.result (rw c.in-Empty.is at c.first_of-said.ensures.after) c.saturating_sub-taken.ensures in
    empty_first c.args.text.now (drop c.saturating_sub-taken.result c.args.text.now) _ _ _ _ c.requires.0 (sym c.first_of-said.ensures.said ∙ c.in-Empty.is) after (omega (arith, c.requires.1))

pub returns-in-Empty-clause-some : goal.returns-in-Empty-clause-some
returns-in-Empty-clause-some g c =
    let after : drop c.saturating_sub-taken.result c.args.text.now ≡ after_line c.args.text.now =
    after_drop c.args.text.now c.first_of-said.result.1.now c.saturating_sub-taken.result (rw c.in-Empty.is at c.first_of-said.ensures.after) c.saturating_sub-taken.ensures in
    some_taken c.args.text.now c.saturating_sub-taken.result c.requires.0 after

pub returns-in_ok-call-in-Call-clause-answered : goal.returns-in_ok-call-in-Call-clause-answered
returns-in_ok-call-in-Call-clause-answered g c =
    let after : drop c.saturating_sub-taken.result c.args.text.now ≡ after_line c.args.text.now =
    after_drop c.args.text.now c.first_of-said.result.1.now c.saturating_sub-taken.result (rw c.in-Call.is at c.first_of-said.ensures.after) c.saturating_sub-taken.ensures in
    call_first c.args.text.now (drop c.saturating_sub-taken.result c.args.text.now) c.in-Call.command _ _ _ _ _ _ c.requires.0 (sym c.first_of-said.ensures.said ∙ c.in-Call.is) after
    (omega (arith, c.requires.1, c.call.ensures.lines)) c.in_ok-call-in-Call.ensures.answered

pub returns-in_ok-call-in-Call-clause-some : goal.returns-in_ok-call-in-Call-clause-some
returns-in_ok-call-in-Call-clause-some g c =
    let after : drop c.saturating_sub-taken.result c.args.text.now ≡ after_line c.args.text.now =
    after_drop c.args.text.now c.first_of-said.result.1.now c.saturating_sub-taken.result (rw c.in-Call.is at c.first_of-said.ensures.after) c.saturating_sub-taken.ensures in
    some_taken c.args.text.now c.saturating_sub-taken.result c.requires.0 after

pub returns-in-NoCommand-clause-answered : goal.returns-in-NoCommand-clause-answered
returns-in-NoCommand-clause-answered g c =
    stop_first c.args.text.now c.stop_at.result _ _ _ _ c.requires.0 (sym c.first_of-said.ensures.said ∙ c.in-NoCommand.is) (omega (arith, c.requires.1)) c.stop_at.ensures
