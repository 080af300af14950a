use Rattle.std.proofs.Common.{◌≡◌, ℕ, ◌-◌, List, Some, arith, subst, sym, drop}
use Rattle.std.specs.Str.Lines.{lines}
use Rattle.ic_program.specs.HowFar.{HowFar}
use Rattle.ic_program.specs.ShortAnswers.{reply_of_short}
use Rattle.ic_program.specs.Text.{after_line}
use Rattle.ic_program.proofs.AnsweredLemmas.{call_first, lost_far, reading_first, short_kept}
use Rattle.ic_program.proofs.LineLemmas.{says_call}
use Rattle.ic_program.proofs.LinesLemmas.{after_drop, some_taken}
use Rattle.ic_program.proofs.session.Session.answer_first.Goals as goal

pub returns-in_ok-push_short-in-Some-answer_fast-clause-answered : goal.returns-in_ok-push_short-in-Some-answer_fast-clause-answered
returns-in_ok-push_short-in-Some-answer_fast-clause-answered g c =
    let first = c.in-Some-answer_fast.ensures.answered in
    let after = after_drop c.args.text.now c.in-Some-answer_fast.rest.now c.saturating_sub-taken.result first.3 c.saturating_sub-taken.ensures in
    call_first c.args.text.now (drop c.saturating_sub-taken.result c.args.text.now) first.0 _ _ _ _ _ _ c.requires (sym (says_call c.args.text.now first.0 first.1)) after c.in-Some.ensures.1
    (record { reply = reply_of_short c.in-Some-answer_fast.answer; lawful = first.2; line = c.in_ok-push_short-in-Some-answer_fast.ensures.put })

pub returns-in_ok-push_short-in-Some-answer_fast-clause-some : goal.returns-in_ok-push_short-in-Some-answer_fast-clause-some
returns-in_ok-push_short-in-Some-answer_fast-clause-some g c =
    some_taken c.args.text.now c.saturating_sub-taken.result c.requires
    (after_drop c.args.text.now c.in-Some-answer_fast.rest.now c.saturating_sub-taken.result c.in-Some-answer_fast.ensures.answered.3 c.saturating_sub-taken.ensures)

pub returns-in_err-push_short-in-Some-answer_fast-clause-answered : goal.returns-in_err-push_short-in-Some-answer_fast-clause-answered
returns-in_err-push_short-in-Some-answer_fast-clause-answered g c = lost_far _ _ _ _ _ _ _ _ _ _ c.from_residual.ensures c.in_err-push_short-in-Some-answer_fast.ensures.lost
    (short_kept _ _ _ _ c.in_err-push_short-in-Some-answer_fast.ensures.none)

pub returns-in-None-clause-answered : goal.returns-in-None-clause-answered
returns-in-None-clause-answered g c =
    let one_less : c.in-Some.number - 1 ≡ c.args.self.now.lines = omega (arith, c.in-Some.ensures.1) in
    let left : ℕ → List (List ℕ) → Type 0 = λ taken others. others ≡ lines (drop taken c.args.text.now) in
    subst (λ w. HowFar c.answer_other.result c.args.self.now.lines c.answer_other.new.self.lines left (Some (lines c.args.text.now)) w c.answer_other.new.self.world
    (Some c.args.self.now.answers.items) (Some c.answer_other.new.self.answers.items)) c.in-None.ensures.none
    (subst (λ n. HowFar c.answer_other.result n c.answer_other.new.self.lines left (Some (lines c.args.text.now)) c.answer_fast.new.world c.answer_other.new.self.world
    (Some c.args.self.now.answers.items) (Some c.answer_other.new.self.answers.items)) one_less c.answer_other.ensures.answered)

pub returns-in_default-clause-answered : goal.returns-in_default-clause-answered
returns-in_default-clause-answered g c = reading_first _ _ _ _
