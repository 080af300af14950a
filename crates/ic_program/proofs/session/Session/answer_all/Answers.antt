use Rattle.std.proofs.Common.{◌≡◌, ◌++◌, List, ℕ, drop, take, refl, ap, ◌∙◌}
use Rattle.std.specs.Str.Lines.{lines}
use Rattle.ic_program.proofs.TextLemmas.{slice_from}
use Rattle.ic_program.proofs.PieceLemmas.{ended_lines}
use Rattle.ic_program.proofs.AnsweredLemmas.{all_of_front, stop_before, short_before, short_first, both_steps, step_and_stop, step_and_short, passed_far, kept_far, on_ok, unless_loss_map}
use Rattle.ic_program.proofs.CutLemmas.{cut_nothing}
use Rattle.ic_program.proofs.session.Session.answer_all.Goals as goal

pub returns-in_err-answer_lines : goal.returns-in_err-answer_lines
returns-in_err-answer_lines g c =
    let cut = c.answer_cut.new.cut.items in
    let rest = c.in_ok-rest.rest.now in
    let n = c.ended_bytes-ended.result in
    let stop = c.in_err-answer_lines.field-0.0 in
    λ more.
    let split : lines (cut ++ (rest ++ more)) ≡ lines (take n rest) ++ lines ((cut ++ drop n rest) ++ more) =
    ended_lines cut rest more n c.ended_bytes-ended.ensures.ended (λ some. c.in_ok-rest.ensures.ended (c.ended_bytes-ended.ensures.feed some)) in
    passed_far _ stop _ _ _ _ _ _ _ _ c.from_residual-in_err-answer_lines.ensures
    (unless_loss_map stop
    (λ short. step_and_short _ (lines (cut ++ (rest ++ more))) _ _ _ _ _ _ _ (c.in_ok-rest.ensures.answered more)
    (short_before (lines (take n rest)) (lines ((cut ++ drop n rest) ++ more)) _ _ _ _ split short))
    (λ stopped. step_and_stop _ (lines (cut ++ (rest ++ more))) stop _ _ _ _ _ _ _ _ _ (c.in_ok-rest.ensures.answered more)
    (stop_before (lines (take n rest)) (lines ((cut ++ drop n rest) ++ more)) _ stop _ _ _ _ _ _ split stopped))
    c.in_err-answer_lines.ensures)

pub returns : goal.returns
returns g c =
    let cut = c.answer_cut.new.cut.items in
    let rest = c.in_ok-rest.rest.now in
    let n = c.ended_bytes-ended.result in
    λ more.
    let split : lines (cut ++ (rest ++ more)) ≡ lines (take n rest) ++ lines ((cut ++ drop n rest) ++ more) =
    ended_lines cut rest more n c.ended_bytes-ended.ensures.ended (λ some. c.in_ok-rest.ensures.ended (c.ended_bytes-ended.ensures.feed some)) in
    kept_far c.keep.result _ _ _ _ _ _ _ _ c.keep.ensures.lost
    (short_first _ _ _ _ _ _ _
    (both_steps _ (lines (cut ++ (rest ++ more))) (lines ((cut ++ drop n rest) ++ more)) _ _ _ _ _ _ _ _ _ (c.in_ok-rest.ensures.answered more)
    (all_of_front (lines (take n rest)) (lines ((cut ++ drop n rest) ++ more)) _ (lines ((cut ++ drop n rest) ++ more)) _ _ _ _ _ _ split refl c.in_ok-answer_lines.ensures))
    (cut_nothing _))
    (λ ok.
    both_steps _ (lines (cut ++ (rest ++ more))) _ _ _ _ _ _ _ _ _ _ (c.in_ok-rest.ensures.answered more)
    (all_of_front (lines (take n rest)) (lines ((cut ++ drop n rest) ++ more)) _ _ _ _ _ _ _ _ split
    (ap (λ (l : List ℕ). lines (l ++ more)) (on_ok c.keep.result ok c.keep.ensures.kept ∙ ap (λ (l : List ℕ). cut ++ l) (slice_from n rest)))
    c.in_ok-answer_lines.ensures))
