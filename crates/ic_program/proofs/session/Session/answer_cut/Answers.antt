use Rattle.std.proofs.Common.{◌++◌, ◌+◌, List, ℕ, drop, arith, sym, ap₂, ◌∙◌, eqb-true}
use Rattle.std.specs.Str.Lines.{lines}
use Rattle.std.proofs.lemmas.Option.{same_Some}
use Rattle.ic_program.proofs.TextLemmas.{slice_from}
use Rattle.ic_program.proofs.PieceLemmas.{cut_ended}
use Rattle.ic_program.proofs.AnsweredLemmas.{none_first, all_of_front, stop_before, short_before, short_none, passed_far, lost_far, unless_loss_map}
use Rattle.ic_program.proofs.session.Session.answer_cut.Goals as goal

pub returns-then-is_empty-clause-answered : goal.returns-then-is_empty-clause-answered
returns-then-is_empty-clause-answered g c = λ more. none_first _ _ _ _ (λ others is. (omega arith, sym (same_Some _ _ is)))

pub returns-in_default-clause-answered : goal.returns-in_default-clause-answered
returns-in_default-clause-answered g c = λ more. none_first _ _ _ _ (λ others is. (omega arith, sym (same_Some _ _ is)))

pub returns-in_err-keep-clause-answered : goal.returns-in_err-keep-clause-answered
returns-in_err-keep-clause-answered g c = λ more. lost_far _ _ _ _ _ _ _ _ _ _ c.from_residual.ensures c.in_err-keep.ensures.lost (short_none _ _ _)

pub returns-in_err-answered-clause-answered : goal.returns-in_err-answered-clause-answered
returns-in_err-answered-clause-answered g c =
    let bytes = c.args.bytes.now in
    let feed = c.in-Some.feed in
    let stop = c.in_err-answered.field-0.0 in
    λ more. passed_far _ stop _ _ _ _ _ _ _ _ c.from_residual-in_err-answered.ensures
    (unless_loss_map stop
    (short_before (lines c.deref.result.now) (lines (drop (feed + 1) bytes ++ more)) _ _ _ _
    (cut_ended c.args.cut.now.items bytes more c.deref.result.now feed c.in-Some.ensures.0.high (eqb-true _ 10 c.in-Some.ensures.1) (c.deref.ensures.value ∙ c.in_ok-keep.ensures.kept)))
    (stop_before (lines c.deref.result.now) (lines (drop (feed + 1) bytes ++ more)) _ stop _ _ _ _ _ _
    (cut_ended c.args.cut.now.items bytes more c.deref.result.now feed c.in-Some.ensures.0.high (eqb-true _ 10 c.in-Some.ensures.1) (c.deref.ensures.value ∙ c.in_ok-keep.ensures.kept)))
    c.in_err-answered.ensures)

pub returns-clause-answered : goal.returns-clause-answered
returns-clause-answered g c =
    let bytes = c.args.bytes.now in
    let feed = c.in-Some.feed in
    λ more. all_of_front (lines c.deref.result.now) (lines (drop (feed + 1) bytes ++ more)) _ _ _ _ _ _ _ _
    (cut_ended c.args.cut.now.items bytes more c.deref.result.now feed c.in-Some.ensures.0.high (eqb-true _ 10 c.in-Some.ensures.1) (c.deref.ensures.value ∙ c.in_ok-keep.ensures.kept))
    (ap₂ (λ (cut rest : List ℕ). lines (cut ++ (rest ++ more))) c.clear.ensures.items (slice_from (feed + 1) bytes))
    c.in_ok-answered.ensures
