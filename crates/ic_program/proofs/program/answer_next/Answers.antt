use Rattle.std.proofs.Common.{◌≡◌, length, arith, subst, le_refl}
use Rattle.std.specs.Io.BufRead.{FillKeeps}
use Rattle.std.specs.Io.KnownBytes.{Consumes}
use Rattle.std.proofs.BufReadLemmas.{Consumes_shown}
use Rattle.std.proofs.Math.Seq.{take-length}
use Rattle.ic_program.proofs.AnsweredLemmas.{passed_far, reading_first}
use Rattle.ic_program.proofs.ReadAhead.{read_on, read_stop, read_none, stop_end}
use Rattle.ic_program.proofs.RunEnds.{none_represented}
use Rattle.ic_program.proofs.program.answer_next.Goals as goal

pub returns-in_err-answer_all-in-Ok-clause-answered : goal.returns-in_err-answer_all-in-Ok-clause-answered
returns-in_err-answer_all-in-Ok-clause-answered g c =
    let stop = c.in_err-answer_all-in-Ok.field-0.0 in
    passed_far _ stop _ _ _ _ _ _ _ _ c.from_residual-in_err-answer_all-in-Ok.ensures
    (read_stop _ _ _ _ stop _ _ (g.R.Read.remaining c.args.reader.now) c.args.cut.now.items c.in-Ok.lent.now c.in-Ok.ensures.front c.in_err-answer_all-in-Ok.ensures)

pub returns-in_ok-answer_all-in-Ok-clause-answered : goal.returns-in_ok-answer_all-in-Ok-clause-answered
returns-in_ok-answer_all-in-Ok-clause-answered g c =
    let shown = c.in-Ok.lent.now in
    let rested = c.fill_buf.follows.lender-at-none in
    let filled = subst (FillKeeps _ (g.R.Read.remaining rested) (g.R.BufRead.consumable_len rested)) c.in-Ok.is c.fill_buf.follows.holds-at-none in
    let moved = Consumes_shown _ _ _ _ shown (length shown) (le_refl (length shown)) c.in-Ok.ensures.front c.in-Ok.ensures.end filled.0 filled.1 c.consume.ensures.bytes in
    read_on _ _ _ _ _ _ (g.R.Read.remaining c.args.reader.now) _ c.args.cut.now.items c.answer_all.new.cut.items shown (subst (Consumes _ _) (take-length shown) moved.0) c.in_ok-answer_all-in-Ok.ensures

pub returns-in-Err-clause-answered : goal.returns-in-Err-clause-answered
returns-in-Err-clause-answered g c = read_none _ (g.R.Read.remaining c.args.reader.now) _ c.args.cut.now.items _ _ c.fill_buf.follows.holds-at-none.0

pub returns-in-Err-2-clause-answered : goal.returns-in-Err-2-clause-answered
returns-in-Err-2-clause-answered g c = reading_first _ _ _ _

pub returns-in_err-answer_lines-in-Ok-empty-clause-answered : goal.returns-in_err-answer_lines-in-Ok-empty-clause-answered
returns-in_err-answer_lines-in-Ok-empty-clause-answered g c =
    let stop = c.in_err-answer_lines-in-Ok-empty.field-0.0 in
    let none : length c.in-Ok-empty.field-0.now ≡ 0 = omega (arith, c.in-Ok-empty.len_below) in
    passed_far _ stop _ _ _ _ _ _ _ _ c.from_residual.ensures
    (stop_end _ _ _ _ stop _ _ (g.R.Read.remaining c.args.reader.now) c.args.cut.now.items c.deref.result.now c.deref.ensures.value
    (none_represented (g.R.Read.remaining c.args.reader.now) c.fill_buf.result c.in-Ok-empty.field-0 (λ s. length s.now ≡ 0) c.in-Ok-empty.is none c.fill_buf.ensures.end)
    c.in_err-answer_lines-in-Ok-empty.ensures)
