use Rattle.std.proofs.Common.{◌≡◌, ◌++◌, ℕ, List, codes, decimal, subst, ◌∙◌}
use Rattle.std.specs.Io.KnownBytes.{Keeps, append_known}
use Rattle.ic_program.specs.Played.{CutTo}
use Rattle.ic_program.proofs.CutLemmas.{cut_before, cut_after, on_err, on_err_map}
use Rattle.ic_program.proofs.program.write_notice.Goals as goal

pub returns-in_err-write_whole-clause-cut : goal.returns-in_err-write_whole-clause-cut
returns-in_err-write_whole-clause-cut g c =
    on_err c.from_residual.result (cut_before (g.W.Write.contents c.args.writer.now) _ (codes "line ") (decimal c.args.line ++ codes ": no command\n") c.in_err-write_whole.ensures.cut)

pub returns-in_err-write_whole-2-clause-cut : goal.returns-in_err-write_whole-2-clause-cut
returns-in_err-write_whole-2-clause-cut g c =
    let text : c.as_bytes.result.now ≡ decimal c.args.line = c.as_bytes.ensures.value ∙ c.format.ensures.text in
    on_err c.from_residual-in_err-write_whole-2.result
    (cut_after (g.W.Write.contents c.args.writer.now) (g.W.Write.contents c.write_whole.new.writer) _ (codes "line ") (decimal c.args.line ++ codes ": no command\n") c.in_ok-write_whole.ensures.written
    (cut_before (g.W.Write.contents c.write_whole.new.writer) _ (decimal c.args.line) (codes ": no command\n")
    (subst (λ (d : List ℕ). CutTo (append_known (g.W.Write.contents c.write_whole.new.writer) d) (g.W.Write.contents c.write_whole-2.new.writer)) text c.in_err-write_whole-2.ensures.cut)))

pub returns-clause-cut : goal.returns-clause-cut
returns-clause-cut g c =
    let text : c.as_bytes.result.now ≡ decimal c.args.line = c.as_bytes.ensures.value ∙ c.format.ensures.text in
    on_err_map c.write_whole-3.result (λ cut.
    cut_after (g.W.Write.contents c.args.writer.now) (g.W.Write.contents c.write_whole.new.writer) _ (codes "line ") (decimal c.args.line ++ codes ": no command\n") c.in_ok-write_whole.ensures.written
    (cut_after (g.W.Write.contents c.write_whole.new.writer) (g.W.Write.contents c.write_whole-2.new.writer) _ (decimal c.args.line) (codes ": no command\n")
    (subst (λ (d : List ℕ). Keeps (append_known (g.W.Write.contents c.write_whole.new.writer) d) (g.W.Write.contents c.write_whole-2.new.writer)) text c.in_ok-write_whole-2.ensures.written) cut))
    c.write_whole-3.ensures.cut
