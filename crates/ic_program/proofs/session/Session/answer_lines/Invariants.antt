use Rattle.std.proofs.Common.{◌≡◌, ◌+◌, Some, length}
use Rattle.std.specs.Str.Lines.{lines}
use Rattle.std.specs.Io.KnownBytes.{append_known}
use Rattle.ic_program.specs.HowFar.{AnsweredFirst}
use Rattle.ic_program.proofs.session.Session.answer_lines.Given as goal

-- the lines of the text before `rest` were answered
abbrev pub invariant-loop-rest : goal.invariant-loop-rest
invariant-loop-rest g l =
    AnsweredFirst (Some (lines l.fn.text)) (λ count others. (l.self.lines ≡ l.fn.self.lines + count) × (others ≡ lines l.rest)) l.fn.self.world l.self.world
    (append_known (g.W.Write.contents l.fn.writer) l.fn.self.answers.items) (append_known (g.W.Write.contents l.writer) l.self.answers.items)

abbrev pub decreases-loop-rest : goal.decreases-loop-rest
decreases-loop-rest g l = length l.rest
