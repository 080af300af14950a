use Rattle.std.proofs.Common.{◌≡◌, [], true, OnSome, IsSome}
use Rattle.ic_program.specs.Played.{IsNew}
use Rattle.ic_program.specs.HowFar.{AnsweredFirst, IsLeftToRead}
use Rattle.ic_program.proofs.RunEnds.{lines_in}
use Rattle.ic_program.proofs.program.answer_input.Given as goal

-- the answers up to now are written, and the lines that remain are those of the incomplete line and of the bytes that the reader still has
abbrev pub invariant-loop-round : goal.invariant-loop-round
invariant-loop-round g l =
    IsNew l.initial.session.world
    × AnsweredFirst (lines_in (g.R.Read.remaining l.fn.reader)) (λ count others. (l.session.lines ≡ count) × IsLeftToRead l.cut.items (g.R.Read.remaining l.reader) true others)
    l.initial.session.world l.session.world (g.W.Write.contents l.fn.writer) (g.W.Write.contents l.writer)
    × (l.session.answers.items ≡ [])
    × OnSome (g.R.Read.remaining l.fn.reader) (IsSome (g.R.Read.remaining l.reader))
