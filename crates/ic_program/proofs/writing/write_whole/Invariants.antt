use Rattle.std.specs.Io.KnownBytes.{Keeps, append_known}
use Rattle.ic_program.proofs.writing.write_whole.Given as goal

-- the bytes of `rest` are still to be written, and those before it are written
abbrev pub invariant-loop-turn : goal.invariant-loop-turn
invariant-loop-turn g l = Keeps (append_known (g.W.Write.contents l.fn.writer) l.fn.bytes) (append_known (g.W.Write.contents l.writer) l.rest)
